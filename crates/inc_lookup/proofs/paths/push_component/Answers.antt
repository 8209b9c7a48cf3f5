use Rattle.std.proofs.Common.{◌≡◌, ℕ, List, [], ◌∷◌, ◌++◌, false, Some, length, take, refl, ap, ◌∙◌, rules, arith}
use Rattle.std.specs.Prelude.{◌==◌, codes, bytes_eq}
use Rattle.std.proofs.lemmas.Bool.{true≢false}
use Rattle.std.proofs.lemmas.List.{take-append-le, append_assoc}
use Rattle.inc_lookup.specs.Paths.{with_component}
use Rattle.inc_lookup.proofs.PathLemmas.{Shows-push, Shows-first, name-from}
use Rattle.inc_lookup.proofs.paths.push_component.Goals as goal
use Rattle.inc_lookup.proofs.paths.push_component.Goals.{then-len-root+in_ok-push, else-len-root}

-- a component that is neither empty nor . nor .. stays
with_component-name : (parts : List (List ℕ)) (c : List ℕ) → (length c == 0) ≡ false → bytes_eq c (codes ".") ≡ false → bytes_eq c (codes "..") ≡ false → with_component parts c ≡ Some (parts ++ c ∷ [])
with_component-name parts [] some dot dots = absurd (true≢false some)
with_component-name parts (b ∷ bs) some dot dots = rw (dot, dots) refl

pub returns-clause-shows : goal.returns-clause-shows
returns-clause-shows c = λ parts shows.
    let some : (length c.args.component.now == 0) ≡ false = cc in
    let kept = with_component-name parts c.args.component.now some (search rules) (search rules) in
    let name = name-from c.args.component.now c.requires some in
    rw kept (
    elim c.if-len-root.branch [
      | then-len-root+in_ok-push w ↦
          rw (c.in_ok-extend_from_slice.ensures.items, w.out-is, w.in_ok-push.ensures.items) (
            refl,
            Shows-push c.args.root parts c.args.out.now.items c.args.component.now shows name (omega arith),
            ap (take c.args.root) (append_assoc c.args.out.now.items (47 ∷ []) c.args.component.now)
                ∙ take-append-le c.args.root c.args.out.now.items (47 ∷ c.args.component.now) shows.within,
          )
      | else-len-root w ↦
          rw (c.in_ok-extend_from_slice.ensures.items, w.out-is) (
            refl,
            Shows-first c.args.root parts c.args.out.now.items c.args.component.now shows name (omega arith),
            take-append-le c.args.root c.args.out.now.items c.args.component.now shows.within,
          )
    ]
    )
