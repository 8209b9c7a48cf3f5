use Rattle.std.proofs.Common.{◌∙◌, ◌&&◌, ℕ, List, ap, sym}
use Rattle.inc_macro.specs.Macros.{same_names}
use Rattle.inc_macro.proofs.JoinedNames.{parts-by, same-by}
use Rattle.inc_macro.proofs.name_sets.DistinctNames.same.Goals as goal

pub returns-then-eq : goal.returns-then-eq
returns-then-eq c =
    let m : List (List ℕ) = c.self.inside.more in
    let n : List (List ℕ) = c.other.inside.more in
    same-by m n _ _ _ c.keys.ensures c.keys-then-eq.ensures c.eq-then-eq.ensures
    ∙ ap (λ b. b && same_names m n) (sym c.if-eq.true)
    ∙ parts-by c.self.inside.first.items c.other.inside.first.items m n c.args.self.now c.args.other.now _ _ _ c.self.invariant.0 c.other.invariant.0
    c.self.invariant.1 c.other.invariant.1 c.self.view_is c.other.view_is c.as_slice.ensures.value c.as_slice-2.ensures.value c.eq.ensures

pub returns-else-eq : goal.returns-else-eq
returns-else-eq c =
    let m : List (List ℕ) = c.self.inside.more in
    let n : List (List ℕ) = c.other.inside.more in
    c.if-eq.false
    ∙ ap (λ b. b && same_names m n) (sym c.if-eq.false)
    ∙ parts-by c.self.inside.first.items c.other.inside.first.items m n c.args.self.now c.args.other.now _ _ _ c.self.invariant.0 c.other.invariant.0
    c.self.invariant.1 c.other.invariant.1 c.self.view_is c.other.view_is c.as_slice.ensures.value c.as_slice-2.ensures.value c.eq.ensures
