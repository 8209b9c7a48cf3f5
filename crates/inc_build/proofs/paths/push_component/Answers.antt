use Rattle.std.proofs.Common.{◌≡◌, ◌∷◌, [], false, length, rules}
use Rattle.std.specs.Prelude.{◌==◌}
use Rattle.std.proofs.lemmas.List.{append_assoc}
use Rattle.inc_build.proofs.PathLemmas.{Shows-push, with_component-name}
use Rattle.inc_build.proofs.paths.push_component.Goals as goal

pub returns : goal.returns
returns c = λ parts shows.
    let some : (length c.args.component.now == 0) ≡ false = cc in
    rw (with_component-name parts c.args.component.now some (search rules) (search rules), c.in_ok-extend_from_slice.ensures.items, c.in_ok-push.ensures.items, append_assoc c.args.out.now.items (47 ∷ []) c.args.component.now)
    (Shows-push parts c.args.out.now.items c.args.component.now c.requires shows)
