use Rattle.std.proofs.Common.{Some, sym, ap, ◌∙◌}
use Rattle.inc_macro.specs.declared.roles.Role.TheVariants.{Optional as OptionalRole}
use Rattle.inc_expand.specs.Elements.{Optional}
use Rattle.inc_expand.proofs.ElementSteps.{place-is}
use Rattle.inc_expand.proofs.body_elements.optional_at.Goals as goal

pub returns : goal.returns
returns c =
    let place = place-is c.args.definition.now c.args.i (OptionalRole c.args.n) c.requires.within c.requires.role in
    place.2 ∙ ap (λ h. Some (Optional h c.args.n)) (sym c.hash_before-hash.ensures)
