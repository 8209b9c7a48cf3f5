use Rattle.std.proofs.Common.{Some, sym, ap, ◌∙◌}
use Rattle.inc_macro.specs.declared.roles.Role.TheVariants.{AsWritten as WrittenRole}
use Rattle.inc_expand.specs.Elements.{AsWritten, element}
use Rattle.inc_expand.proofs.ElementSteps.{place-is, space-is}
use Rattle.inc_expand.proofs.body_elements.written_at.Goals as goal

pub returns-in-Some : goal.returns-in-Some
returns-in-Some c =
    let place = place-is c.args.definition.now c.args.i (WrittenRole c.args.n) c.requires.within c.requires.role in
    place.2 ∙ ap (λ h. Some (element h place.0 (WrittenRole c.args.n))) (sym c.in-Some.ensures)

pub returns-in-None : goal.returns-in-None
returns-in-None c =
    let place = place-is c.args.definition.now c.args.i (WrittenRole c.args.n) c.requires.within c.requires.role in
    place.2 ∙ ap (λ h. Some (element h place.0 (WrittenRole c.args.n))) (sym c.in-None.ensures)
    ∙ ap (λ s. Some (AsWritten s c.args.n)) (space-is c.args.definition.now.body c.args.i place.0 c.space.result place.1 c.space.ensures)
