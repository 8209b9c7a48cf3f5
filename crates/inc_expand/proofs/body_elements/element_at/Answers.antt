use Rattle.std.proofs.Common.{Some, ap, ◌∙◌}
use Rattle.inc_macro.specs.declared.roles.Role.TheVariants.{Itself, Paste as PasteRole, Hash as HashRole, Expanded as ExpandedRole, Comma as CommaRole, Nothing as NothingRole}
use Rattle.inc_expand.specs.Elements.{Expanded}
use Rattle.inc_expand.specs.ElementValues.{word_value}
use Rattle.inc_expand.proofs.ElementSteps.{element-is, place-is, space-is}
use Rattle.inc_expand.proofs.body_elements.element_at.Goals as goal

pub returns-in-Itself : goal.returns-in-Itself
returns-in-Itself c = element-is c.args.definition.now c.args.i (word_value c.word_at.result) Itself c.word_at.ensures c.in-Itself.ensures

pub returns-in-Paste : goal.returns-in-Paste
returns-in-Paste c = (place-is c.args.definition.now c.args.i PasteRole c.requires c.in-Paste.ensures).2

pub returns-in-Hash : goal.returns-in-Hash
returns-in-Hash c = (place-is c.args.definition.now c.args.i HashRole c.requires c.in-Hash.ensures).2

pub returns-in-Expanded : goal.returns-in-Expanded
returns-in-Expanded c =
    let place = place-is c.args.definition.now c.args.i (ExpandedRole c.in-Expanded.n) c.requires c.in-Expanded.ensures in
    place.2 ∙ ap (λ s. Some (Expanded s c.in-Expanded.n)) (space-is c.args.definition.now.body c.args.i place.0 c.space.result place.1 c.space.ensures)

pub returns-in-Comma : goal.returns-in-Comma
returns-in-Comma c =
    element-is c.args.definition.now c.args.i (word_value c.word_at-in-Comma.result) (CommaRole c.in-Comma.n) c.word_at-in-Comma.ensures c.in-Comma.ensures

pub returns-in-Nothing : goal.returns-in-Nothing
returns-in-Nothing c = (place-is c.args.definition.now c.args.i NothingRole c.requires c.in-Nothing.ensures).2
