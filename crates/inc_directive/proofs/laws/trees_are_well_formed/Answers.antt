use Rattle.inc_directive.proofs.Shapes.{formed-group_tree}
use Rattle.inc_directive.proofs.laws.trees_are_well_formed.Goals as goal

pub returns : goal.returns
returns c = formed-group_tree
