use Rattle.std.proofs.Common.{ap, sym, ◌∙◌}
use Rattle.inc_directive.specs.Groups.{group_tree}
use Rattle.inc_directive.proofs.Shapes.{tree-again, one-tree}
use Rattle.inc_directive.proofs.laws.lines_have_one_well_formed_tree.Goals as goal

pub returns-clause-tree : goal.returns-clause-tree
returns-clause-tree c = λ lines tree w h. sym (ap group_tree h) ∙ tree-again tree w

pub returns-clause-one : goal.returns-clause-one
returns-clause-one c = one-tree
