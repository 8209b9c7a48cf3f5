use Rattle.inc_directive.proofs.TreeLines.{lines-group_tree}
use Rattle.inc_directive.proofs.laws.trees_keep_their_lines.Goals as goal

pub returns : goal.returns
returns c = lines-group_tree
