use Rattle.inc_directive.proofs.TreeLinks.{links-group_tree}
use Rattle.inc_directive.proofs.laws.links_are_those_of_opening_lines.Goals as goal

pub returns : goal.returns
returns c = links-group_tree
