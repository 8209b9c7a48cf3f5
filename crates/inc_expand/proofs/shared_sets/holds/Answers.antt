use Rattle.std.proofs.Common.{sym, ◌∙◌}
use Rattle.inc_expand.proofs.Depths.{has-full}
use Rattle.inc_expand.proofs.shared_sets.holds.Goals as goal

pub returns : goal.returns
returns c = c.holds_at.ensures ∙ sym (has-full c.requires.table c.depth_of.result c.args.set c.args.number c.depth_of.ensures.deep c.depth_of.ensures.set)
