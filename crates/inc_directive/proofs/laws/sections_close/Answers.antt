use Rattle.inc_directive.proofs.SoundLines.{closes-group_tree}
use Rattle.inc_directive.proofs.laws.sections_close.Goals as goal

pub returns : goal.returns
returns c = closes-group_tree
