use Rattle.inc_build.proofs.OnlyUses.{only_entries}
use Rattle.inc_build.proofs.laws.entries_alone_are_in_their_build.Goals as goal

pub returns : goal.returns
returns c = only_entries
