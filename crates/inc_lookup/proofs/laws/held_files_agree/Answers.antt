use Rattle.inc_lookup.proofs.HeldLemmas.{held_agrees}
use Rattle.inc_lookup.proofs.laws.held_files_agree.Goals as goal

pub returns : goal.returns
returns c = held_agrees
