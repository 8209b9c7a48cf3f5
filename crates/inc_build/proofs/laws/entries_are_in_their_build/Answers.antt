use Rattle.inc_build.proofs.UseLemmas.{each_compiles}
use Rattle.inc_build.proofs.laws.entries_are_in_their_build.Goals as goal

pub returns : goal.returns
returns c = each_compiles
