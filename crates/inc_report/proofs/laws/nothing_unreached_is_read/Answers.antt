use Rattle.inc_report.proofs.KeptOut.{nothing_is_read_without_a_chain, nothing_unreached_is_read}
use Rattle.inc_report.proofs.laws.nothing_unreached_is_read.Goals as goal

pub returns-clause-walks : goal.returns-clause-walks
returns-clause-walks c = nothing_unreached_is_read

pub returns-clause-chains : goal.returns-clause-chains
returns-clause-chains c = nothing_is_read_without_a_chain
