use Rattle.inc_pp.proofs.BlankedReadings.{blanking-is-removal, blanking-some}
use Rattle.inc_pp.proofs.blanking_laws.blanking_is_removal.Goals as goal

pub returns-clause-all : goal.returns-clause-all
returns-clause-all c = blanking-is-removal

pub returns-clause-some : goal.returns-clause-some
returns-clause-some c = blanking-some
