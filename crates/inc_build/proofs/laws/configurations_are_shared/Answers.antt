use Rattle.inc_build.proofs.OnceLemmas.{configuration_once}
use Rattle.inc_build.proofs.laws.configurations_are_shared.Goals as goal

pub returns : goal.returns
returns c = configuration_once
