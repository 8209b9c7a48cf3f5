use Rattle.inc_build.proofs.OnceLemmas.{source_once}
use Rattle.inc_build.proofs.laws.sources_are_told_apart.Goals as goal

pub returns : goal.returns
returns c = source_once
