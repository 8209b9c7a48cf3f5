use Rattle.inc_expand.specs.Sets.{number_of}
use Rattle.inc_expand.proofs.NameNumbers.{and-false}
use Rattle.inc_expand.proofs.LowNames.{in-empty}
use Rattle.inc_expand.proofs.hide_sets.HideSets.empty.Goals as goal

pub returns-clause-none : goal.returns-clause-none
returns-clause-none c s name = and-false _ _ (in-empty s.nodes (number_of s.names name))
