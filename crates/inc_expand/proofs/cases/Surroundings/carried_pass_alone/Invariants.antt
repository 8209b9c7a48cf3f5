use Rattle.std.proofs.Common.{take}
use Rattle.inc_expand.specs.Sets.{Sets}
use Rattle.inc_expand.specs.Carriers.{carriers}
use Rattle.inc_expand.specs.Cases.{surroundings_value}
use Rattle.inc_expand.specs.Streams.{PassAlone}
use Rattle.inc_expand.proofs.cases.Surroundings.carried_pass_alone.Given as goal

abbrev pub invariant-loop-token : goal.invariant-loop-token
invariant-loop-token l = (s : Sets) → PassAlone (surroundings_value l.self) (carriers s (take l.token-index l.tokens))
