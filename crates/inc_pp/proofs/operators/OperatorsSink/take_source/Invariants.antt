use Rattle.std.proofs.Common.{map, take}
use Rattle.inc_token.specs.Views.{seen}
use Rattle.inc_expand.specs.Sinks.{Taken, item_of_source}
use Rattle.inc_pp.specs.Operators.{takes_operand}
use Rattle.inc_pp.proofs.operators.OperatorsSink.take_source.Given as goal

abbrev pub invariant-loop-token : goal.invariant-loop-token
invariant-loop-token l = Taken takes_operand l.fn.first l.fn.self (map item_of_source (map seen (take l.token-index l.tokens))) l.self
