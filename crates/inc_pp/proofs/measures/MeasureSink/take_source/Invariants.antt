use Rattle.std.proofs.Common.{map, take}
use Rattle.inc_token.specs.Views.{seen}
use Rattle.inc_expand.specs.Sinks.{Taken, item_of_source}
use Rattle.inc_pp.specs.Measures.{takes_measured}
use Rattle.inc_pp.proofs.measures.MeasureSink.take_source.Given as goal

abbrev pub invariant-loop-token : goal.invariant-loop-token
invariant-loop-token l = Taken takes_measured l.fn.first l.fn.self (map item_of_source (map seen (take l.token-index l.tokens))) l.self
