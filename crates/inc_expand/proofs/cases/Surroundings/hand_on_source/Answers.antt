use Rattle.std.proofs.Common.{rules}
use Rattle.inc_expand.specs.Cases.{surroundings_value}
use Rattle.inc_expand.proofs.StreamSteps.{are-passed}
use Rattle.inc_expand.proofs.cases.Surroundings.hand_on_source.Goals as goal

pub returns : goal.returns
returns g c =
    are-passed g.S.Sink.takes (surroundings_value c.args.self.now) c.args.first.now c.if-first.first c.args.sink.now c.take_source.new.self c.args.list.now c.skip.new.self c.source-source.result.now c.ordinary_count-passed.result
    c.ordinary_count-passed.ensures.within (c.source-source.ensures c.ordinary_count-passed.result c.ordinary_count-passed.ensures.within) c.skip.ensures c.ordinary_count-passed.ensures.alone c.in_ok-take_source.ensures (search rules)
