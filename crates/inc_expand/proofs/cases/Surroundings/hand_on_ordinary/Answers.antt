use Rattle.inc_expand.specs.Cases.{surroundings_value}
use Rattle.inc_expand.proofs.StreamSteps.{passed-both}
use Rattle.inc_expand.proofs.cases.Surroundings.hand_on_ordinary.Goals as goal

pub returns : goal.returns
returns g c = passed-both g.S.Sink.takes (surroundings_value c.args.self.now) _ _ _ _ _ _ _ _ _ c.in_ok-hand_on_put.ensures c.in_ok-hand_on_source.ensures
