use Rattle.inc_graph.specs.HeaderNames.{seen_name}
use Rattle.inc_graph.proofs.DirectLemmas.{direct_pushed}
use Rattle.inc_graph.proofs.building.directs.Directs.push.Goals as goal

pub returns : goal.returns
returns c =
    rw (← c.self.view_is) (direct_pushed c.self.inside.names c.push.new.self c.self.inside.kept.items c.push-2.new.self.items (seen_name c.args.direct.header) _
    c.self.invariant c.in_ok-header.ensures.pushed c.in_ok-push.ensures.items c.in_ok-header.ensures.number)
