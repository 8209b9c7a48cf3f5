use Rattle.std.proofs.Common.{◌≡◌, length, arith}
use Rattle.inc_graph.proofs.BetweenLemmas.{pushed}
use Rattle.inc_graph.proofs.between.push_numbered.Goals as goal

pub returns : goal.returns
returns c =
    let id : c.new-id.result ≡ length c.args.edges.now.items = omega arith in
    pushed c.args.edges.now.items c.push.new.self.items c.new-id.result c.args.edge.now id c.in_ok-push.ensures.items
