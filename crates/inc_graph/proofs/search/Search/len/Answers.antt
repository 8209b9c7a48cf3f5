use Rattle.std.proofs.Common.{◌≡◌, length, arith, rules}
use Rattle.inc_graph.proofs.QueueLemmas.{kept_few}
use Rattle.inc_graph.proofs.search.Search.len.Goals as goal

pub returns-clause-few : goal.returns-clause-few
returns-clause-few g c =
    let most = kept_few c.self.inside.queue.items c.self.inside.places.items c.self.invariant in
    let few = c.self.invariant.few in
    let long : c.len.result ≡ length c.self.inside.queue.items = search rules in
    omega arith
