use Rattle.std.proofs.Common.{◌≡◌, length, arith}
use Rattle.inc_graph.proofs.GatherLemmas.{numbered_push}
use Rattle.inc_graph.proofs.building.gathering.add_entry.Goals as goal

pub returns-in_ok-push-in-Edge-clause-numbers : goal.returns-in_ok-push-in-Edge-clause-numbers
returns-in_ok-push-in-Edge-clause-numbers c =
    let items = c.args.parts.now.edges.items in
    let id : c.new-id.result ≡ length items = omega arith in
    let more = numbered_push items (record { id = c.new-id.result; from = c.args.file; to = c.in-Edge.to; line = c.in-Edge.line }) c.requires.numbers.numbers id in
    record { numbers = rw c.in_ok-push-in-Edge.ensures.items more }
