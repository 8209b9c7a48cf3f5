use Rattle.std.proofs.Common.{ℕ, List, rules}
use Rattle.inc_graph.specs.Views.{seen_edge}
use Rattle.inc_graph.specs.declared.graphs.Edge.{Edge}
use Rattle.inc_answers.specs.JsonAnswers.{About, edge_text}
use Rattle.inc_answers.proofs.JsonSteps.{item_at, list_ended}
use Rattle.inc_answers.proofs.json_parts.JsonText.put_links.Goals as goal

abbrev link : About → Edge → List ℕ
link a e = edge_text a (seen_edge e)

pub loop-place-preserved : goal.loop-place-preserved
loop-place-preserved c =
    item_at link c.loop-place.self c.put_comma.new.self c.put_link.new.self _ c.loop-place.place c.index-edges-place.result c.args.edges.now c.loop-place-test.true c.index-edges-place.is c.in_ok-put_comma.ensures c.in_ok-put_link.ensures c.loop-place.invariant

pub returns : goal.returns
returns c =
    list_ended link _ c.args.self.now c.put.new.self c.loop-place.self c.put-2.new.self c.loop-place.place c.args.edges.now c.in_ok-put.ensures (search rules) c.loop-place.invariant c.put-2.ensures
