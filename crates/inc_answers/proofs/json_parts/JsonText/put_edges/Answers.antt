use Rattle.std.proofs.Common.{rules}
use Rattle.inc_answers.specs.JsonAnswers.{numbered_text}
use Rattle.inc_answers.proofs.JsonSteps.{item_at, list_ended}
use Rattle.inc_answers.proofs.json_parts.JsonText.put_edges.Goals as goal

pub loop-place-preserved : goal.loop-place-preserved
loop-place-preserved c =
    item_at numbered_text c.loop-place.self c.put_comma.new.self c.put_edge.new.self _ c.loop-place.place c.index-edges-place.result c.args.edges.now c.loop-place-test.true c.index-edges-place.is c.in_ok-put_comma.ensures c.in_ok-put_edge.ensures c.loop-place.invariant

pub returns : goal.returns
returns c =
    list_ended numbered_text _ c.args.self.now c.put.new.self c.loop-place.self c.put-2.new.self c.loop-place.place c.args.edges.now c.in_ok-put.ensures (search rules) c.loop-place.invariant c.put-2.ensures
