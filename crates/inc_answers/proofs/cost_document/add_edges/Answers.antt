use Rattle.std.proofs.Common.{◌∙◌, ◌<◌, get_or, length, rules, sym}
use Rattle.std.specs.Prelude.{codes, flat_map}
use Rattle.std.proofs.lemmas.List.{append-nil, get_or_default, take_all}
use Rattle.inc_answers.specs.CostDocument.{edge_block}
use Rattle.inc_answers.specs.CostViews.{seen_amounts}
use Rattle.inc_answers.proofs.CostBlocks.{blocks_added, made_below}
use Rattle.inc_answers.proofs.cost_document.add_edges.Goals as goal

pub loop-edge-init : goal.loop-edge-init
loop-edge-init c = c.in_ok-add_line.ensures ∙ sym (append-nil _)

pub loop-edge-preserved : goal.loop-edge-preserved
loop-edge-preserved c =
    let all = c.args.edges.now in
    let i = c.loop-edge.edge-index in
    blocks_added (edge_block c.args.graph.now (seen_amounts c.args.saved.now)) all i (get_or all i 0) _ c.loop-edge.document c.add_edge.new.document c.loop-edge-test.true (get_or_default all i 0 (get_or all i 0) c.loop-edge-test.true)
    c.in_ok-add_edge.ensures c.loop-edge.invariant

pub returns : goal.returns
returns c =
    let some : 0 < length c.args.edges.now = search rules in
    made_below (codes "directives, by what goes if each alone is removed:") c.args.edges.now (flat_map (edge_block c.args.graph.now (seen_amounts c.args.saved.now)) c.args.edges.now) c.args.document.now c.loop-edge.document some
    (rw (take_all c.loop-edge.edge-index c.args.edges.now c.loop-edge-test.false) at c.loop-edge.invariant)
