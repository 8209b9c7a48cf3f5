use Rattle.std.proofs.Common.{◌≡◌, ◌≤◌, true, ◌<◌, length, sym, subst}
use Rattle.std.proofs.lemmas.List.{take_all}
use Rattle.std.proofs.lemmas.Option.{get_or_from_slice_get}
use Rattle.inc_lookup.specs.declared.listings.TheConstants.{LONGEST_PATH}
use Rattle.inc_lookup.specs.Projects.{path_at, is_clean_path}
use Rattle.inc_graph.specs.Views.{numbered}
use Rattle.inc_answers.proofs.EdgeParts.{sent_more}
use Rattle.inc_answers.proofs.WhyLemmas.{from-within}
use Rattle.inc_answers.proofs.edges.send_apart.Goals as goal

pub edge_at-found-requires : goal.edge_at-found-requires
edge_at-found-requires g c = subst (λ i. i < length c.args.graph.now.edges) (sym c.edge-item.is) (c.requires.edges _ c.edge-item.result c.loop-edge-test.true)

pub path-requires : goal.path-requires
path-requires g c =
    let low = subst (λ i. i < length c.args.graph.now.edges) (sym c.edge-item.is) (c.requires.edges _ c.edge-item.result c.loop-edge-test.true) in
    let is_edge = sym (get_or_from_slice_get (numbered c.args.graph.now.edges) _ _ c.edge_at-found.result c.edge_at-found.ensures.found) in
    rw (← c.requires.files) (from-within c.args.graph.now _ _ c.edge_at-found.ensures.sound low is_edge)

pub loop-edge-preserved : goal.loop-edge-preserved
loop-edge-preserved g c =
    let low = subst (λ i. i < length c.args.graph.now.edges) (sym c.edge-item.is) (c.requires.edges _ c.edge-item.result c.loop-edge-test.true) in
    let is_edge = sym (get_or_from_slice_get (numbered c.args.graph.now.edges) _ _ c.edge_at-found.result c.edge_at-found.ensures.found) in
    let clean : is_clean_path (path_at c.args.project.now c.edge_at-found.result.from) ≡ true = rw c.path.ensures.path at c.path.ensures.clean in
    let short : length (path_at c.args.project.now c.edge_at-found.result.from) ≤ LONGEST_PATH =
    rw c.path.ensures.path at c.path.ensures.short in
    let sent = rw c.path.ensures.path at c.send_directive.ensures.sent in
    sent_more c.args.project.now c.args.graph.now _ _ _ c.args.edges.now c.loop-edge.edge-index _ _ c.edge_at-found.ensures.sound c.loop-edge-test.true c.edge-item.is low is_edge clean short c.send_directive.ensures.few c.loop-edge.invariant sent

pub returns-clause-sent : goal.returns-clause-sent
returns-clause-sent g c =
    rw (take_all c.loop-edge.edge-index c.args.edges.now c.loop-edge-test.false) at c.loop-edge.invariant.0

pub returns-clause-small : goal.returns-clause-small
returns-clause-small g c =
    rw (take_all c.loop-edge.edge-index c.args.edges.now c.loop-edge-test.false) at c.loop-edge.invariant.1
