use Rattle.std.proofs.Common.{◌≡◌, ◌≤◌, ◌<◌, true, ℕ, List, length, take, get_or, sym, subst, arith}
use Rattle.std.proofs.lemmas.List.{take_all, get_or_default}
use Rattle.inc_lookup.specs.declared.listings.TheConstants.{LONGEST_PATH}
use Rattle.inc_lookup.specs.Projects.{path_at, is_clean_path}
use Rattle.inc_graph.specs.declared.graphs.Edge as declared
use Rattle.inc_graph.specs.IncludeGraph.{Graph}
use Rattle.inc_graph.specs.Views.{numbered}
use Rattle.inc_answers.specs.MarkTexts.{AreFound}
use Rattle.inc_answers.proofs.EdgeParts.{found-at, sent_more}
use Rattle.inc_answers.proofs.WhyLemmas.{from-within}
use Rattle.inc_answers.proofs.edges.send_together.Goals as goal

-- the edge at a place of those that are found
edge_there : (g : Graph) (is : List ℕ) (found : List declared.Edge) (k : ℕ) (e : declared.Edge) → AreFound g is found → k < length is → e ≡ get_or found k e → e ≡ get_or (numbered g.edges) (get_or is k 0) e
edge_there g is found k e are low here = subst (λ (x : declared.Edge). x ≡ get_or (numbered g.edges) (get_or is k 0) x) (sym here) (found-at g is found k e are low)

pub path-requires : goal.path-requires
path-requires g c =
    let f = c.edges_found-found in
    let k : ℕ = c.loop-edge.edge-index in
    let there : k < length c.args.edges.now = omega (arith, c.requires.most, c.loop-edge-test.true) in
    let is_edge = edge_there c.args.graph.now c.args.edges.now (take (length c.args.edges.now) f.result) k c.edge-item.result f.ensures.found there c.edge-item.is in
    rw (← c.requires.files) (from-within c.args.graph.now _ _ f.ensures.sound (c.requires.edges k 0 there) is_edge)

pub loop-edge-preserved : goal.loop-edge-preserved
loop-edge-preserved g c =
    let f = c.edges_found-found in
    let k : ℕ = c.loop-edge.edge-index in
    let there : k < length c.args.edges.now = omega (arith, c.requires.most, c.loop-edge-test.true) in
    let is_edge = edge_there c.args.graph.now c.args.edges.now (take (length c.args.edges.now) f.result) k c.edge-item.result f.ensures.found there c.edge-item.is in
    let number = get_or_default c.args.edges.now k 0 (get_or c.args.edges.now k 0) there in
    let clean : is_clean_path (path_at c.args.project.now c.edge-item.result.from) ≡ true = rw c.path.ensures.path at c.path.ensures.clean in
    let short : length (path_at c.args.project.now c.edge-item.result.from) ≤ LONGEST_PATH =
    rw c.path.ensures.path at c.path.ensures.short in
    let sent = rw c.path.ensures.path at c.send_directive.ensures.sent in
    sent_more c.args.project.now c.args.graph.now _ _ _ c.args.edges.now k _ _ f.ensures.sound there number (c.requires.edges k 0 there) is_edge clean short c.send_directive.ensures.few c.loop-edge.invariant sent

pub returns-clause-sent : goal.returns-clause-sent
returns-clause-sent g c =
    rw (take_all c.loop-edge.edge-index c.args.edges.now (omega (arith, c.requires.most, c.loop-edge-test.false))) at c.loop-edge.invariant.0

pub returns-clause-small : goal.returns-clause-small
returns-clause-small g c =
    rw (take_all c.loop-edge.edge-index c.args.edges.now (omega (arith, c.requires.most, c.loop-edge-test.false))) at c.loop-edge.invariant.1
