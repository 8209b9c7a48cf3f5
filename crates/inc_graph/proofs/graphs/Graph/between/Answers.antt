use Rattle.std.proofs.Common.{◌<◌, All, ℕ, List, ap, length, map, subst, sym, ◌∙◌, arith}
use Rattle.inc_graph.specs.Between.{kept_of}
use Rattle.inc_graph.specs.IncludeGraph.{Graph}
use Rattle.inc_graph.specs.Views.{seen_edge}
use Rattle.inc_graph.specs.declared.graphs.Parts.{Parts}
use Rattle.inc_graph.proofs.BetweenLemmas.{are_parts_of, part_is}
use Rattle.inc_graph.proofs.BetweenNumbers.{numbers_are, numbers_long, numbers_within}
use Rattle.inc_graph.proofs.NumberedEdges.{length-numbered_from}
use Rattle.inc_graph.proofs.graphs.Graph.between.Goals as goal

pub edges_before-requires-clause-few : goal.edges_before-requires-clause-few
edges_before-requires-clause-few c =
    let long = ap length c.edges-all.ensures.edges ∙ length-numbered_from 0 c.args.self.now.edges in
    omega (arith, long, c.edges-all.ensures.sound.sized)

pub new-requires-6 : goal.new-requires-6
new-requires-6 c =
    let p : Parts = record {
      files = c.files-files.result;
      sources = c.in_ok-sources.sources;
      headers = c.in_ok-headers.headers;
      edges = c.in_ok-edges.edges;
      missing = c.new-3.result;
      blockers = c.new-4.result;
      definitions = c.new-5.result;
    } in
    let is = part_is c.args.self.now c.args.from.now c.args.to.now p c.edges-all.result.now c.files-files.ensures.files c.in_ok-sources.ensures c.in_ok-headers.ensures c.edges-all.ensures.edges c.in_ok-edges.ensures.edges c.new-3.ensures
    c.new-4.ensures.items c.new-5.ensures.items in
    are_parts_of c.args.self.now c.args.from.now c.args.to.now p (map seen_edge (kept_of c.in_ok-headers.headers c.edges-all.result.now)) c.edges-all.ensures.sound c.requires is c.in_ok-edges.ensures.edges

pub returns-clause-graph : goal.returns-clause-graph
returns-clause-graph c =
    let p : Parts = record {
      files = c.files-files.result;
      sources = c.in_ok-sources.sources;
      headers = c.in_ok-headers.headers;
      edges = c.in_ok-edges.edges;
      missing = c.new-3.result;
      blockers = c.new-4.result;
      definitions = c.new-5.result;
    } in
    c.in_ok-graph.ensures
    ∙ part_is c.args.self.now c.args.from.now c.args.to.now p c.edges-all.result.now c.files-files.ensures.files c.in_ok-sources.ensures c.in_ok-headers.ensures c.edges-all.ensures.edges c.in_ok-edges.ensures.edges c.new-3.ensures
    c.new-4.ensures.items c.new-5.ensures.items

pub returns-clause-numbers : goal.returns-clause-numbers
returns-clause-numbers c = c.in_ok-edges.ensures.numbers ∙ numbers_are c.args.self.now c.args.to.now c.in_ok-headers.headers c.edges-all.result.now c.edges-all.ensures.edges c.in_ok-headers.ensures

pub returns-clause-long : goal.returns-clause-long
returns-clause-long c =
    ap (λ (l : List ℕ). length l) (returns-clause-numbers c) ∙ numbers_long c.args.self.now c.args.to.now ∙ sym (ap (λ (g : Graph). length g.edges) (returns-clause-graph c))

pub returns-clause-within : goal.returns-clause-within
returns-clause-within c =
    subst (λ (l : List ℕ). All (λ i. i < length c.args.self.now.edges) l) (sym (returns-clause-numbers c)) (numbers_within c.args.self.now c.args.to.now)
