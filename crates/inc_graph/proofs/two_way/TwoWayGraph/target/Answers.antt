use Rattle.std.proofs.Common.{◌≡◌, sym, ap, ◌∙◌, subst, arith}
use Rattle.std.proofs.lemmas.Bool.{eqb-false}
use Rattle.inc_graph.specs.IncludeGraph.{Graph}
use Rattle.inc_graph.specs.Indexes.{AreTargets}
use Rattle.inc_graph.specs.Views.{numbered}
use Rattle.inc_graph.proofs.NumberedEdges.{length-numbered_from}
use Rattle.inc_graph.proofs.EdgePlaces.{listed_target, read_target}
use Rattle.inc_graph.proofs.two_way.TwoWayGraph.target.Goals as goal

pub bounds-edges-place : goal.bounds-edges-place
bounds-edges-place c =
    let edges : c.edges.result.now ≡ numbered c.args.self.now.edges = c.edges.ensures.edges ∙ ap (λ (g : Graph). numbered g.edges) c.self.view_is in
    rw edges (omega (arith, length-numbered_from 0 c.args.self.now.edges))

pub bounds-edges-place-then-is_empty : goal.bounds-edges-place-then-is_empty
bounds-edges-place-then-is_empty c =
    let edges : c.edges.result.now ≡ numbered c.args.self.now.edges = c.edges.ensures.edges ∙ ap (λ (g : Graph). numbered g.edges) c.self.view_is in
    rw edges (omega (arith, length-numbered_from 0 c.args.self.now.edges))

pub returns-then-is_empty : goal.returns-then-is_empty
returns-then-is_empty c =
    let edges : c.edges.result.now ≡ numbered c.args.self.now.edges = c.edges.ensures.edges ∙ ap (λ (g : Graph). numbered g.edges) c.self.view_is in
    read_target c.args.self.now c.edges.result.now c.args.place _ edges c.requires

pub returns : goal.returns
returns c =
    let ts = c.self.inside.targets.items in
    let are = subst (λ (g : Graph). AreTargets g.edges ts) c.self.view_is c.self.invariant.1 in
    let some = eqb-false c.self.inside.targets.len 0 (sym c.is_empty.ensures ∙ c.if-is_empty.false) in
    c.index.ensures ∙ listed_target c.args.self.now ts c.args.place c.index.result.now are (λ none. some (omega (arith, c.self.inside.targets.ok.0, none))) c.requires
