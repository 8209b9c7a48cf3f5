use Rattle.std.proofs.Common.{◌≡◌, ◌∙◌, ◌<◌, ◌++◌, List, Some, OnOk, ap, arith, get_or, length, subst, sym}
use Rattle.std.specs.Prelude.{slice_get}
use Rattle.std.proofs.lemmas.Option.{same_Some}
use Rattle.inc_graph.specs.IncludeGraph.{Edge}
use Rattle.inc_graph.specs.Views.{numbered, seen_edge}
use Rattle.inc_graph.specs.declared.graphs.Edge as declared
use Rattle.inc_graph.proofs.NumberedEdges.{numbered_from-at}
use Rattle.inc_answers.specs.DotText.{edge_line}
use Rattle.inc_answers.proofs.GraphLemmas.{length-numbered, to-within}
use Rattle.inc_answers.proofs.WhyLemmas.{from-within}
use Rattle.inc_answers.proofs.dot_text.put_numbered.Goals as goal

pub bounds-edges-number : goal.bounds-edges-number
bounds-edges-number c =
    let long : length c.edges.result.now ≡ length c.args.graph.now.edges = ap (λ (es : List declared.Edge). length es) c.edges.ensures.edges ∙ length-numbered c.args.graph.now in
    omega (arith, long, c.requires.number)

pub put_edge-requires-clause-from : goal.put_edge-requires-clause-from
put_edge-requires-clause-from c =
    let e = c.index-edges-number.result in
    let at : e ≡ get_or (numbered c.args.graph.now.edges) c.args.number e = c.index-edges-number.is ∙ ap (λ (es : List declared.Edge). get_or es c.args.number e) c.edges.ensures.edges in
    let low : e.from < c.args.graph.now.files = from-within c.args.graph.now c.args.number e c.edges.ensures.sound c.requires.number at in
    omega (arith, low, c.requires.files)

pub put_edge-requires-clause-to : goal.put_edge-requires-clause-to
put_edge-requires-clause-to c =
    let e = c.index-edges-number.result in
    let at : e ≡ get_or (numbered c.args.graph.now.edges) c.args.number e = c.index-edges-number.is ∙ ap (λ (es : List declared.Edge). get_or es c.args.number e) c.edges.ensures.edges in
    let low : e.to < c.args.graph.now.files = to-within c.args.graph.now c.args.number e c.edges.ensures.sound c.requires.number at in
    omega (arith, low, c.requires.files)

pub returns : goal.returns
returns c e there =
    let x = c.index-edges-number.result in
    let at : x ≡ get_or (numbered c.args.graph.now.edges) c.args.number x = c.index-edges-number.is ∙ ap (λ (es : List declared.Edge). get_or es c.args.number x) c.edges.ensures.edges in
    let same : seen_edge x ≡ e = same_Some (seen_edge x) e (sym (numbered_from-at 0 c.args.graph.now.edges c.args.number x c.requires.number at) ∙ there) in
    subst (λ (y : Edge). OnOk c.put_edge.result (c.put_edge.new.text.items ≡ c.args.text.now.items ++ edge_line c.args.project.now y c.args.look.now)) same c.put_edge.ensures
