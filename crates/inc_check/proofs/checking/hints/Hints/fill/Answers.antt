use Rattle.std.proofs.Common.{List, get_or, sym, subst}
use Rattle.std.specs.List.{All}
use Rattle.std.proofs.lemmas.List.{get_or_default}
use Rattle.std.proofs.lemmas.List.Elements.{All-append, All-take, All-drop}
use Rattle.inc_graph.specs.declared.graphs.Edge as declared
use Rattle.inc_graph.specs.Near.{IsListed}
use Rattle.inc_graph.proofs.NamedEdges.{edge_listed}
use Rattle.inc_check.proofs.checking.hints.Hints.fill.Goals as goal

pub returns-then-edges-number-ge-AHEAD-clause-edges : goal.returns-then-edges-number-ge-AHEAD-clause-edges
returns-then-edges-number-ge-AHEAD-clause-edges c listed =
    let P : declared.Edge → Type 0 = λ e. IsListed c.args.graph.now e in
    let edges = c.edges-edges.result.now in
    let all : All P edges = λ k d low. (edge_listed c.args.graph.now k edges (get_or edges k d) c.edges-edges.ensures.edges low (get_or_default edges k d (get_or edges k d) low)).0 in
    let old : All P c.deref_mut.result.now = subst (λ (es : List declared.Edge). All P es) (sym c.deref_mut.ensures.value) listed in
    let copied : All P c.copy_from_slice.new.self = subst (λ (es : List declared.Edge). All P es) (sym c.copy_from_slice.ensures.after) (All-take P _ _ (All-drop P c.args.number edges all)) in
    All-take P _ _ (All-append P _ _ (All-append P _ _ (All-take P c.args.begin c.deref_mut.result.now old) (All-append P c.copy_from_slice.new.self _ copied (All-drop P _ _ (All-drop P c.args.begin c.deref_mut.result.now old)))) (All-drop P _ _ listed))
