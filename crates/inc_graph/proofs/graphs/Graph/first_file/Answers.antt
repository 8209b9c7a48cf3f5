use Rattle.std.proofs.Common.{◌≡◌, Some, sym, ap, ◌∙◌}
use Rattle.std.specs.Prelude.{slice_get}
use Rattle.std.specs.Option.{option_copied}
use Rattle.std.proofs.lemmas.Option.{slice_get_within, get_or_from_slice_get}
use Rattle.inc_graph.proofs.ListedChains.{from_within}
use Rattle.inc_graph.proofs.graphs.Graph.first_file.Goals as goal

pub returns-in-Some : goal.returns-in-Some
returns-in-Some c =
    let edges = c.edges.result.now in
    let edge = c.in-Some.edge.now in
    let at : slice_get edges 0 ≡ Some edge = sym c.first.ensures.value ∙ ap option_copied c.in-Some.is in
    from_within c.args.self.now edges 0 edge c.edges.ensures.sound c.edges.ensures.edges (slice_get_within edges 0 edge at) (sym (get_or_from_slice_get edges 0 edge edge at))
