use Rattle.std.proofs.Common.{subst}
use Rattle.std.specs.Prelude.{◌==◌, filter}
use Rattle.inc_graph.specs.declared.graphs.Edge.{Edge}
use Rattle.inc_graph.specs.Indexes.{IsIndex}
use Rattle.inc_graph.proofs.graphs.Graph.new.Goals as goal

pub invariant_of-result : goal.invariant_of-result
invariant_of-result c =
    let leaving = rw c.deref.ensures.value at c.in_ok-leaving.ensures in (
      c.requires,
      subst (λ es. IsIndex c.args.parts.files c.in_ok-leaving.leaving.items c.args.parts.edges.items (λ file. filter (λ (e : Edge). e.from == file) es)) c.requires.numbers leaving,
    )
