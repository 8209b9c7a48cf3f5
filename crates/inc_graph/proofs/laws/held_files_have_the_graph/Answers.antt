use Rattle.inc_lookup.proofs.HeldLemmas.{held_agrees}
use Rattle.inc_graph.proofs.laws.held_files_have_the_graph.Goals as goal

pub returns : goal.returns
returns c = λ old new layout setting source header answer listing h laid bytes.
    (h.every listing laid (held_agrees old new h.given listing h.gave bytes).1).0
