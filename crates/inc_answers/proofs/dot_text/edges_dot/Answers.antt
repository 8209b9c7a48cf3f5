use Rattle.std.proofs.Common.{None, []}
use Rattle.inc_answers.proofs.DotLemmas.{drawn_as, flags_empty}
use Rattle.inc_answers.proofs.dot_text.edges_dot.Goals as goal

pub returns : goal.returns
returns c =
    drawn_as c.dot_text.result c.args.subject.project.now c.args.subject.graph.now c.deref.result.now [] c.args.edges.now [] None
    (rw c.deref.ensures.value c.in_ok-flags.ensures) flags_empty c.dot_text.ensures
