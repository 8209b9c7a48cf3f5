use Rattle.std.proofs.Common.{◌++◌, None, Some, []}
use Rattle.std.specs.List.{concat}
use Rattle.inc_answers.proofs.DotLemmas.{drawn_as, flags_empty}
use Rattle.inc_answers.proofs.dot_text.chains_dot.Goals as goal

pub returns : goal.returns
returns c =
    drawn_as c.dot_text.result c.args.subject.project.now c.args.subject.graph.now c.deref.result.now [] (concat c.args.chains.now.left) [] None
    (rw c.deref.ensures.value c.in_ok-edges.ensures) flags_empty c.dot_text.ensures
