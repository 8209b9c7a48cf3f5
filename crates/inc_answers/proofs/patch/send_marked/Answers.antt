use Rattle.std.proofs.Common.{sym, ◌∙◌}
use Rattle.inc_answers.proofs.PatchLemmas.{unended}
use Rattle.inc_answers.proofs.SendingLemmas.{sends_then}
use Rattle.inc_answers.proofs.patch.send_marked.Goals as goal

pub returns-then-is_unended : goal.returns-then-is_unended
returns-then-is_unended g c m is =
    let first = rw is at c.send.ensures in
    rw (unended m c.args.line.now (sym c.is_unended.ensures ∙ c.if-is_unended.true))
    (sends_then _ _ _ _ _ (sends_then _ _ _ _ _ first c.send-2.ensures) c.send-then-is_unended.ensures)
