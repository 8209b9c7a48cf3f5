use Rattle.std.proofs.Common.{◌≡◌, false, sym, ◌∙◌}
use Rattle.inc_answers.proofs.SendingLemmas.{sends_written}
use Rattle.inc_answers.proofs.output.write_unless_failed.Goals as goal

pub returns : goal.returns
returns g c =
    let sound : g.W.ByteSink.has_failed c.args.w.now ≡ false = sym c.failed.ensures ∙ c.if-failed.false in
    let wrote = c.write_whole.ensures in
    rw sound (sends_written _ _ _ _ c.write_whole.result wrote.failed wrote.whole wrote.front)
