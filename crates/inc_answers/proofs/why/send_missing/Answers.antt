use Rattle.std.proofs.Common.{arith}
use Rattle.std.proofs.lemmas.List.{take_all, length-map}
use Rattle.inc_answers.specs.MarkTexts.{missing_mark}
use Rattle.inc_answers.proofs.SendingLemmas.{sends_then}
use Rattle.inc_answers.proofs.why.send_missing.Goals as goal

pub returns : goal.returns
returns g c =
    let all = rw (take_all c.loop-place.place c.args.missing.now (omega (arith, c.loop-place-test.false, c.len-place-end.ensures))) at c.loop-place.invariant in
    rw (length-map c.args.missing.now (missing_mark c.args.project.now), ← c.len.ensures) (sends_then _ _ _ _ _ c.send_count_line.ensures all)
