use Rattle.std.proofs.Common.{◌∙◌, Some, ap, sym}
use Rattle.inc_globs.specs.Globs.{pieces}
use Rattle.inc_inputs.specs.Reports.{bad_glob}
use Rattle.inc_inputs.proofs.NameReports.{word_passed, word_found}
use Rattle.inc_inputs.proofs.glob_words.globs_failure.Goals as goal

pub returns-in-Err-Unterminated : goal.returns-in-Err-Unterminated
returns-in-Err-Unterminated c =
    λ kept. word_found c.args.option.now (λ w. w.now) c.args.words.now c.loop-word.word-index _ c.loop-word-test.true _
    (ap pieces (sym c.as_bytes.ensures.value) ∙ c.in-Err-Unterminated.ensures.fault c.in-Err-Unterminated.field-0-is) c.loop-word.invariant
    ∙ ap (λ w. Some (bad_glob c.args.option.now w)) (sym c.as_bytes-in-Err-Unterminated.ensures.value)
    ∙ ap (λ r. Some r) (sym (c.glob_failure.ensures kept))

pub loop-word-preserved : goal.loop-word-preserved
loop-word-preserved c =
    word_passed c.args.option.now (λ w. w.now) c.args.words.now c.loop-word.word-index _ c.loop-word-test.true _ _
    (ap pieces (sym c.as_bytes.ensures.value) ∙ c.in-Ok.ensures.pieces) c.loop-word.invariant
