use Rattle.std.proofs.Common.{◌≤◌, ◌+◌, length, arith}
use Rattle.std.specs.Prelude.{◌==◌}
use Rattle.std.proofs.lemmas.Result.{err_from_is_err_and}
use Rattle.inc_text.specs.Ascii.{line_feed}
use Rattle.inc_rules.proofs.SplitLemmas.{part_at, part_low, parts_none}
use Rattle.inc_rules.proofs.TextLemmas.{line_bad, line_on, text_end}
use Rattle.inc_rules.proofs.reading.read_rules.Goals as goal

pub returns-in_err-push_line-clause-fault : goal.returns-in_err-push_line-clause-fault
returns-in_err-push_line-clause-fault c =
    let low : c.loop-at.at ≤ length c.args.text.now = omega (arith, c.loop-at-test.true) in
    let p = err_from_is_err_and c.from_residual.result c.from_residual.ensures.1 in
    rw (p.1, p.2) (line_bad _ _ c.loop-at.line _ _ _ c.loop-at.invariant.rules
    (part_at (λ b. b == line_feed) c.loop-at.at c.len_before-len.result c.args.text.now low c.len_before-len.ensures.is)
    c.in_err-push_line.field-0.0 c.in_err-push_line.ensures.fault)

pub loop-at-preserved : goal.loop-at-preserved
loop-at-preserved c =
    let low : c.loop-at.at ≤ length c.args.text.now = omega (arith, c.loop-at-test.true) in
    let lines : c.loop-at.line ≤ c.loop-at.at + 1 = c.loop-at.invariant.lines in
    record {
      within = part_low c.loop-at.at c.len_before-len.result c.args.text.now low c.len_before-len.ensures.within;
      lines = omega (arith, lines);
      rules = line_on _ _ _ c.loop-at.line _ _ _ c.loop-at.invariant.rules (part_at (λ b. b == line_feed) c.loop-at.at c.len_before-len.result c.args.text.now low c.len_before-len.ensures.is) c.in_ok-push_line.ensures.rules;
    }

pub returns-clause-rules : goal.returns-clause-rules
returns-clause-rules c = text_end _ _ c.loop-at.line _ c.loop-at.invariant.rules (parts_none (λ b. b == line_feed) c.loop-at.at c.args.text.now (omega (arith, c.loop-at-test.false)))
