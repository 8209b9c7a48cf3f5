use Rattle.std.proofs.Common.{◌+◌, ◌≤◌, arith}
use Rattle.std.proofs.lemmas.Result.{err_from_is_err_and}
use Rattle.inc_inputs.proofs.BaselineLemmas.{line_bad, line_low, line_on, lines_end}
use Rattle.inc_inputs.proofs.baselines.lines_in.Goals as goal

pub returns-in_err-push_line-clause-fault : goal.returns-in_err-push_line-clause-fault
returns-in_err-push_line-clause-fault c =
    let p = err_from_is_err_and c.from_residual.result c.from_residual.ensures.1 in
    rw (p.1, p.2) (line_bad _ _ c.loop-end.line c.loop-end.at c.args.text.now c.loop-end.invariant.named c.in-Some.end c.in-Some.ensures c.in_err-push_line.field-0.0 c.in_err-push_line.ensures.fault)

pub loop-end-preserved : goal.loop-end-preserved
loop-end-preserved c =
    let lines : c.loop-end.line ≤ c.loop-end.at + 1 = c.loop-end.invariant.lines in
    record {
      within = line_low _ _ c.loop-end.line c.loop-end.at c.args.text.now c.loop-end.invariant.named c.in-Some.end c.in-Some.ensures;
      lines = omega (arith, lines);
      named = line_on _ _ c.loop-end.line c.loop-end.at c.args.text.now c.loop-end.invariant.named c.in-Some.end c.in-Some.ensures _ c.in_ok-push_line.ensures.lines;
    }

pub returns-clause-lines : goal.returns-clause-lines
returns-clause-lines c = lines_end _ _ c.loop-end.line c.loop-end.at c.args.text.now c.loop-end.invariant.named c.in_default.ensures
