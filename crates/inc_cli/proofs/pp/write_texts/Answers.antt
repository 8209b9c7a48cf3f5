use Rattle.std.proofs.Common.{◌≡◌, Ok, Err, ap}
use Rattle.inc_args.specs.Views.{seen_pp}
use Rattle.inc_inputs.specs.Reports.{report_of}
use Rattle.inc_inputs.specs.Steps.{writes_if}
use Rattle.inc_inputs.specs.Views.{seen}
use Rattle.inc_inputs.proofs.StepLemmas.{comes_err, comes_on, passed}
use Rattle.inc_cli.proofs.pp.write_texts.Goals as goal

pub returns-in_err-write_if : goal.returns-in_err-write_if
returns-in_err-write_if g c =
    let puts = g.I.Inputs.puts in
    let p = seen_pp c.args.args.now in
    let was : seen (λ u. u) c.write_if.result ≡ Err (report_of c.in_err-write_if.field-0.0) = ap (seen (λ u. u)) c.in_err-write_if.was in
    let told = passed (λ u. u) c.from_residual.result c.in_err-write_if.field-0.0 c.from_residual.ensures.1 in
    rw (← c.text.ensures)
    (comes_err (writes_if puts p.deps c.text.result.now) (λ written. writes_if puts p.status c.args.answer.now.end.endings) c.args.inputs.now c.write_if.new.inputs _ _ _ was told c.write_if.ensures)

pub returns : goal.returns
returns g c =
    let puts = g.I.Inputs.puts in
    let p = seen_pp c.args.args.now in
    let was : seen (λ u. u) c.write_if.result ≡ Ok tt = ap (seen (λ u. u)) c.in_ok-write_if.was in
    rw (← c.text.ensures, ← c.text-2.ensures)
    (comes_on (writes_if puts p.deps c.text.result.now) (λ written. writes_if puts p.status c.text-2.result.now) c.args.inputs.now c.write_if.new.inputs _ _ tt _ was c.write_if.ensures
    c.write_if-2.ensures)
