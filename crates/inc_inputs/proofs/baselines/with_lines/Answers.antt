use Rattle.std.proofs.Common.{◌≡◌, ap, arith, length, subst}
use Rattle.inc_inputs.specs.Baselines.{with_accepted}
use Rattle.inc_inputs.specs.Reports.{report_of}
use Rattle.inc_inputs.specs.Steps.{Comes}
use Rattle.inc_inputs.specs.Views.{accepting_in, listed_in, named_line_in, seen_accepting}
use Rattle.inc_inputs.proofs.EachLemmas.{each_end, each_fault, each_more}
use Rattle.inc_inputs.proofs.StepLemmas.{passed}
use Rattle.inc_inputs.proofs.baselines.with_lines.Goals as goal

pub loop-line-init : goal.loop-line-init
loop-line-init g c = λ x new h. h

pub loop-line-preserved : goal.loop-line-preserved
loop-line-preserved g c =
    let step = with_accepted g.I.Inputs.gives (listed_in c.args.listed) c.args.name.now in
    let one =
    subst (λ x. Comes (step (named_line_in x) (accepting_in c.loop-line.accepting)) c.loop-line.inputs (seen_accepting c.with_line.result) c.with_line.new.inputs)
    c.line-item.is c.with_line.ensures in
    each_more step named_line_in c.args.lines.now c.loop-line.line-index c.line-item.result c.loop-line-test.true (accepting_in c.args.accepting) (accepting_in c.loop-line.accepting) (accepting_in c.in_ok-accepting.accepting)
    c.args.inputs.now c.loop-line.inputs c.with_line.new.inputs (seen_accepting c.with_line.result) c.loop-line.invariant (ap seen_accepting c.in_ok-accepting.was) one

pub returns-in_err-accepting : goal.returns-in_err-accepting
returns-in_err-accepting g c =
    let step = with_accepted g.I.Inputs.gives (listed_in c.args.listed) c.args.name.now in
    let told = passed accepting_in c.from_residual.result c.in_err-accepting.field-0.0 c.from_residual.ensures.1 in
    let one =
    subst (λ x. Comes (step (named_line_in x) (accepting_in c.loop-line.accepting)) c.loop-line.inputs (seen_accepting c.with_line.result) c.with_line.new.inputs)
    c.line-item.is c.with_line.ensures in
    each_fault step named_line_in c.args.lines.now c.loop-line.line-index c.line-item.result c.loop-line-test.true (accepting_in c.args.accepting) (accepting_in c.loop-line.accepting)
    c.args.inputs.now c.loop-line.inputs c.with_line.new.inputs (seen_accepting c.with_line.result) _ (report_of c.in_err-accepting.field-0.0) c.loop-line.invariant
    (ap seen_accepting c.in_err-accepting.was) told one

pub returns : goal.returns
returns g c not =
    let end : c.loop-line.line-index ≡ length c.args.lines.now = omega (arith, c.loop-line-test.false, c.loop-line.auto.line-index-end) in
    each_end (with_accepted g.I.Inputs.gives (listed_in c.args.listed) c.args.name.now) named_line_in c.args.lines.now (accepting_in c.args.accepting) (accepting_in c.loop-line.accepting) c.loop-line.line-index
    c.args.inputs.now c.loop-line.inputs end c.loop-line.invariant
