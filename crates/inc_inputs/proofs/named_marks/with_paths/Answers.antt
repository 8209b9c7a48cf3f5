use Rattle.std.proofs.Common.{◌≡◌, ap, arith, length, option_map}
use Rattle.inc_inputs.specs.NamedPlaces.{with_path}
use Rattle.inc_inputs.specs.Reports.{report_of}
use Rattle.inc_inputs.specs.Views.{listed_in, seen_marks}
use Rattle.inc_inputs.proofs.EachLemmas.{each_end, each_fault, each_more}
use Rattle.inc_inputs.proofs.StepLemmas.{passed}
use Rattle.inc_inputs.proofs.named_marks.with_paths.Goals as goal

pub loop-path-init : goal.loop-path-init
loop-path-init g c = λ x new h. h

pub loop-path-preserved : goal.loop-path-preserved
loop-path-preserved g c =
    let step = with_path g.I.Inputs.gives (listed_in c.args.listed) (option_map (λ n. n.now) c.args.name) in
    each_more step (λ p. p.now) c.args.paths.now c.loop-path.path-index _ c.loop-path-test.true c.args.marks.items c.loop-path.marks.items c.in_ok-marks.marks.items
    c.args.inputs.now c.loop-path.inputs c.with_path.new.inputs (seen_marks c.with_path.result) c.loop-path.invariant (ap seen_marks c.in_ok-marks.was) c.with_path.ensures

pub returns-in_err-marks : goal.returns-in_err-marks
returns-in_err-marks g c =
    let step = with_path g.I.Inputs.gives (listed_in c.args.listed) (option_map (λ n. n.now) c.args.name) in
    let told = passed (λ marks. marks.items) c.from_residual.result c.in_err-marks.field-0.0 c.from_residual.ensures.1 in
    each_fault step (λ p. p.now) c.args.paths.now c.loop-path.path-index _ c.loop-path-test.true c.args.marks.items c.loop-path.marks.items
    c.args.inputs.now c.loop-path.inputs c.with_path.new.inputs (seen_marks c.with_path.result) _ (report_of c.in_err-marks.field-0.0) c.loop-path.invariant
    (ap seen_marks c.in_err-marks.was) told c.with_path.ensures

pub returns : goal.returns
returns g c not =
    let end : c.loop-path.path-index ≡ length c.args.paths.now = omega (arith, c.loop-path-test.false, c.loop-path.auto.path-index-end) in
    each_end (with_path g.I.Inputs.gives (listed_in c.args.listed) (option_map (λ n. n.now) c.args.name)) (λ p. p.now) c.args.paths.now c.args.marks.items c.loop-path.marks.items c.loop-path.path-index
    c.args.inputs.now c.loop-path.inputs end c.loop-path.invariant
