use Rattle.std.proofs.Common.{◌≡◌, ap, arith, length}
use Rattle.inc_inputs.specs.NamedPlaces.{with_word}
use Rattle.inc_inputs.specs.Reports.{report_of}
use Rattle.inc_inputs.specs.Views.{listed_in, seen_marks}
use Rattle.inc_inputs.proofs.EachLemmas.{each_end, each_fault, each_more}
use Rattle.inc_inputs.proofs.StepLemmas.{passed}
use Rattle.inc_inputs.proofs.named_marks.with_words.Goals as goal

pub loop-word-init : goal.loop-word-init
loop-word-init g c = λ x new h. h

pub loop-word-preserved : goal.loop-word-preserved
loop-word-preserved g c =
    let step = with_word g.I.Inputs.gives (listed_in c.args.listed) c.args.side in
    each_more step (λ w. w.now) c.args.words.now c.loop-word.word-index _ c.loop-word-test.true c.args.marks.items c.loop-word.marks.items c.in_ok-marks.marks.items
    c.args.inputs.now c.loop-word.inputs c.with_word.new.inputs (seen_marks c.with_word.result) c.loop-word.invariant (ap seen_marks c.in_ok-marks.was) c.with_word.ensures

pub returns-in_err-marks : goal.returns-in_err-marks
returns-in_err-marks g c =
    let step = with_word g.I.Inputs.gives (listed_in c.args.listed) c.args.side in
    let told = passed (λ marks. marks.items) c.from_residual.result c.in_err-marks.field-0.0 c.from_residual.ensures.1 in
    each_fault step (λ w. w.now) c.args.words.now c.loop-word.word-index _ c.loop-word-test.true c.args.marks.items c.loop-word.marks.items
    c.args.inputs.now c.loop-word.inputs c.with_word.new.inputs (seen_marks c.with_word.result) _ (report_of c.in_err-marks.field-0.0) c.loop-word.invariant
    (ap seen_marks c.in_err-marks.was) told c.with_word.ensures

pub returns : goal.returns
returns g c not =
    let end : c.loop-word.word-index ≡ length c.args.words.now = omega (arith, c.loop-word-test.false, c.loop-word.auto.word-index-end) in
    each_end (with_word g.I.Inputs.gives (listed_in c.args.listed) c.args.side) (λ w. w.now) c.args.words.now c.args.marks.items c.loop-word.marks.items c.loop-word.word-index
    c.args.inputs.now c.loop-word.inputs end c.loop-word.invariant
