use Rattle.std.proofs.Common.{◌≡◌, ◌∙◌, ℕ, List, Ok, ap, refl, subst}
use Rattle.inc_inputs.specs.Reports.{report_of}
use Rattle.inc_inputs.specs.Steps.{Comes, comes_to}
use Rattle.inc_inputs.specs.Views.{seen_text}
use Rattle.inc_inputs.specs.WrittenBaselines.{writes_baseline}
use Rattle.inc_inputs.proofs.StepLemmas.{comes_err, comes_on}
use Rattle.inc_cli.specs.Questions.{with_note}
use Rattle.inc_cli.specs.Views.{answer_in}
use Rattle.inc_cli.proofs.baselines.write_lines.Goals as goal

pub returns-in_ok-noted-in-Ok : goal.returns-in_ok-noted-in-Ok
returns-in_ok-noted-in-Ok g c =
    let puts = g.I.Inputs.puts in
    let name = c.args.name.now in
    let a = answer_in c.args.answer in
    let now = c.write_baseline.new.inputs in
    let told = subst (λ (t : List ℕ). Comes (writes_baseline puts name t) c.args.inputs.now (seen_text c.write_baseline.result) now) c.text.ensures c.write_baseline.ensures in
    comes_on (writes_baseline puts name c.args.answer.end.baseline) (λ note. comes_to (Ok (with_note a note))) c.args.inputs.now now now (seen_text c.write_baseline.result) c.in-Ok.note.items _ (ap seen_text c.in-Ok.is) told
    (λ not. (ap Ok (c.in_ok-noted-in-Ok.ensures ∙ ap (λ (n : List ℕ). with_note a n) c.deref.ensures.value), refl))

pub returns-in-Err : goal.returns-in-Err
returns-in-Err g c =
    let puts = g.I.Inputs.puts in
    let name = c.args.name.now in
    let a = answer_in c.args.answer in
    let now = c.write_baseline.new.inputs in
    let told = subst (λ (t : List ℕ). Comes (writes_baseline puts name t) c.args.inputs.now (seen_text c.write_baseline.result) now) c.text.ensures c.write_baseline.ensures in
    comes_err (writes_baseline puts name c.args.answer.end.baseline) (λ note. comes_to (Ok (with_note a note))) c.args.inputs.now now (seen_text c.write_baseline.result) _ (report_of c.in-Err.failure) (ap seen_text c.in-Err.is) refl
    told
