use Rattle.std.proofs.Common.{◌∙◌, ℕ, List, Ok, ap, refl}
use Rattle.inc_inputs.specs.Reports.{note_line, report_of}
use Rattle.inc_inputs.specs.Steps.{comes_to, writes_file}
use Rattle.inc_inputs.specs.Views.{seen}
use Rattle.inc_inputs.specs.WrittenBaselines.{written_line}
use Rattle.inc_inputs.proofs.StepLemmas.{comes_err, comes_on}
use Rattle.inc_inputs.proofs.written_baselines.write_baseline.Goals as goal

pub returns-in_ok-written_note-in-Ok : goal.returns-in_ok-written_note-in-Ok
returns-in_ok-written_note-in-Ok g c =
    let name = c.args.name.now in
    let text = c.args.text.now in
    let now = c.write_if.new.inputs in
    comes_on (writes_file g.I.Inputs.puts name text) (λ done. comes_to (Ok (note_line (written_line name text)))) c.args.inputs.now now now (seen (λ u. u) c.write_if.result) c.in-Ok.field-0 _
    (ap (seen (λ u. u)) c.in-Ok.is) c.write_if.ensures
    (λ not. (ap Ok (c.in_ok-written_note-in-Ok.ensures ∙ ap (λ (n : List ℕ). note_line (written_line n text)) c.as_bytes.ensures.value), refl))

pub returns-in-Err : goal.returns-in-Err
returns-in-Err g c =
    let name = c.args.name.now in
    let text = c.args.text.now in
    comes_err (writes_file g.I.Inputs.puts name text) (λ done. comes_to (Ok (note_line (written_line name text)))) c.args.inputs.now c.write_if.new.inputs (seen (λ u. u) c.write_if.result) _
    (report_of c.in-Err.failure) (ap (seen (λ u. u)) c.in-Err.is) refl c.write_if.ensures
