use Rattle.std.proofs.Common.{◌≡◌, ◌∙◌, Ok, ap, length, refl, rules}
use Rattle.inc_inputs.specs.BuildNotes.{none}
use Rattle.inc_inputs.specs.Baselines.{accepted_by, baseline_title, with_accepted}
use Rattle.inc_inputs.specs.Reports.{report_of}
use Rattle.inc_inputs.specs.Steps.{Comes, comes_to, each}
use Rattle.inc_inputs.specs.Views.{accepted_in, accepting_in, baseline_in, listed_in, seen_accepting}
use Rattle.inc_inputs.proofs.StepLemmas.{comes_err, comes_then}
use Rattle.inc_inputs.proofs.baselines.accepted_places.Goals as goal

pub returns-in_ok-accepted_by-in-Ok : goal.returns-in_ok-accepted_by-in-Ok
returns-in_ok-accepted_by-in-Ok g c not =
    let p = listed_in c.args.listed in
    let b = baseline_in c.args.baseline in
    let step = each (with_accepted g.I.Inputs.gives p (baseline_title b)) b.lines (record { marks = c.args.without.items; notes = none }) in
    let came : Comes step c.args.inputs.now (seen_accepting c.with_lines.result) c.with_lines.new.inputs = rw (c.title-name.ensures, c.new.ensures) at c.with_lines.ensures in
    let all = accepting_in c.in-Ok.accepting in
    let before : c.len-before.result ≡ length c.args.without.items = search rules in
    let made : accepted_in c.in_ok-accepted_by-in-Ok.field-0 ≡ accepted_by (baseline_title b) (length c.args.without.items) c.args.notes.items all =
    c.in_ok-accepted_by-in-Ok.ensures ∙ ap (λ t. accepted_by t c.len-before.result c.args.notes.items all) c.title-name.ensures
    ∙ ap (λ n. accepted_by (baseline_title b) n c.args.notes.items all) before in
    comes_then step (λ a. comes_to (Ok (accepted_by (baseline_title b) (length c.args.without.items) c.args.notes.items a)))
    c.args.inputs.now c.with_lines.new.inputs c.with_lines.new.inputs (seen_accepting c.with_lines.result) (accepting_in c.in-Ok.accepting) _ (ap seen_accepting c.in-Ok.is) came
    (ap (λ x. Ok x) made, refl)

pub returns-in-Err : goal.returns-in-Err
returns-in-Err g c =
    let p = listed_in c.args.listed in
    let b = baseline_in c.args.baseline in
    let step = each (with_accepted g.I.Inputs.gives p (baseline_title b)) b.lines (record { marks = c.args.without.items; notes = none }) in
    let came : Comes step c.args.inputs.now (seen_accepting c.with_lines.result) c.with_lines.new.inputs = rw (c.title-name.ensures, c.new.ensures) at c.with_lines.ensures in
    comes_err step (λ a. comes_to (Ok (accepted_by (baseline_title b) (length c.args.without.items) c.args.notes.items a)))
    c.args.inputs.now c.with_lines.new.inputs (seen_accepting c.with_lines.result) _ (report_of c.in-Err.failure) (ap seen_accepting c.in-Err.is) refl came
