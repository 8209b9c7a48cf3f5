use Rattle.std.proofs.Common.{◌≡◌, ◌∙◌, Ok, ap, length, refl, rules}
use Rattle.inc_inputs.specs.Baselines.{accepting_by, with_found}
use Rattle.inc_inputs.specs.Reports.{report_of}
use Rattle.inc_inputs.specs.Steps.{comes_to}
use Rattle.inc_inputs.specs.Views.{listed_in, named_line_in, notes_in, seen_marks}
use Rattle.inc_lookup.specs.Projects.{found_as}
use Rattle.inc_inputs.proofs.StepLemmas.{comes_err, comes_then}
use Rattle.inc_inputs.proofs.baselines.with_line.Goals as goal

pub returns-in_ok-accepting_by-in-Ok : goal.returns-in_ok-accepting_by-in-Ok
returns-in_ok-accepting_by-in-Ok g c not =
    let p = listed_in c.args.listed in
    let l = named_line_in c.args.line.now in
    let a = c.args.accepting in
    let before : c.len-before.result ≡ length a.marks.items = search rules in
    comes_then (with_found g.I.Inputs.gives p l.name (found_as p.layout.paths l.path) a.marks.items) (λ all. comes_to (Ok (accepting_by c.args.name.now l (length a.marks.items) (notes_in a.notes) all)))
    c.args.inputs.now c.with_named.new.inputs c.with_named.new.inputs (seen_marks c.with_named.result) c.in-Ok.marks.items _ (ap seen_marks c.in-Ok.is) c.with_named.ensures
    (ap (λ x. Ok x) (c.in_ok-accepting_by-in-Ok.ensures ∙ ap (λ n. accepting_by c.args.name.now l n (notes_in a.notes) c.in-Ok.marks.items) before), refl)

pub returns-in-Err : goal.returns-in-Err
returns-in-Err g c =
    let p = listed_in c.args.listed in
    let l = named_line_in c.args.line.now in
    let a = c.args.accepting in
    comes_err (with_found g.I.Inputs.gives p l.name (found_as p.layout.paths l.path) a.marks.items) (λ all. comes_to (Ok (accepting_by c.args.name.now l (length a.marks.items) (notes_in a.notes) all)))
    c.args.inputs.now c.with_named.new.inputs (seen_marks c.with_named.result) _ (report_of c.in-Err.failure) (ap seen_marks c.in-Err.is) refl c.with_named.ensures
