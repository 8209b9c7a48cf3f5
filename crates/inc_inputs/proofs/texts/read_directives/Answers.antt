use Rattle.std.proofs.Common.{◌≡◌, ◌∙◌, Ok, Err, Result, option_map, ℕ, List, IfOk, IfErr, ap, sym, subst, refl}
use Rattle.inc_check.specs.Texts.{whole_lines}
use Rattle.inc_inputs.specs.MarkLists.{first_line, lines_of, marks_in}
use Rattle.inc_inputs.specs.Reports.{IsListReport, report_of}
use Rattle.inc_inputs.specs.Texts.{AreMarks, marks_of}
use Rattle.inc_inputs.specs.Steps.{Comes, judged, reads}
use Rattle.inc_inputs.specs.Views.{mark_list_in, seen_mark_list, seen_text}
use Rattle.inc_inputs.specs.declared.failures.Failure.{Failure}
use Rattle.inc_inputs.specs.declared.texts.MarkList.{MarkList}
use Rattle.inc_inputs.proofs.StepLemmas.{comes_err, comes_then, passed}
use Rattle.inc_inputs.proofs.texts.read_directives.Goals as goal

are_marks : (name t text : List ℕ) (x : Result MarkList Failure) → t ≡ whole_lines text → IfOk x (λ m. marks_in (lines_of t) ≡ Ok m.marks.items)
    → IfOk x (λ m. m.first ≡ first_line (lines_of t)) → IfErr x (λ f. IsListReport (λ line. marks_in (lines_of t) ≡ Err line) name (report_of f)) → AreMarks name text (seen_mark_list x)
are_marks name t text (Ok m) e read first fault = (subst (λ s. marks_in (lines_of s) ≡ Ok m.marks.items) e read, subst (λ s. m.first ≡ first_line (lines_of s)) e first)
are_marks name t text (Err f) e read first fault = subst (λ s. IsListReport (λ line. marks_in (lines_of s) ≡ Err line) name (report_of f)) e fault

pub returns-in_err-read_text : goal.returns-in_err-read_text
returns-in_err-read_text g c =
    let was : seen_text c.read_text.result ≡ Err (report_of c.in_err-read_text.field-0.0) = ap seen_text c.in_err-read_text.was in
    let told = passed mark_list_in c.from_residual.result c.in_err-read_text.field-0.0 c.from_residual.ensures.1 in
    let name = c.in-Some.name.now in
    let after = comes_err (reads g.I.Inputs.gives name) (λ text. judged (AreMarks name text)) c.args.inputs.now c.read_text.new.inputs _ _ _ was told c.read_text.ensures in
    subst (λ n. Comes (marks_of g.I.Inputs.gives (option_map (λ n. n.now) n)) c.args.inputs.now (seen_mark_list c.from_residual.result) c.read_text.new.inputs) (sym c.in-Some.is) after

pub returns : goal.returns
returns g c not =
    let was : seen_text c.read_text.result ≡ Ok c.in_ok-read_text.field-0.items = ap seen_text c.in_ok-read_text.was in
    let made = are_marks c.in-Some.name.now _ c.in_ok-read_text.field-0.items c.list_of.result (c.deref.ensures.value ∙ c.in_ok-text.ensures) c.list_of.ensures.read c.list_of.ensures.first c.list_of.ensures.fault in
    let after = comes_then (reads g.I.Inputs.gives c.in-Some.name.now) (λ text. judged (AreMarks c.in-Some.name.now text)) c.args.inputs.now c.read_text.new.inputs c.read_text.new.inputs _ c.in_ok-read_text.field-0.items _ was c.read_text.ensures (made, refl) in
    subst (λ n. marks_of g.I.Inputs.gives (option_map (λ n. n.now) n) c.args.inputs.now (seen_mark_list c.list_of.result) c.read_text.new.inputs) (sym c.in-Some.is) after
