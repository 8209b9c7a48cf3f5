use Rattle.std.proofs.Common.{◌≡◌, ◌∙◌, Ok, Err, Result, option_map, ℕ, List, IfOk, IfErr, ap, map, sym, subst, refl}
use Rattle.std.specs.Global.{Vec}
use Rattle.inc_check.specs.Texts.{whole_lines}
use Rattle.inc_inputs.specs.Baselines.{AreNamed, named_from, named_of}
use Rattle.inc_inputs.specs.MarkLists.{lines_of}
use Rattle.inc_inputs.specs.Reports.{IsReportBy, baseline_report, report_of}
use Rattle.inc_inputs.specs.Steps.{Comes, judged, reads}
use Rattle.inc_inputs.specs.Views.{named_line_in, seen_named, seen_text}
use Rattle.inc_inputs.specs.declared.baselines.NamedLine.{NamedLine}
use Rattle.inc_inputs.specs.declared.failures.Failure.{Failure}
use Rattle.inc_inputs.proofs.StepLemmas.{comes_err, comes_then, passed}
use Rattle.inc_inputs.proofs.baselines.read_baseline.Goals as goal

are_named : (name t text : List ℕ) (x : Result (Vec NamedLine) Failure) → t ≡ whole_lines text → IfOk x (λ l. named_from 1 (lines_of t) ≡ Ok (map named_line_in l.items))
    → IfErr x (λ f. IsReportBy baseline_report (λ line. named_from 1 (lines_of t) ≡ Err line) name (report_of f)) → AreNamed name text (seen_named x)
are_named name t text (Ok l) e read fault = subst (λ s. named_from 1 (lines_of s) ≡ Ok (map named_line_in l.items)) e read
are_named name t text (Err f) e read fault = subst (λ s. IsReportBy baseline_report (λ line. named_from 1 (lines_of s) ≡ Err line) name (report_of f)) e fault

pub returns-in_err-read_text : goal.returns-in_err-read_text
returns-in_err-read_text g c =
    let was : seen_text c.read_text.result ≡ Err (report_of c.in_err-read_text.field-0.0) = ap seen_text c.in_err-read_text.was in
    let told = passed (λ (l : Vec NamedLine). map named_line_in l.items) c.from_residual.result c.in_err-read_text.field-0.0 c.from_residual.ensures.1 in
    let name = c.in-Some.name.now in
    let after = comes_err (reads g.I.Inputs.gives name) (λ text. judged (AreNamed name text)) c.args.inputs.now c.read_text.new.inputs _ _ _ was told c.read_text.ensures in
    subst (λ n. Comes (named_of g.I.Inputs.gives (option_map (λ n. n.now) n)) c.args.inputs.now (seen_named c.from_residual.result) c.read_text.new.inputs) (sym c.in-Some.is) after

pub returns : goal.returns
returns g c not =
    let was : seen_text c.read_text.result ≡ Ok c.in_ok-read_text.field-0.items = ap seen_text c.in_ok-read_text.was in
    let made = are_named c.in-Some.name.now _ c.in_ok-read_text.field-0.items c.lines_of.result (c.deref.ensures.value ∙ c.in_ok-text.ensures) c.lines_of.ensures.read c.lines_of.ensures.fault in
    let after = comes_then (reads g.I.Inputs.gives c.in-Some.name.now) (λ text. judged (AreNamed c.in-Some.name.now text)) c.args.inputs.now c.read_text.new.inputs c.read_text.new.inputs _ c.in_ok-read_text.field-0.items _ was c.read_text.ensures (made, refl) in
    subst (λ n. named_of g.I.Inputs.gives (option_map (λ n. n.now) n) c.args.inputs.now (seen_named c.lines_of.result) c.read_text.new.inputs) (sym c.in-Some.is) after
