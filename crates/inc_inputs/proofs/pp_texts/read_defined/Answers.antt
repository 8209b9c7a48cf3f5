use Rattle.std.proofs.Common.{◌≡◌, ◌∙◌, Bool, Ok, Err, ℕ, List, ap, map, option_map, refl, subst, sym}
use Rattle.inc_inputs.specs.Defines.{defined_words}
use Rattle.inc_inputs.specs.PpTexts.{AreWords, Defined, defined_by}
use Rattle.inc_inputs.specs.Reports.{IsReportBy, definitions_report, report_of}
use Rattle.inc_inputs.specs.Steps.{Comes, Step, comes_to, judged, reads, then}
use Rattle.inc_inputs.specs.Views.{defined_in, seen_defined, seen_text}
use Rattle.inc_text.specs.declared.languages.Language.{Language}
use Rattle.inc_inputs.proofs.StepLemmas.{comes_err, comes_on, passed}
use Rattle.inc_inputs.proofs.pp_texts.read_defined.Goals as goal

-- what is left to do once the text is read
abbrev with_text : {S : Type 0} → Language → Bool → (name text : List ℕ) → Step S Defined
with_text language is_compiler name text = then (judged (AreWords language is_compiler name text)) (λ words. comes_to (Ok (record { text = text; words = words })))

pub returns-in_err-text : goal.returns-in_err-text
returns-in_err-text g c =
    let name = c.in-Some.name.now in
    let told = passed defined_in c.from_residual.result c.in_err-text.field-0.0 c.from_residual.ensures.1 in
    let after = comes_err (reads g.I.Inputs.gives name) (with_text c.args.language c.args.is_compiler name) c.args.inputs.now c.read_text.new.inputs _ _ _ (ap seen_text c.in_err-text.was) told c.read_text.ensures in
    subst (λ n. Comes (defined_by g.I.Inputs.gives c.args.language c.args.is_compiler (option_map (λ n. n.now) n)) c.args.inputs.now (seen_defined c.from_residual.result) c.read_text.new.inputs) (sym c.in-Some.is) after

pub returns-in-Ok : goal.returns-in-Ok
returns-in-Ok g c =
    let name = c.in-Some.name.now in
    let text = c.in_ok-text.text.items in
    let words : List (List ℕ) = map (λ w. w.items) c.in-Ok.words.items in
    let made = subst (λ t. defined_words c.args.language c.args.is_compiler t ≡ Ok words) c.deref.ensures.value c.in-Ok.ensures.words in
    let all : Defined = record { text = text; words = words } in
    let after = comes_on (reads g.I.Inputs.gives name) (with_text c.args.language c.args.is_compiler name) c.args.inputs.now c.read_text.new.inputs c.read_text.new.inputs _ text (Ok all) (ap seen_text c.in_ok-text.was) c.read_text.ensures
    (λ _. (Ok words, c.read_text.new.inputs, (made, refl), (refl, refl))) in
    subst (λ n. Comes (defined_by g.I.Inputs.gives c.args.language c.args.is_compiler (option_map (λ n. n.now) n)) c.args.inputs.now (Ok all) c.read_text.new.inputs) (sym c.in-Some.is) after

pub returns-in_ok-definitions_failure-in-Err : goal.returns-in_ok-definitions_failure-in-Err
returns-in_ok-definitions_failure-in-Err g c =
    let name = c.in-Some.name.now in
    let text = c.in_ok-text.text.items in
    let report = report_of c.in_ok-definitions_failure-in-Err.field-0 in
    let told = c.in_ok-definitions_failure-in-Err.ensures ∙ ap (definitions_report c.args.is_compiler c.in-Err.fault) c.as_bytes.ensures.value in
    let made : IsReportBy (definitions_report c.args.is_compiler) (λ line. defined_words c.args.language c.args.is_compiler text ≡ Err line) name report =
    subst (λ t. IsReportBy (definitions_report c.args.is_compiler) (λ line. defined_words c.args.language c.args.is_compiler t ≡ Err line) name report) c.deref.ensures.value (c.in-Err.fault, told, c.in-Err.ensures.fault) in
    let after = comes_on (reads g.I.Inputs.gives name) (with_text c.args.language c.args.is_compiler name) c.args.inputs.now c.read_text.new.inputs c.read_text.new.inputs _ text (Err report) (ap seen_text c.in_ok-text.was) c.read_text.ensures
    (λ _. (Err report, c.read_text.new.inputs, (made, refl), (refl, refl))) in
    subst (λ n. Comes (defined_by g.I.Inputs.gives c.args.language c.args.is_compiler (option_map (λ n. n.now) n)) c.args.inputs.now (Err report) c.read_text.new.inputs) (sym c.in-Some.is) after
