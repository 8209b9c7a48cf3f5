-- Files of which nothing is left where the name of their guard is defined.
use Rattle.std.proofs.Common.{◌≡◌, ◌≢◌, ℕ, ◌+◌, ◌-◌, ◌<◌, ◌≤◌, Bool, true, List, [], ◌∷◌, Some, Result, Ok, Err, if◌then◌else◌, ap, sym, ◌∙◌, length, take, drop, option_map, slice_get, arith}
use Rattle.std.specs.List.{All}
use Rattle.inc_directive.specs.declared.kinds.Role.{Role}
use Rattle.inc_directive.specs.declared.kinds.Role.TheVariants.{TextLine, ElifGroup, EndifLine}
use Rattle.inc_directive.specs.Groups.{FileLine, Link, link_at, role}
use Rattle.inc_directive.specs.LineKinds.{Text, Other, line_of_tokens}
use Rattle.inc_directive.specs.declared.kinds.DirectiveKind.TheVariants.{Ifndef}
use Rattle.inc_directive.specs.Parts.{FilePart, TextPart, DirectivePart, IsPart, lines_of_parts, part_kind, part_role}
use Rattle.inc_directive.specs.Runs.{run_tokens}
use Rattle.inc_token.specs.TokenLines.{Tok}
use Rattle.inc_pp.specs.declared.causes.Cause.TheVariants.{BadName}
use Rattle.inc_macro.specs.Results.{◌>>=◌}
use Rattle.inc_macro.specs.Macros.{Table, is_defined, is_identifier_kind}
use Rattle.inc_pp.specs.HeldFiles.{HasGuard, IsGuard, IsSkipped, IsPlanned}
use Rattle.inc_pp.specs.Sections.{condition_of, is_chosen, operands}
use Rattle.inc_pp.specs.Steps.{name_defined, opposite}
use Rattle.inc_pp.proofs.TakenSteps.{with_all}
use Rattle.inc_pp.specs.Tasks.{halting}
use Rattle.inc_pp.proofs.BlankRuns.{blank-leads}
use Rattle.inc_pp.proofs.Choosing.{role_at, section-passed}
use Rattle.inc_pp.proofs.LineSteps.{AreText, IsNoText, element, directive_at, step-done}
use Rattle.inc_pp.proofs.PoisonSteps.{asked-none, read-on}
use Rattle.inc_pp.proofs.StopSteps.{in_state, kind-read}
use Rattle.inc_pp.proofs.TakenSteps.{not-defined-is, third-name}

no_elif : (r : Role) → r ≡ EndifLine → r ≢ ElifGroup
no_elif r is = λ e. let same : EndifLine ≡ ElifGroup = sym is ∙ e in cc

-- the part that opens the section is a directive
ifndef_at : (ps : List FilePart) (i : ℕ) → i < length ps → option_map part_kind (slice_get ps i) ≡ Some (Other Ifndef) → (l : FileLine) × (slice_get ps i ≡ Some (DirectivePart l)) × (l.kind ≡ Other Ifndef)
ifndef_at ps i low is = let e = element ps i low in by e.0 e.1
  where
    by : (p : FilePart) → slice_get ps i ≡ Some p → (l : FileLine) × (slice_get ps i ≡ Some (DirectivePart l)) × (l.kind ≡ Other Ifndef)
    by (TextPart ls) at = let no : Some Text ≡ Some (Other Ifndef) = sym (ap (option_map part_kind) at) ∙ is in cc
    by (DirectivePart l) at = (l, at, kind-read ps i l (Other Ifndef) at is)

endif_other : (r : Role) → r ≡ EndifLine → r ≢ TextLine
endif_other r is = λ e. let same : EndifLine ≡ TextLine = sym is ∙ e in cc

pub guard_at : (ps : List FilePart) (list : List Link) → All IsPart ps → IsPlanned ps list → (open' : ℕ) → open' < length ps → AreText (take (open' - 0) (drop 0 ps)) → IsNoText ps open'
    → run_tokens (lines_of_parts (take (open' - 0) (drop 0 ps))) ≡ [] → option_map part_kind (slice_get ps open') ≡ Some (Other Ifndef)
    → (close : ℕ) → Some close ≡ option_map (λ (k : Link). k.branch) (link_at list open') → close < length ps → (r : Role) → r ≡ EndifLine
    → option_map part_role (slice_get ps close) ≡ Some r
    → (end : ℕ) → close + 1 ≤ end → end ≤ length ps → length ps ≤ end → AreText (take (end - (close + 1)) (drop (close + 1) ps)) → IsNoText ps end
    → run_tokens (lines_of_parts (take (end - (close + 1)) (drop (close + 1) ps))) ≡ [] → IsGuard ps open'
guard_at ps list parts planned open' low text stops blank tests close link low' r endif at_close end after within past text' stops' blank' =
    let l = ifndef_at ps open' low tests in
    let m = directive_at ps close r (endif_other r endif) low' (role_at ps close r at_close) in
    record {
      within = low;
      line = l.0;
      is = l.1;
      tests = l.2;
      passed = λ f s h refuses.
          blank-leads f ps parts 0 open' (omega arith) (omega (arith, low)) text stops blank s h
          ∙ section-passed ps list planned f open' close l.0 m.0 r l.1 (ap role l.2) link m.1 m.2 (no_elif r endif) s s h refuses
          ∙ blank-leads f ps parts (close + 1) end after within text' stops' blank' s h
          ∙ step-done f ps end past s h;
    }

-- the name is defined
pub guard_passes : (ps : List FilePart) (i : ℕ) (g : IsGuard ps i) → (table : Table) → name_defined table (operands g.line) ≡ Ok true → IsSkipped table ps
guard_passes ps i g table defined = λ f s h same none.
    g.passed f s h
    (read-on f g.line s (is_chosen f g.line s h) (asked-none f g.line s none)
    ∙ ap (λ k. halting f (line_of_tokens g.line.tokens) s (condition_of k f g.line s h)) g.tests
    ∙ ap (λ r. halting f (line_of_tokens g.line.tokens) s r) (not-defined-is g.line s)
    ∙ ap (λ t. halting f (line_of_tokens g.line.tokens) s (in_state s (with_all s.meter (opposite (name_defined t (operands g.line)))))) same
    ∙ ap (λ r. halting f (line_of_tokens g.line.tokens) s (in_state s (with_all s.meter (opposite r)))) defined)

named : (table : Table) (t : Tok) → is_identifier_kind t.kind ≡ true → name_defined table (t ∷ []) ≡ Ok (is_defined t.spelling table)
named table t is = ap (λ (x : Bool). (if x then Ok t.spelling else Err BadName) >>= λ n. Ok (is_defined n table)) is

-- the name of the line is that of the guard
pub has_guard : (ps : List FilePart) (i : ℕ) (t : Tok) (name : List ℕ) → IsGuard ps i → ((l : FileLine) → slice_get ps i ≡ Some (DirectivePart l) → Some t ≡ slice_get l.tokens 2)
    → is_identifier_kind t.kind ≡ true → name ≡ t.spelling → HasGuard ps name
has_guard ps i t name g third identifier is = λ table defined.
    guard_passes ps i g table
    (let known : name_defined table (t ∷ []) ≡ Ok true = named table t identifier ∙ ap (λ n. Ok (is_defined n table)) (sym is) ∙ ap (λ b. Ok b) defined in
    third-name table g.line.tokens (Some t) (Ok true) (third g.line g.is) (sym known))
