-- What is printed beside a baseline, and its lines, by what was read and kept of the files.
use Rattle.std.proofs.Common.{◌≡◌, ◌≢◌, ℕ, Bool, true, false, List, [], ◌∷◌, ◌++◌, Option, Some, None, Result, cond, inl, inr, length, not, refl, sym, ap, ap₂, subst, ◌∙◌}
use Rattle.std.specs.Prelude.{bytes_eq, codes, fold, is_some, map, option_map, replicate, slice_get, IsTrue}
use Rattle.std.specs.List.{concat, cons_option, list_any}
use Rattle.std.proofs.lemmas.Bool.{cond-false, not-true}
use Rattle.std.proofs.lemmas.List.{append-nil}
use Rattle.std.proofs.lemmas.List.Folds.{concat-append}
use Rattle.std.proofs.lemmas.Option.{get_or_from_slice_get, none-some, same_Some, slice_get_within}
use Rattle.inc_text.specs.declared.devices.ReadFault.{ReadFault}
use Rattle.inc_text.specs.declared.languages.Language.{Language}
use Rattle.inc_directive.specs.LineKinds.{LineKind}
use Rattle.inc_lookup.specs.declared.projects.DirectiveId.{DirectiveId}
use Rattle.inc_lookup.specs.Given.{HoldsOfGiven}
use Rattle.inc_lookup.specs.Projects.{Layout, Listing, layout_of, path_at, with_path}
use Rattle.inc_check.specs.Texts.{line_text}
use Rattle.inc_graph.specs.Cuts.{directives_of}
use Rattle.inc_graph.specs.IncludeGraph.{Edge, Graph}
use Rattle.inc_graph.specs.MissingLists.{Missing}
use Rattle.inc_report.specs.BaselineText.{IsBaseline, IsBaselineBy, IsBaselineKept, IsBaselineOf, IsShown, IsShownAnyhow, IsStrictBaseline, baseline_line, beside_text, header_text, led_path, rules_form}
use Rattle.inc_answers.specs.DefinitionPlaces.{given_bytes, given_place, kept_place}
use Rattle.inc_answers.specs.DirectiveNames.{kept_kind, kind_of}
use Rattle.inc_answers.specs.Documents.{AreGraphKept}
use Rattle.inc_answers.specs.JsonAnswers.{about_subject, kept_about}
use Rattle.inc_answers.specs.JsonRefusals.{refusal_json}
use Rattle.inc_answers.specs.KeptFiles.{Fits, Kept, OfKept, keeps, kept_at}
use Rattle.inc_answers.specs.NamedReasons.{Sight}
use Rattle.inc_report.specs.NamedText.{IsInAnyFormat, about, given_sight, kept_sight}
use Rattle.inc_answers.specs.CommandNames.{command_name}
use Rattle.inc_answers.specs.Printed.{Printed, end_of, refused_for, with_baseline}
use Rattle.inc_answers.specs.Questions.{IsAnswerBy}
use Rattle.inc_answers.specs.Refusals.{NotFound}
use Rattle.inc_report.specs.RulesText.{rules_kind}
use Rattle.inc_answers.specs.Strictness.{not_found, stray_reasons, strays_of}
use Rattle.inc_answers.specs.Terms.{Question, RuleList}
use Rattle.inc_answers.specs.declared.kept_sources.KeptSources.{KeptSources}
use Rattle.inc_answers.specs.declared.asked.Asked.TheVariants as asked
use Rattle.inc_report.specs.declared.named.Format.{Format}
use Rattle.inc_report.specs.declared.named.Format.TheVariants.{Json}
use Rattle.inc_report.specs.declared.named.NamedForm.{NamedForm}
use Rattle.inc_answers.specs.declared.outcome.EndKind.TheVariants.{Answered, Negative, Refused}
use Rattle.inc_answers.specs.declared.subjects.Subject.{Subject}
use Rattle.inc_rules.specs.Breaking.{lacking}
use Rattle.inc_rules.specs.Judging.{Judged, is_broken}
use Rattle.inc_answers.proofs.DefinitionLemmas.{place_same}
use Rattle.inc_report.proofs.KeptLemmas.{fits_given, fits_unread, holds_inner, kept_is_given}
use Rattle.inc_report.proofs.NamedLemmas.{answered_refused, as_object, as_text, format_same, kind_same, negative_refused, rules_same, strays_same}
use Rattle.inc_answers.proofs.QuestionLemmas.{answer_all}
use Rattle.inc_answers.proofs.StrictLemmas.{strays_all, unless_none, unless_some}

-- of sights that see the same it is the same
shown_same : (format : Option Format) (q : Question) (kind : DirectiveId → LineKind) (a b : (name : List ℕ) → Option DirectiveId) → ((name : List ℕ) → a name ≡ b name)
    → (layout : Layout) (plain p : Printed) → IsShown format q layout (record { kind = kind; definition = a }) plain p → IsShown format q layout (record { kind = kind; definition = b }) plain p
shown_same None q kind a b same layout plain p is = is
shown_same (Some format) q kind a b same layout plain p is = format_same (rules_form format) q kind a b same layout plain p is

-- as text it is what is printed
pub shown_plain : (format : Option Format) (p : Printed) → format ≡ None → IsShownAnyhow format p p
shown_plain None p is = λ q layout sight. refl
shown_plain (Some format) p is = absurd (none-some format (sym is))

-- and in a format what is printed in it
pub shown_anyhow : (format : Option Format) (f : Format) (plain p : Printed) → format ≡ Some f → (form : NamedForm) → form ≡ rules_form f
    → IsInAnyFormat form plain p → IsShownAnyhow format plain p
shown_anyhow format f plain p is form same shown =
    subst (λ (o : Option Format). IsShownAnyhow o plain p) (sym is) (subst (λ (n : NamedForm). IsInAnyFormat n plain p) same shown)

---- lines that are added

-- a line that is not among those before it
pub text_more : (text new line : List ℕ) (keys more : List (List ℕ)) → not (list_any (bytes_eq line) keys) ≡ true → more ≡ with_path keys line
    → new ≡ text ++ line → text ≡ concat keys → new ≡ concat more
text_more text new line keys more other are is before =
    let none : list_any (bytes_eq line) keys ≡ false = not-true (list_any (bytes_eq line) keys) other in
    is ∙ ap (λ (l : List ℕ). l ++ line) before ∙ ap (λ (l : List ℕ). concat keys ++ l) (sym (append-nil line))
    ∙ sym (concat-append keys (line ∷ [])) ∙ ap concat (sym (are ∙ cond-false (list_any (bytes_eq line) keys) keys (keys ++ line ∷ []) none))

---- the lines, by the files of a listing

module _ (language : Language) (kept : Kept) (layout : Layout) (listing : Listing) (fits : Fits kept listing) (g : Graph) (held : AreGraphKept g kept) where
  abbrev own_line : DirectiveId → List ℕ
  own_line d = baseline_line (kept_kind language kept) layout d

  abbrev line : DirectiveId → List ℕ
  line d = baseline_line (kind_of language listing) layout d

  edge_kept : (i : ℕ) (e : Edge) → slice_get g.edges i ≡ Some e → IsTrue (is_some (kept_at kept e.from))
  edge_kept i e at =
      subst (λ (x : Edge). IsTrue (is_some (kept_at kept x.from))) (get_or_from_slice_get g.edges i e e at) (held.edges i e (slice_get_within g.edges i e at))

  -- an edge more
  with_edge : (i : ℕ) (o : Option Edge) (rest : List DirectiveId) → slice_get g.edges i ≡ o → map own_line rest ≡ map line rest
      → map own_line (cons_option (option_map (λ (e : Edge). record { file = e.from; line = e.line }) o) rest)
      ≡ map line (cons_option (option_map (λ (e : Edge). record { file = e.from; line = e.line }) o) rest)
  with_edge i None rest at same = same
  with_edge i (Some e) rest at same =
      ap₂ (λ (x : List ℕ) (xs : List (List ℕ)). x ∷ xs)
      (ap (λ (k : LineKind). line_text (led_path (path_at layout e.from) ++ codes ":" ++ header_text k)) (kind_same language kept layout listing fits (record { file = e.from; line = e.line }) (edge_kept i e at))) same

  lines_same : (edges : List ℕ) → map own_line (directives_of g edges) ≡ map line (directives_of g edges)
  lines_same [] = refl
  lines_same (i ∷ is) = with_edge i (slice_get g.edges i) (directives_of g is) refl (lines_same is)

  -- what is printed beside them
  beside_same : (format : Option Format) (name : List ℕ) (js : List Judged)
      → beside_text format name (kept_about language kept layout g) js ≡ beside_text format name (about language listing layout g) js
  beside_same None name js = refl
  beside_same (Some format) name js = rules_same language kept layout listing fits g held format name js

  abbrev printed_as : Option Format → List Judged → (text lines : List ℕ) → Printed
  printed_as format js text lines = record { text = text; end = with_baseline lines (end_of [] (rules_kind js)) }

  pub baseline_told : (format : Option Format) (l : RuleList) (p : Printed) → IsBaseline format l (kept_about language kept layout g) p → IsBaseline format l (about language listing layout g) p
  baseline_told format l p r =
      let js : List Judged = map (lacking layout g) l.rules in (
        r.0,
        r.1,
        r.2
            ∙ ap₂ (λ (text lines : List ℕ). printed_as format js text lines) (beside_same format l.name js)
            (ap (λ (ls : List (List ℕ)). concat (fold with_path [] ls)) (lines_same r.0)),
      )

---- the answer of a graph

module _ (format : Option Format) (l : RuleList) (q : Question) (s : Subject) (held : AreGraphKept s.graph.now s.files.now) (p : Printed) where
  abbrev own : Layout
  own = s.project.now

  abbrev strays : List Missing
  strays = strays_of q s.graph.now

  abbrev Then : Listing → Printed → Type 0
  Then listing x = IsBaselineOf format l s.language listing own s.graph.now x

  kind_stated : (b : Bool) → cond b Negative Answered ≡ Refused → ⊥
  kind_stated true same = negative_refused same
  kind_stated false same = answered_refused same

  shown_stated : (f : Option Format) (sight : Sight) → p.end.kind ≢ Refused → IsShown f q own sight p p
  shown_stated None sight stated = refl
  shown_stated (Some f) sight stated = inr (stated, refl)

  -- the answer, where all of them are excepted
  pub answered_kept : strays ≡ [] → IsBaseline format l (about_subject s) p → IsBaselineKept format l q s p
  answered_kept none r =
      let js : List Judged = map (lacking own s.graph.now) l.rules in
      let kind : p.end.kind ≡ rules_kind js = ap (λ (x : Printed). x.end.kind) r.2 in (
        p,
        λ listing laid fits. (
          unless_none own strays (Then listing) p none (baseline_told s.language s.files.now own listing fits s.graph.now held format l p r),
          shown_stated format (kept_sight s.language listing own s.files.now) (λ same. kind_stated (list_any is_broken js) (sym kind ∙ same)),
        ),
      )

  -- their refusal, as text
  shown_text : (f : Option Format) (sight : Sight) → f ≢ Some Json → p ≡ not_found own strays → IsShown f q own sight (not_found own strays) p
  shown_text None sight other is = is
  shown_text (Some f) sight other is = inl (
    stray_reasons own strays,
    NotFound own strays,
    refl,
    refl,
    is ∙ ap (refused_for (stray_reasons own strays)) (sym (as_text (rules_form f) sight.kind (NotFound own strays) (λ same. other (ap (λ (x : Format). Some x) same)))),
  )

  pub strays_text : strays ≢ [] → format ≢ Some Json → p ≡ not_found own strays → IsBaselineKept format l q s p
  strays_text some other is = (
    not_found own strays,
    λ listing laid fits. (
      unless_some own strays (Then listing) (not_found own strays) some refl,
      shown_text format (kept_sight s.language listing own s.files.now) other is,
    ),
  )

  -- and as an object
  shown_object : (f : Option Format) (listing : Listing) → Fits s.files.now listing → f ≡ Some Json
      → p ≡ refused_for (stray_reasons own strays) (refusal_json (command_name asked.Rules) (kept_kind s.language s.files.now) (NotFound own strays))
      → IsShown f q own (kept_sight s.language listing own s.files.now) (not_found own strays) p
  shown_object None listing fits same is = cc
  shown_object (Some f) listing fits same is =
      let json : f ≡ Json = same_Some f Json same in
      inl (
        stray_reasons own strays,
        NotFound own strays,
        refl,
        refl,
        is ∙ ap (refused_for (stray_reasons own strays))
            (strays_same s.language s.files.now own listing fits s.graph.now held (command_name asked.Rules) strays
            (strays_all (λ (m : Missing). IsTrue (is_some (kept_at s.files.now m.file))) asked.Rules q s.graph.now held.missing)
            ∙ sym (as_object (rules_form f) (kind_of s.language listing) (NotFound own strays) json)),
      )

  pub strays_object : strays ≢ [] → format ≡ Some Json → p ≡ refused_for (stray_reasons own strays) (refusal_json (command_name asked.Rules) (kept_kind s.language s.files.now) (NotFound own strays))
      → IsBaselineKept format l q s p
  strays_object some same is = (
    not_found own strays,
    λ listing laid fits. (
      unless_some own strays (Then listing) (not_found own strays) some refl,
      shown_object format listing fits same is,
    ),
  )

---- what is printed of a question

module _ {S : Type 0} (gives : S → ℕ → Result (List ℕ) ReadFault → S → Type 0) (old new : KeptSources S) (layout : Layout) (format : Option Format) (l : RuleList) (q : Question) (p : Printed) where
  pub baseline_given : (plain : Printed) (graph : Graph) → old.files ≡ replicate (length layout.paths) None
      → OfKept new.files layout (λ listing. IsStrictBaseline format l q q.language listing layout graph plain × IsShown format q layout (kept_sight q.language listing layout new.files) plain p)
      → HoldsOfGiven (keeps gives) old new layout (IsAnswerBy (λ k g r. g ≡ graph) q plain)
      → HoldsOfGiven gives old.sources new.sources layout (IsBaselineBy format l q p)
  baseline_given plain graph none told holds =
      holds_inner gives old new layout (IsAnswerBy (λ k g r. g ≡ graph) q plain) (IsBaselineBy format l q p) holds
      (λ given listing gave laid agrees is.
      (let fits : Fits new.files listing = fits_given gives old new given listing gave agrees (fits_unread old.files (length layout.paths) listing none) in
      let here = told listing laid fits in (
        plain,
        (
          answer_all (λ k g r. g ≡ graph) (IsStrictBaseline format l q q.language listing) q listing plain
              (λ g same. subst (λ (k : Layout). IsStrictBaseline format l q q.language listing k g plain) (sym laid) (subst (λ (h : Graph). IsStrictBaseline format l q q.language listing layout h plain) (sym same) here.0)) is.0,
          is.1,
        ),
        subst (λ (k : Layout). IsShown format q k (given_sight q.language listing k given) plain p) (sym laid)
            (shown_same format q (kind_of q.language listing) (kept_place q.language new.files (length layout.paths)) (given_place q.language given (length layout.paths))
            (place_same q.language (kept_at new.files) (given_bytes given) (length layout.paths) (λ file low. kept_is_given gives old new given (length layout.paths) file gave none low)) layout plain p here.1),
      )))

  pub baseline_refused : (plain : Printed) → IsShownAnyhow format plain p → HoldsOfGiven (keeps gives) old new layout (IsAnswerBy (λ k g r. ⊥) q plain)
      → HoldsOfGiven gives old.sources new.sources layout (IsBaselineBy format l q p)
  baseline_refused plain shown holds =
      holds_inner gives old new layout (IsAnswerBy (λ k g r. ⊥) q plain) (IsBaselineBy format l q p) holds
      (λ given listing gave laid agrees is. (
        plain,
        (answer_all (λ k g r. ⊥) (IsStrictBaseline format l q q.language listing) q listing plain (λ g none. absurd none) is.0, is.1),
        shown q (layout_of listing) (given_sight q.language listing (layout_of listing) given),
      ))
