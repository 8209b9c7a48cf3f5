-- What the answers of `cut` and `check` promise of every preprocessing.
use Rattle.std.proofs.Common.{◌≡◌, ℕ, Bool, true, false, List, [], ◌∷◌, ◌++◌, Option, Some, None, Ok, inl, inr, refl, sym, ap, ◌∙◌, subst}
use Rattle.std.specs.Prelude.{not, IsTrue}
use Rattle.std.specs.List.{list_all}
use Rattle.inc_graph.specs.declared.building.Source.{Source}
use Rattle.inc_lookup.specs.declared.projects.DirectiveId.{DirectiveId}
use Rattle.inc_lookup.specs.Given.{Given}
use Rattle.inc_lookup.specs.Projects.{Layout, Listing, layout_of}
use Rattle.inc_graph.specs.Cuts.{fixed_by, costs_by, directives_of}
use Rattle.inc_graph.specs.IncludeGraph.{Graph, IsGraphAnswer}
use Rattle.inc_graph.specs.MarkedEdges.{amounts_by}
use Rattle.inc_graph.specs.declared.graphs.Blocker.{Blocker}
use Rattle.inc_graph.proofs.CertificateLemmas.{certificate_is_cheapest}
use Rattle.inc_check.specs.declared.certificates.Certificate.{Certificate}
use Rattle.inc_check.specs.declared.verdicts.Reason.TheVariants.{NotEditable, Repeated, NotAChain}
use Rattle.inc_check.specs.declared.verdicts.Verdict.{Verdict}
use Rattle.inc_check.specs.declared.verdicts.Verdict.TheVariants.{Yes, No}
use Rattle.inc_check.specs.Certificates.{are_different, certificate_of, edge_numbers, is_counted_chain, is_marked_editable, IsVerdict}
use Rattle.inc_check.specs.CertificateText.{IsCertificateText}
use Rattle.inc_check.proofs.AcceptedCuts.{cut_is_accepted}
use Rattle.inc_check.proofs.VerdictLemmas.{yes_is_certificate}
use Rattle.inc_report.specs.CheckText.{verdict_printed, IsCheckOf}
use Rattle.inc_answers.specs.CutText.{WithAmounts, Unhindered, marks_refusal, IsCutOf, IsFixedPrinted}
use Rattle.inc_answers.specs.Fitting.{IsFitCutOf}
use Rattle.inc_report.specs.Headline.{NeverReadAny, KeepsHeadersOut, IsWhollyFixed, CutHeadline, CheckHeadline}
use Rattle.inc_answers.specs.AnswerNotes.{empty_notes}
use Rattle.inc_answers.specs.NamedFiles.{headers_at, sources_at}
use Rattle.inc_answers.specs.Printed.{Printed}
use Rattle.inc_answers.specs.Questions.{Answer, IsAnswerBy}
use Rattle.inc_answers.specs.Refusals.{Refusal, Malformed}
use Rattle.inc_answers.specs.Known.{IsKnown}
use Rattle.inc_answers.specs.Strictness.{Strict, open_strays_of}
use Rattle.inc_report.proofs.KnownParts.{OfKnown}
use Rattle.inc_answers.specs.Terms.{Question, Limits, named_directives, setting_in}
use Rattle.inc_answers.specs.declared.outcome.EndKind.{EndKind}
use Rattle.inc_answers.specs.declared.outcome.EndKind.TheVariants.{Answered, Negative}
use Rattle.inc_answers.proofs.FitLemmas.{fits_text}
use Rattle.inc_report.proofs.KeptOut.{answered_cut_keeps_headers_out, of_names_once}
use Rattle.inc_report.proofs.NamedDirectives.{named_edges}
use Rattle.inc_answers.proofs.StrictLemmas.{unless_all}
use Rattle.inc_answers.proofs.StatedAnswers.{IsStated, IsTold, never_refused, stated_no, stated_yes, told_of, unhindered_told, unless_told}

---- a certificate that a checker says yes to

holds : (b : Bool) → (IsTrue (not b) → ⊥) → b ≡ true
holds true never = refl
holds false never = absurd (never refl)

keeps_out : (q : Question) (l : Limits) (listing : Listing) (sources : List Source) (headers : List ℕ) (g : Graph) (c : Certificate)
    → sources_at (layout_of listing) q ≡ Ok sources → headers_at (layout_of listing) q.to ≡ Ok headers
    → IsGraphAnswer (setting_in (layout_of listing) q) listing sources headers (Ok g) → IsKnown (layout_of listing) g → g.blockers ≡ []
    → IsVerdict (layout_of listing) g (fixed_by (amounts_by (layout_of listing) g l.kept l.fixed l.costs)) (costs_by (amounts_by (layout_of listing) g l.kept l.fixed l.costs)) c Yes
    → KeepsHeadersOut q l listing c
keeps_out q l listing sources headers g c sources_are headers_are answer known clear good =
    let layout : Layout = layout_of listing in
    let amounts : List ℕ = amounts_by layout g l.kept l.fixed l.costs in
    let certificate = yes_is_certificate layout g (fixed_by amounts) (costs_by amounts) c good in
    let named : list_all (is_marked_editable layout g (fixed_by amounts)) c.cut ≡ true = holds (list_all (is_marked_editable layout g (fixed_by amounts)) c.cut) (good NotEditable) in
    let same = named_edges layout g known.once known.sound known.files (fixed_by amounts) c.cut named in
    record {
      sources = sources;
      headers = headers;
      sources_are = sources_are;
      headers_are = headers_are;
      kept_out = subst (λ (ds : List DirectiveId). NeverReadAny q.others listing q.language q.undefined sources headers (ds ++ named_directives layout q.without)) (sym same)
          (of_names_once q.others listing q.language q.undefined sources headers (directives_of g (edge_numbers layout g c.cut) ++ named_directives layout q.without)
          (answered_cut_keeps_headers_out (setting_in layout q) listing sources headers g answer clear (fixed_by amounts) (edge_numbers layout g c.cut) certificate.separates));
      graph = g;
      graph_is = answer;
      editable = named;
      different = holds (are_different c.cut) (good Repeated);
      chains = holds (list_all (is_counted_chain layout g) c.chains) (good NotAChain);
      cheapest = certificate_is_cheapest g (fixed_by amounts) (costs_by amounts) _ _ certificate;
      shown = certificate;
    }

---- a verdict

is_yes : (notes : List ℕ) (v : Verdict) (p : Printed) → p ≡ verdict_printed notes v → p.end.kind ≡ Answered → v ≡ Yes
is_yes notes Yes p is end = refl
is_yes notes (No r) p is end = let same : Negative ≡ Answered = sym (ap (λ (q : Printed). q.end.kind) is) ∙ end in cc

pub check_headline : (q : Question) (l : Limits) (text : List ℕ) (p : Printed) (given : List Given) (listing : Listing)
    → IsAnswerBy (OfKnown (Strict (open_strays_of q) (WithAmounts l (IsCheckOf text)))) q p given listing → CheckHeadline q l text p listing
check_headline q l text p given listing is end =
    let layout : Layout = layout_of listing in
    let stated : IsStated p = stated_yes p end in
    let t = told_of (OfKnown (Strict (open_strays_of q) (WithAmounts l (IsCheckOf text)))) q listing p stated is.0 in
    let g : Graph = t.graph in
    let amounts : List ℕ = amounts_by layout g l.kept l.fixed l.costs in
    let u = unhindered_told layout g.definitions g.blockers (marks_refusal layout g l.fixed l.costs) (IsCheckOf text layout g amounts) p stated
    (unless_told layout (open_strays_of q g) (WithAmounts l (IsCheckOf text) layout g) p stated t.told.1) in
    elim u.1 [
      | inl malformed ↦ absurd (never_refused (Malformed malformed.0) p malformed.2 stated)
      | inr verdict ↦ (
        verdict.0,
        verdict.2,
        keeps_out q l listing t.sources t.headers g verdict.0 t.sources_are t.headers_are t.graph_is t.told.0 u.0
            (subst (IsVerdict layout g (fixed_by amounts) (costs_by amounts) verdict.0) (is_yes (empty_notes layout g) verdict.1 p verdict.4 end) verdict.3),
      )
    ]

---- a cut

pub unhindered_all : (layout : Layout) (ds : List DirectiveId) (bs : List Blocker) (fault : Option (List ℕ × Refusal)) (A B : Printed → Type 0) (p : Printed) → (A p → B p) → Unhindered layout ds bs fault A p → Unhindered layout ds bs fault B p
unhindered_all layout ds (b ∷ bs) fault A B p step is = is
unhindered_all layout ds [] (Some r) A B p step is = is
unhindered_all layout ds [] None A B p step is = step is

-- a cut that a text can hold is a cut
fit_cut : (layout : Layout) (g : Graph) (amounts : List ℕ) (p : Printed) → IsFitCutOf layout g amounts p → IsCutOf layout g amounts p
fit_cut layout g amounts p is = elim is [ inl cut ↦ inl (cut.0, cut.1, cut.2, cut.4) | inr none ↦ inr none ]

pub fit_answer : (l : Limits) (layout : Layout) (g : Graph) (p : Printed) → WithAmounts l IsFitCutOf layout g p → WithAmounts l IsCutOf layout g p
fit_answer l layout g p is =
    let amounts : List ℕ = amounts_by layout g l.kept l.fixed l.costs in
    unhindered_all layout g.definitions g.blockers (marks_refusal layout g l.fixed l.costs) (IsFitCutOf layout g amounts) (IsCutOf layout g amounts) p (fit_cut layout g amounts p) is

-- the same of a question, which may be strict
pub fit_strictly : (q : Question) (l : Limits) (layout : Layout) (g : Graph) (p : Printed) → Strict (open_strays_of q) (WithAmounts l IsFitCutOf) layout g p
    → Strict (open_strays_of q) (WithAmounts l IsCutOf) layout g p
fit_strictly q l layout g p is =
    unless_all layout (open_strays_of q g) (WithAmounts l IsFitCutOf layout g) (WithAmounts l IsCutOf layout g) p (fit_answer l layout g p) is

pub ends_apart : (p : Printed) (a b : EndKind) → p.end.kind ≡ a → p.end.kind ≡ b → (a ≡ b → ⊥) → ⊥
ends_apart p a b is_a is_b apart = apart (sym is_a ∙ is_b)

pub answered_negative : Answered ≡ Negative → ⊥
answered_negative same = cc

-- a chain of fixed edges that is printed
pub wholly_fixed : (Then : Answer) (q : Question) (l : Limits) (p : Printed) (listing : Listing) (t : IsTold Then q listing p)
    → IsFixedPrinted (layout_of listing) t.graph (amounts_by (layout_of listing) t.graph l.kept l.fixed l.costs) p → IsWhollyFixed q l listing p.text
wholly_fixed Then q l p listing t none = record {
  sources = t.sources;
  headers = t.headers;
  sources_are = t.sources_are;
  headers_are = t.headers_are;
  graph = t.graph;
  graph_is = t.graph_is;
  chain = none.0;
  is_fixed = none.1;
  printed = ap (λ (r : Printed). r.text) none.2;
}

module _ (q : Question) (l : Limits) (p : Printed) (given : List Given) (listing : Listing) where
  abbrev layout : Layout
  layout = layout_of listing

  abbrev Fit : Answer
  Fit = OfKnown (Strict (open_strays_of q) (WithAmounts l IsFitCutOf))

  told_cut : (end : p.end.kind ≡ Answered) (t : IsTold Fit q listing p) → (c : Certificate) × IsCertificateText p.text c × KeepsHeadersOut q l listing c
  told_cut end t =
      let g : Graph = t.graph in
      let amounts : List ℕ = amounts_by layout g l.kept l.fixed l.costs in
      let known : IsKnown layout g = t.told.0 in
      let u = unhindered_told layout g.definitions g.blockers (marks_refusal layout g l.fixed l.costs) (IsFitCutOf layout g amounts) p (stated_yes p end)
      (unless_told layout (open_strays_of q g) (WithAmounts l IsFitCutOf layout g) p (stated_yes p end) t.told.1) in
      elim u.1 [
        | inl fit ↦
            let c : Certificate = certificate_of layout g fit.0 fit.1 in
            let cut = fit.2 in
            let text : IsCertificateText p.text c = subst (λ (text : List ℕ). IsCertificateText text c) (sym (ap (λ (q : Printed). q.text) fit.4)) (fits_text layout g known.sound amounts fit.0 fit.1 cut fit.3) in
            let good = cut_is_accepted layout g known.once known.sound known.files (fixed_by amounts) (costs_by amounts) fit.0 fit.1 cut.shown in
            (c, text, keeps_out q l listing t.sources t.headers g c t.sources_are t.headers_are t.graph_is known u.0 good)
        | inr none ↦ absurd (ends_apart p Answered Negative end (ap (λ (q : Printed). q.end.kind) none.2) answered_negative)
      ]

  told_none : (end : p.end.kind ≡ Negative) (t : IsTold Fit q listing p) → IsWhollyFixed q l listing p.text
  told_none end t =
      let g : Graph = t.graph in
      let amounts : List ℕ = amounts_by layout g l.kept l.fixed l.costs in
      let u = unhindered_told layout g.definitions g.blockers (marks_refusal layout g l.fixed l.costs) (IsFitCutOf layout g amounts) p (stated_no p end)
      (unless_told layout (open_strays_of q g) (WithAmounts l IsFitCutOf layout g) p (stated_no p end) t.told.1) in
      elim u.1 [
        | inl fit ↦ absurd (ends_apart p Answered Negative (ap (λ (q : Printed). q.end.kind) fit.4) end answered_negative)
        | inr none ↦ wholly_fixed Fit q l p listing t none
      ]

  pub cut_headline : IsAnswerBy Fit q p given listing → CutHeadline q l p listing
  cut_headline is = record {
    cut = λ end. told_cut end (told_of Fit q listing p (stated_yes p end) is.0);
    none = λ end. told_none end (told_of Fit q listing p (stated_no p end) is.0);
  }
