-- What is printed of the files that a cut changes, by what was read and kept of them, and what that promises.
use Rattle.std.proofs.Common.{◌≡◌, ◌≢◌, ℕ, ◌<◌, Bool, true, false, ◌==◌, List, [], ◌∷◌, Option, Some, None, Result, Ok, Err, IfErr, IfSome, length, get_or, is_some, inl, inr, refl, sym, ap, subst, arith}
use Rattle.std.specs.Prelude.{replicate, slice_get, IsTrue}
use Rattle.std.specs.List.{All, list_any}
use Rattle.std.proofs.lemmas.Bool.{eqb-false}
use Rattle.std.proofs.lemmas.List.{length-replicate}
use Rattle.std.proofs.lemmas.List.Elements.{All-head, All-tail, All-cons, All-nil}
use Rattle.std.proofs.lemmas.Bool.{or_parts}
use Rattle.std.proofs.lemmas.Option.{slice_get-get_or}
use Rattle.inc_text.specs.declared.devices.ReadFault.{ReadFault}
use Rattle.inc_text.specs.declared.devices.ReadFault.TheVariants as read
use Rattle.inc_lookup.specs.Given.{Given, Agrees, HoldsOfGiven}
use Rattle.inc_lookup.specs.Projects.{Layout, Listing, layout_of, bytes_at}
use Rattle.inc_lookup.proofs.GivenLemmas.{given_all, laid_count, laid_with, with_bytes, agrees_more}
use Rattle.inc_graph.specs.Cuts.{fixed_by, directives_of}
use Rattle.inc_graph.specs.IncludeGraph.{Edge, Graph, IsGraphAnswer, IsInner}
use Rattle.inc_graph.specs.MarkedEdges.{amounts_by}
use Rattle.inc_graph.proofs.ClosureWalks.{edge_in_text}
use Rattle.inc_pp.specs.BlankedProjects.{blanked_listing}
use Rattle.inc_report.specs.BlankHeadline.{ChangesHeadline, ChangesKeepHeadersOut}
use Rattle.inc_answers.specs.BlankText.{AreChangesOf}
use Rattle.inc_answers.specs.Changes.{Change, changes}
use Rattle.inc_answers.specs.CutText.{WithAmounts, marks_refusal}
use Rattle.inc_report.specs.Headline.{NeverReadAny, IsWhollyFixed}
use Rattle.inc_answers.specs.KeptFiles.{AreAllKept, Fits, OfKept, keeps, kept_at}
use Rattle.inc_answers.specs.Known.{IsKnown}
use Rattle.inc_answers.specs.Printed.{Printed, answered}
use Rattle.inc_answers.specs.Questions.{Answer, FailsAt, IsAnswerBy, unread_by}
use Rattle.inc_answers.specs.Strictness.{Strict, open_strays_of}
use Rattle.inc_answers.specs.Terms.{Question, Limits, named_directives, setting_in}
use Rattle.inc_answers.specs.Writing.{unread_of}
use Rattle.inc_answers.specs.declared.kept_sources.KeptSources.{KeptSources}
use Rattle.inc_answers.specs.declared.outcome.End.{End}
use Rattle.inc_answers.specs.declared.outcome.EndKind.TheVariants.{Answered, Negative}
use Rattle.inc_answers.specs.declared.outcome.RunFault.{RunFault}
use Rattle.inc_answers.specs.declared.outcome.RunFault.TheVariants as fault
use Rattle.inc_answers.specs.declared.questions.NoGraph.{NoGraph}
use Rattle.inc_report.proofs.BlankedCuts.{blanked_cut_keeps_headers_out}
use Rattle.inc_report.proofs.ChangedListings.{changed_is_blanked}
use Rattle.inc_report.proofs.HeadlineLemmas.{ends_apart, answered_negative, wholly_fixed}
use Rattle.inc_answers.proofs.StatedAnswers.{IsTold, told_of, stated_yes, stated_no, unhindered_told, unless_told}
use Rattle.inc_report.proofs.KeptOut.{of_names_once}
use Rattle.inc_answers.proofs.InnerSources as inner
use Rattle.inc_answers.proofs.InnerSources.{unread_all}
use Rattle.inc_report.proofs.KeptLemmas.{fits_given, fits_unread, holds_inner, kept_given}
use Rattle.inc_report.proofs.KnownParts.{OfKnown}
use Rattle.inc_answers.proofs.QuestionLemmas.{answer_all}

---- what is printed

module _ {S : Type 0} (gives : S → ℕ → Result (List ℕ) ReadFault → S → Type 0) (old new : KeptSources S) (layout : Layout) (q : Question) where
  -- what is printed of the graph and of the files that are kept is printed of the question
  pub of_kept : (Then : Listing → Answer) (p : Printed) (graph : Graph) (n : ℕ) → old.files ≡ replicate n None
      → OfKept new.files layout (λ listing. Then listing layout graph p)
      → HoldsOfGiven (keeps gives) old new layout (IsAnswerBy (λ l g r. g ≡ graph) q p)
      → HoldsOfGiven gives old.sources new.sources layout (λ given listing. IsAnswerBy (Then listing) q p given listing)
  of_kept Then p graph n none told holds =
      holds_inner gives old new layout (IsAnswerBy (λ l g r. g ≡ graph) q p) (λ given listing. IsAnswerBy (Then listing) q p given listing) holds
      (λ given listing gave laid agrees is.
      (let fits : Fits new.files listing = fits_given gives old new given listing gave agrees (fits_unread old.files n listing none) in
      let here : Then listing layout graph p = told listing laid fits in (
        answer_all (λ l g r. g ≡ graph) (Then listing) q listing p
            (λ g same. subst (λ (l : Layout). Then listing l g p) (sym laid) (subst (λ (k : Graph). Then listing layout k p) (sym same) here)) is.0,
        is.1,
      )))

  -- and so is what is printed where it has none
  pub of_no_graph : (Then : Listing → Answer) (p : Printed) → HoldsOfGiven (keeps gives) old new layout (IsAnswerBy (λ l g r. ⊥) q p)
      → HoldsOfGiven gives old.sources new.sources layout (λ given listing. IsAnswerBy (Then listing) q p given listing)
  of_no_graph Then p holds =
      holds_inner gives old new layout (IsAnswerBy (λ l g r. ⊥) q p) (λ given listing. IsAnswerBy (Then listing) q p given listing) holds
      (λ given listing gave laid agrees is. (answer_all (λ l g r. ⊥) (Then listing) q listing p (λ g none. absurd none) is.0, is.1))

  ---- files that are not read

  module _ (graph : Graph) (known : IsKnown layout graph) (n : ℕ) (none : old.files ≡ replicate n None) (long : n ≡ length layout.paths)
      (holds : HoldsOfGiven (keeps gives) old new layout (IsAnswerBy (λ l g r. g ≡ graph) q (answered []))) where
    -- were a file not read that an edge leaves, it could be empty
    unread_never : (k : ℕ) (e : Edge) → slice_get graph.edges k ≡ Some e → e.from < length layout.paths
        → list_any (λ (g : Given). g.file == e.from) holds.given ≡ false → ⊥
    unread_never k e there within unread =
        let listing : Listing = with_bytes holds.witness e.from [] in
        let laid = laid_with layout holds.witness e.from [] holds.laid_out in
        let short : e.from < length holds.witness.files = omega (arith, within, laid_count layout holds.witness holds.laid_out) in
        let one : Given = record { file = e.from; bytes = [] } in
        let agrees = agrees_more holds.witness holds.given e.from [] short (unread_all holds.given e.from unread) holds.agrees in
        let empty : bytes_at listing e.from ≡ [] = All-head (λ (g : Given). bytes_at listing g.file ≡ g.bytes) one holds.given agrees in
        let rest : Agrees holds.given listing = All-tail (λ (g : Given). bytes_at listing g.file ≡ g.bytes) one holds.given agrees in
        let is = holds.every listing laid rest in
        let told = told_of (λ l g r. g ≡ graph) q listing (answered []) (stated_yes (answered []) refl) is.0 in
        edge_in_text (setting_in (layout_of listing) q) listing told.sources told.headers graph
        (subst (λ (g : Graph). IsGraphAnswer (setting_in (layout_of listing) q) listing told.sources told.headers (Ok g)) told.told told.graph_is) k e there empty

    kept_when : (b : Bool) (k : ℕ) (e : Edge) → slice_get graph.edges k ≡ Some e → e.from < length layout.paths
        → list_any (λ (g : Given). g.file == e.from) holds.given ≡ b → IsTrue (is_some (kept_at new.files e.from))
    kept_when true k e there within is =
        let nothing : Option (List ℕ) = None in
        let low : e.from < length old.files = omega (arith, within, long, ap (λ (l : List (Option (List ℕ))). length l) none, length-replicate n nothing) in
        kept_given gives old new holds.given e.from holds.gave low is
    kept_when false k e there within is = absurd (unread_never k e there within is)

    pub all_kept : AreAllKept graph new.files
    all_kept k d low =
        let inner : IsInner graph.files graph.headers (get_or graph.edges k d) = known.sound.inner k d low in
        kept_when (list_any (λ (g : Given). g.file == (get_or graph.edges k d).from) holds.given) k (get_or graph.edges k d) (slice_get-get_or graph.edges k d low)
        (omega (arith, inner.from_within, known.files)) refl

  pub fails_inner : (cause : NoGraph) (result : Result End RunFault) → IfErr result (λ f. IfSome (unread_of f) (λ r. unread_by cause ≡ Some r))
      → IfSome (unread_by cause) (FailsAt (keeps gives) old new layout q)
      → IfErr result (λ f. IfSome (unread_of f) (FailsAt gives old.sources new.sources layout q))
  fails_inner =
      inner.fails_inner gives (keeps gives) (λ (s : KeptSources S). s.sources) (λ older file bytes newer h. h.0) new layout q old (λ state file h. h) (λ state file h. h)

---- what it promises

module _ (text : List Change → List ℕ) (q : Question) (l : Limits) (p : Printed) (given : List Given) (listing : Listing) where
  abbrev layout : Layout
  layout = layout_of listing

  abbrev pub OfChanges : Answer
  OfChanges = OfKnown (Strict (open_strays_of q) (WithAmounts l (AreChangesOf text q.language listing)))

  told_changes : (end : p.end.kind ≡ Answered) (t : IsTold OfChanges q listing p) → (cs : List Change) × (p.text ≡ text cs) × ChangesKeepHeadersOut q l listing cs
  told_changes end t =
      let g : Graph = t.graph in
      let amounts : List ℕ = amounts_by layout g l.kept l.fixed l.costs in
      let known : IsKnown layout g = t.told.0 in
      let u = unhindered_told layout g.definitions g.blockers (marks_refusal layout g l.fixed l.costs) (AreChangesOf text q.language listing layout g amounts) p (stated_yes p end)
      (unless_told layout (open_strays_of q g) (WithAmounts l (AreChangesOf text q.language listing) layout g) p (stated_yes p end) t.told.1) in
      elim u.1 [
        | inl cut ↦
            let set : List ℕ = cut.0 in
            let cs : List Change = changes q.language listing (directives_of g set) in
            let blanked = changed_is_blanked q.language layout listing (directives_of g set) refl known.once in (
              cs,
              ap (λ (r : Printed). r.text) cut.2,
              record {
                sources = t.sources;
                headers = t.headers;
                sources_are = t.sources_are;
                headers_are = t.headers_are;
                kept_out = subst (λ (files : Listing). NeverReadAny q.others files q.language q.undefined t.sources t.headers (named_directives layout q.without)) (sym blanked)
                    (of_names_once q.others (blanked_listing q.language listing (directives_of g set)) q.language q.undefined t.sources t.headers (named_directives layout q.without)
                    (blanked_cut_keeps_headers_out (setting_in layout q) listing t.sources t.headers g t.graph_is u.0 (fixed_by amounts) set cut.1.cheapest.separates));
                graph = g;
                graph_is = t.graph_is;
                set = set;
                blanked = refl;
                cheapest = cut.1.cheapest;
              },
            )
        | inr none ↦ absurd (ends_apart p Answered Negative end (ap (λ (r : Printed). r.end.kind) none.2) answered_negative)
      ]

  told_fixed : (end : p.end.kind ≡ Negative) (t : IsTold OfChanges q listing p) → IsWhollyFixed q l listing p.text
  told_fixed end t =
      let g : Graph = t.graph in
      let amounts : List ℕ = amounts_by layout g l.kept l.fixed l.costs in
      let u = unhindered_told layout g.definitions g.blockers (marks_refusal layout g l.fixed l.costs) (AreChangesOf text q.language listing layout g amounts) p (stated_no p end)
      (unless_told layout (open_strays_of q g) (WithAmounts l (AreChangesOf text q.language listing) layout g) p (stated_no p end) t.told.1) in
      elim u.1 [
        | inl cut ↦ absurd (ends_apart p Answered Negative (ap (λ (r : Printed). r.end.kind) cut.2) end answered_negative)
        | inr none ↦ wholly_fixed OfChanges q l p listing t none
      ]

  pub changes_headline : IsAnswerBy OfChanges q p given listing → ChangesHeadline text q l p listing
  changes_headline is = record {
    changed = λ end. told_changes end (told_of OfChanges q listing p (stated_yes p end) is.0);
    none = λ end. told_fixed end (told_of OfChanges q listing p (stated_no p end) is.0);
  }

-- so of what is printed of the graph and of the files that are kept
module _ {S : Type 0} (gives : S → ℕ → Result (List ℕ) ReadFault → S → Type 0) (old new : KeptSources S) (layout : Layout) (text : List Change → List ℕ) (q : Question) (l : Limits) (p : Printed) where
  pub kept_headline : (graph : Graph) (n : ℕ) → old.files ≡ replicate n None → IsKnown layout graph
      → OfKept new.files layout (λ listing. Strict (open_strays_of q) (WithAmounts l (AreChangesOf text q.language listing)) layout graph p)
      → HoldsOfGiven (keeps gives) old new layout (IsAnswerBy (λ l g r. g ≡ graph) q p)
      → HoldsOfGiven gives old.sources new.sources layout (λ given listing. ChangesHeadline text q l p listing)
  kept_headline graph n none known told holds =
      given_all (of_kept gives old new layout q (λ listing. OfKnown (Strict (open_strays_of q) (WithAmounts l (AreChangesOf text q.language listing)))) p graph n none (λ listing laid fits. (known, told listing laid fits)) holds)
      (λ given listing laid is. changes_headline text q l p given listing is)

  pub refused_headline : HoldsOfGiven (keeps gives) old new layout (IsAnswerBy (λ l g r. ⊥) q p)
      → HoldsOfGiven gives old.sources new.sources layout (λ given listing. ChangesHeadline text q l p listing)
  refused_headline holds =
      given_all (of_no_graph gives old new layout q (λ listing. OfKnown (Strict (open_strays_of q) (WithAmounts l (AreChangesOf text q.language listing)))) p holds)
      (λ given listing laid is. changes_headline text q l p given listing is)
