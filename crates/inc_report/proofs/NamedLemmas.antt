-- What is printed in which directives stand as they are written, by what was read and kept, and what that promises.
use Rattle.std.proofs.Common.{◌≡◌, ◌≢◌, ◌⊎◌, ℕ, ◌<◌, Bool, true, false, ◌==◌, List, [], ◌∷◌, ◌++◌, Option, Some, None, Result, Ok, cond, length, get_or, is_some, inl, inr, refl, sym, ap, ap₂, subst, ◌∙◌, arith}
use Rattle.std.specs.Prelude.{map, replicate, IsTrue, option_and_then, slice_index_or}
use Rattle.std.specs.List.{All, list_any, range_with_len}
use Rattle.std.specs.Option.{option_map_or}
use Rattle.std.proofs.lemmas.Bool.{eqb-false, or_parts}
use Rattle.std.proofs.lemmas.List.{get_or_default, length-replicate}
use Rattle.std.proofs.lemmas.List.FromFn.{get_or-map-range_with_len}
use Rattle.std.proofs.lemmas.Option.{get_or_from_slice_get, slice_get-get_or, slice_get_within}
use Rattle.std.proofs.lemmas.List.Elements.{All-contains, All-head, All-tail, All-cons, All-nil}
use Rattle.inc_graph.specs.declared.building.Source.{Source}
use Rattle.inc_text.specs.declared.devices.ReadFault.{ReadFault}
use Rattle.inc_text.specs.declared.languages.Language.{Language}
use Rattle.inc_directive.specs.LineKinds.{LineKind}
use Rattle.inc_lookup.specs.declared.projects.DirectiveId.{DirectiveId}
use Rattle.inc_lookup.specs.Given.{Given, Agrees, HoldsOfGiven}
use Rattle.inc_lookup.specs.Projects.{Layout, Listing, layout_of, bytes_at, path_at}
use Rattle.inc_lookup.proofs.GivenLemmas.{given_all, laid_count, laid_with, with_bytes, agrees_more}
use Rattle.inc_graph.specs.Cuts.{fixed_by, directives_of}
use Rattle.inc_graph.specs.IncludeGraph.{Edge, Graph, IsGraphAnswer, IsSound}
use Rattle.inc_graph.specs.Members.{is_member}
use Rattle.inc_graph.specs.MarkedEdges.{amounts_by, marks_fault}
use Rattle.inc_graph.specs.MissingLists.{Missing}
use Rattle.inc_graph.specs.declared.fixing.FixedFault.{FixedFault}
use Rattle.inc_graph.specs.declared.graphs.Blocker.{Blocker}
use Rattle.inc_cost.proofs.SameWeights.{IsMet, total_same}
use Rattle.inc_cost.proofs.Weighing.{contains_member, member_contains}
use Rattle.inc_graph.proofs.Walks.{inner_edge}
use Rattle.inc_answers.specs.TreeDocument.{tree_document}
use Rattle.inc_answers.specs.TreeText.{tree_branches}
use Rattle.inc_cost.specs.declared.branches.Branch.{Branch}
use Rattle.inc_cost.proofs.TreeSame.{forest_same}
use Rattle.inc_answers.specs.CostDocument.{cost_document}
use Rattle.inc_answers.specs.CostText.{Ranked}
use Rattle.inc_answers.specs.CutDocument.{has_costs}
use Rattle.inc_answers.specs.CutText.{Unhindered, blocked, marks_refusal, refusal_of_fault}
use Rattle.inc_answers.specs.BlockedReasons.{blocked_reasons}
use Rattle.inc_answers.specs.DefinitionPlaces.{given_bytes, given_place, kept_place}
use Rattle.inc_answers.specs.DirectiveNames.{kept_kind, kept_name, kind_at, kind_of, name_of, written}
use Rattle.inc_answers.specs.Documents.{AreGraphKept, AreKept, Block, IsKept, Led, Place, Words, block_text, document_text}
use Rattle.inc_answers.specs.JsonAnswers.{About, about_subject, kept_about}
use Rattle.inc_answers.specs.JsonDirectives.{directive_text}
use Rattle.inc_answers.specs.JsonRefusals.{mark_items, refusal_json, refusal_object, stray_item}
use Rattle.inc_answers.specs.FileSizes.{file_size, file_sizes, kept_sizes}
use Rattle.inc_answers.specs.KeptFiles.{Fits, Kept, OfKept, keeps, kept_at}
use Rattle.inc_answers.specs.Known.{IsKnown}
use Rattle.inc_answers.specs.MarkReasons.{marks_reason}
use Rattle.inc_answers.specs.AnswerNotes.{empty_notes}
use Rattle.inc_answers.specs.NameTables.{NameSource}
use Rattle.inc_report.specs.NamedHeadline.{HasGraph, NamedCutHeadline, NamedHeadline, NamedIsFixed, NamedKeepsHeadersOut, NamedRulesHeadline}
use Rattle.inc_answers.specs.NamedReasons.{Sight, named_reasons, sight_kept}
use Rattle.inc_report.specs.NamedText.{AreTreesReported, tree_answer, IsCostReport, IsHinderedKept, IsInAnyFormat, IsInFormat, IsNamedAs, IsNamedBy, IsNamedKept, IsNamedOf, IsOfLayout, IsReport, IsReportOf, IsRuleReport, IsStrictKept, IsStrictOf, about, answer_document, answer_json, answer_lines, answer_text, blocked_as, given_sight, kept_sight, printed_answer, reason_in, refused_text, rules_answer, cost_answer}
use Rattle.inc_answers.specs.CommandNames.{command_name}
use Rattle.inc_answers.specs.Printed.{Printed, answered, answered_of, end_of, reached_kind, refused_for}
use Rattle.inc_answers.specs.Questions.{Answer, IsAnswerBy}
use Rattle.inc_answers.specs.Refusals.{Blocked, NotFound, Refusal, refusal_for, refusal_text}
use Rattle.inc_answers.specs.RulesDocument.{rules_document}
use Rattle.inc_report.specs.RulesText.{rules_kind}
use Rattle.inc_answers.specs.Terms.{Question, Details, Limits, RuleList, is_whole, named_directives, setting_in, CostWords}
use Rattle.inc_rules.specs.Judging.{Judged, is_broken}
use Rattle.inc_answers.specs.Strictness.{Strict, asked_strays_of, not_found, open_strays_of, stray_reasons}
use Rattle.inc_answers.specs.Told as report
use Rattle.inc_answers.specs.Told.{Chains, Edges, FixedChain, IsAnswerOf, Removed, Sources, end_kind, notes_of}
use Rattle.inc_answers.specs.Views.{seen_refusal}
use Rattle.inc_answers.specs.declared.kept_sources.KeptSources.{KeptSources}
use Rattle.inc_answers.specs.declared.asked.Asked.{Asked}
use Rattle.inc_answers.specs.declared.asked.Asked.TheVariants as ask
use Rattle.inc_report.specs.declared.named.Format.{Format}
use Rattle.inc_report.specs.declared.named.Format.TheVariants.{Gcc, Json, Dot}
use Rattle.inc_report.specs.declared.named.NamedForm.{NamedForm}
use Rattle.inc_answers.specs.declared.outcome.End.{End}
use Rattle.inc_answers.specs.declared.outcome.EndKind.{EndKind}
use Rattle.inc_answers.specs.declared.outcome.EndKind.TheVariants.{Answered, Negative, Refused}
use Rattle.inc_answers.specs.declared.refusals.Refusal as declared
use Rattle.inc_answers.specs.declared.refusals.Refusal.TheVariants as refused
use Rattle.inc_answers.specs.declared.subjects.Subject.{Subject}
use Rattle.inc_report.proofs.BlankLemmas.{all_kept}
use Rattle.inc_answers.proofs.CostLemmas.{size_by}
use Rattle.inc_answers.proofs.CutLemmas.{unhindered}
use Rattle.inc_report.proofs.HeadlineLemmas.{unhindered_all, ends_apart, answered_negative}
use Rattle.inc_answers.proofs.StatedAnswers.{IsTold, told_of, stated_other, stated_yes, stated_no, unhindered_told, unless_told}
use Rattle.inc_report.proofs.JsonKept.{AreSame, cost_same, cut_same, fixed_same, graph_same, items_same, rules_object, tree_same, who_same, why_same}
use Rattle.inc_report.proofs.KeptDirectives.{cost_kept, cut_kept, fixed_kept, links_kept, rules_kept, tree_kept, who_kept, why_kept}
use Rattle.inc_answers.proofs.DefinitionLemmas.{place_same}
use Rattle.inc_report.proofs.KeptLemmas.{fits_given, fits_unread, holds_inner, kept_given, kept_is_given, kept_none, kept_ungiven}
use Rattle.inc_report.proofs.KeptOut.{answered_cut_keeps_headers_out, of_names_once}
use Rattle.inc_answers.proofs.MarkReasonLemmas.{by_reason, reasoned_is}
use Rattle.inc_answers.proofs.MetFiles as met
use Rattle.inc_answers.proofs.NamedReasonLemmas.{reasons_same}
use Rattle.inc_answers.proofs.QuestionLemmas.{answer_all}
use Rattle.inc_answers.proofs.RankedSame.{ranked_same}
use Rattle.inc_report.proofs.RulesKept.{rules_promised}
use Rattle.inc_answers.proofs.StrictLemmas.{strays_all, unless_none, unless_some}
use Rattle.inc_report.proofs.UnresolvedTexts.{blocker_in_text, missing_in_text}

-- a text, and how the call ends
abbrev pub printed_as : (text : List ℕ) → End → Printed
printed_as text end = record { text = text; end = end }

-- by its parts
pub printed_same : (text told notes noted : List ℕ) (kind ends : EndKind) → text ≡ told → notes ≡ noted → kind ≡ ends
    → printed_as text (end_of notes kind) ≡ printed_as told (end_of noted ends)
printed_same text told notes noted kind ends a b c = rw (a, b, c) refl

---- sizes by the files that are kept

read_range : (f : ℕ → ℕ) (n i : ℕ) → i < n → slice_index_or (map f (range_with_len 0 n)) i 0 ≡ f i
read_range f n i low = size_by (map f (range_with_len 0 n)) i ∙ get_or-map-range_with_len f 0 n i i 0 low (omega arith)

met_low : (g : Graph) → IsSound g → (f : ℕ) → IsMet g f → f < g.files
met_low g sound f (inl among) = All-contains (λ x. x < g.files) g.sources f sound.ends.sources_within among
met_low g sound f (inr leads) =
    let inner = inner_edge g leads.0 leads.1.0 sound leads.1.1 in
    let to = inner.to_within in
    omega (arith, to, leads.1.2)

none_kept : (g : Graph) (kept : Kept) → AreGraphKept g kept → (f : ℕ) → is_member f g.headers ≡ true → kept_at kept f ≡ None
none_kept g kept held f there = All-contains (λ x. kept_at kept x ≡ None) g.headers f held.headers (member_contains g.headers f there)

met_kept : (g : Graph) (kept : Kept) → AreGraphKept g kept → (f : ℕ) → IsMet g f → is_member f g.headers ≡ false → IsTrue (is_some (kept_at kept f))
met_kept g kept held f (inl among) other = All-contains (λ x. is_member x g.headers ≡ false → IsTrue (is_some (kept_at kept x))) g.sources f held.sources among other
met_kept g kept held f (inr leads) other =
    let e : Edge = leads.1.0 in
    let low = slice_get_within g.edges leads.0 e leads.1.1 in
    let at : get_or g.edges leads.0 e ≡ e = get_or_from_slice_get g.edges leads.0 e e leads.1.1 in
    let kept_there = subst (λ (x : Edge). is_member x.to g.headers ≡ false → IsTrue (is_some (kept_at kept x.to))) at (held.targets leads.0 e low) in
    subst (λ x. is_member x g.headers ≡ false → IsTrue (is_some (kept_at kept x))) leads.1.2 kept_there other

---- directives by the files of a listing

module _ (language : Language) (kept : Kept) (layout : Layout) (listing : Listing) (fits : Fits kept listing) where
  kind_there : (d : DirectiveId) (o : Option (List ℕ)) → kept_at kept d.file ≡ o → IsTrue (is_some o) → kept_kind language kept d ≡ kind_of language listing d
  kind_there d None is there = cc
  kind_there d (Some bytes) is there =
      let same : bytes_at listing d.file ≡ bytes = fits d.file bytes is in
      rw is (ap (λ (bs : List ℕ). kind_at language bs d.line) (sym same))

  pub kind_same : (d : DirectiveId) → IsTrue (is_some (kept_at kept d.file)) → kept_kind language kept d ≡ kind_of language listing d
  kind_same d there = kind_there d (kept_at kept d.file) refl there

  name_same : (d : DirectiveId) → IsTrue (is_some (kept_at kept d.file)) → kept_name language kept d ≡ name_of language listing d
  name_same d there = ap written (kind_same d there)

  block_same : (b : Block) → IsKept kept b → block_text (kept_name language kept) layout b ≡ block_text (name_of language listing) layout b
  block_same (Words text) there = refl
  block_same (Place d) there = ap (λ (name : List ℕ). block_text (λ x. name) layout (Place d)) (name_same d there)
  block_same (Led text d) there = ap (λ (name : List ℕ). block_text (λ x. name) layout (Led text d)) (name_same d there)

  text_same : (bs : List Block) → AreKept kept bs → document_text (kept_name language kept) layout bs ≡ document_text (name_of language listing) layout bs
  text_same [] there = refl
  text_same (b ∷ bs) there =
      ap (λ (t : List ℕ). t ++ document_text (kept_name language kept) layout bs) (block_same b (All-head (IsKept kept) b bs there))
      ∙ ap (λ (t : List ℕ). block_text (name_of language listing) layout b ++ t) (text_same bs (All-tail (IsKept kept) b bs there))

  module _ (g : Graph) (held : AreGraphKept g kept) where
    all_same : AreSame layout g (kept_kind language kept) (kind_of language listing)
    all_same = record {
      edges = λ i e low. kind_same (record { file = (get_or g.edges i e).from; line = (get_or g.edges i e).line }) (held.edges i e low);
      missing = λ i m low. kind_same (record { file = (get_or g.missing i m).file; line = (get_or g.missing i m).line }) (held.missing i m low);
      blockers = λ i b low. kind_same (record { file = (get_or g.blockers i b).file; line = (get_or g.blockers i b).line }) (held.blockers i b low);
    }

    -- the directives of which nothing can be said are the same items
    pub blocked_same : (command : List ℕ) → refusal_json command (kept_kind language kept) (Blocked layout g.blockers) ≡ refusal_json command (kind_of language listing) (Blocked layout g.blockers)
    blocked_same command =
        ap (λ (items : List (List ℕ)). refusal_object command (Blocked layout g.blockers) items)
        (items_same layout g (kept_kind language kept) (kind_of language listing) g.blockers all_same.blockers)

    -- so is the refusal by them, in any format
    refused_same : (form : NamedForm) → refused_text form (kept_kind language kept) (Blocked layout g.blockers) ≡ refused_text form (kind_of language listing) (Blocked layout g.blockers)
    refused_same form = by form.format
      where
        by : (f : Format)
            → refused_text (record form { format = f }) (kept_kind language kept) (Blocked layout g.blockers) ≡ refused_text (record form { format = f }) (kind_of language listing) (Blocked layout g.blockers)
        by Gcc = refl
        by Json = blocked_same (command_name form.asked)
        by Dot = refl

    -- with its reasons
    pub blockers_same : (form : NamedForm) (q : Question)
        → refused_for (named_reasons q.language q.undefined (sight_kept language layout kept) layout g.blockers) (refused_text form (kept_kind language kept) (Blocked layout g.blockers))
        ≡ refused_for (named_reasons q.language q.undefined (kept_sight language listing layout kept) layout g.blockers) (refused_text form (kind_of language listing) (Blocked layout g.blockers))
    blockers_same form q =
        ap₂ (λ (reasons text : List ℕ). refused_for reasons text)
        (reasons_same (sight_kept language layout kept) (kept_sight language listing layout kept) (λ name. refl) q.language q.undefined layout g.blockers all_same.blockers) (refused_same form)

    -- and so are those that are not found
    pub strays_same : (command : List ℕ) (ms : List Missing) → All (λ (m : Missing). IsTrue (is_some (kept_at kept m.file))) ms
        → refusal_json command (kept_kind language kept) (NotFound layout ms) ≡ refusal_json command (kind_of language listing) (NotFound layout ms)
    strays_same command ms there =
        ap (λ (items : List (List ℕ)). refusal_object command (NotFound layout ms) items) (each_stray ms there)
      where
        each_stray : (ms : List Missing) → All (λ (m : Missing). IsTrue (is_some (kept_at kept m.file))) ms
            → map (stray_item (kept_kind language kept) layout) ms ≡ map (stray_item (kind_of language listing) layout) ms
        each_stray [] all = refl
        each_stray (m ∷ ms) all =
            ap₂ (λ (x : List ℕ) (xs : List (List ℕ)). x ∷ xs)
            (ap (λ (k : LineKind). directive_text k m.line (path_at layout m.file) None) (kind_same (record { file = m.file; line = m.line }) (All-head (λ (x : Missing). IsTrue (is_some (kept_at kept x.file))) m ms all)))
            (each_stray ms (All-tail (λ (x : Missing). IsTrue (is_some (kept_at kept x.file))) m ms all))

    document_kept : (all costed : Bool) (most : Option ℕ) (answer : report.Answer) → AreKept kept (answer_document all costed most layout g answer)
    document_kept all costed most (Chains shortest chains) = why_kept kept g held all most layout shortest chains
    document_kept all costed most (Sources reaching chains) = who_kept kept g held all most layout reaching chains
    document_kept all costed most Edges = links_kept kept g held layout
    document_kept all costed most (Removed set chains) = cut_kept kept g held all costed most layout set chains
    document_kept all costed most (FixedChain chain) = fixed_kept kept g held layout chain

    object_same : (kind : EndKind) (all : Bool) (answer : report.Answer)
        → answer_json kind all (kept_about language kept layout g) answer ≡ answer_json kind all (about language listing layout g) answer
    object_same kind all (Chains shortest chains) = why_same layout g (kept_kind language kept) (kind_of language listing) all_same kind shortest chains
    object_same kind all (Sources reaching chains) = who_same layout g (kept_kind language kept) (kind_of language listing) all_same kind all reaching chains
    object_same kind all Edges = graph_same layout g (kept_kind language kept) (kind_of language listing) all_same
    object_same kind all (Removed set chains) = cut_same layout g (kept_kind language kept) (kind_of language listing) all_same set chains
    object_same kind all (FixedChain chain) = fixed_same layout g (kept_kind language kept) (kind_of language listing) all_same chain

    answer_same : (form : NamedForm) (costed : Bool) (amounts : List ℕ) (answer : report.Answer)
        → answer_text form costed amounts (kept_about language kept layout g) answer ≡ answer_text form costed amounts (about language listing layout g) answer
    answer_same form costed amounts answer = by form.format
      where
        by : (f : Format)
            → answer_text (record form { format = f }) costed amounts (kept_about language kept layout g) answer ≡ answer_text (record form { format = f }) costed amounts (about language listing layout g) answer
        by Gcc = text_same (answer_document form.all costed form.most layout g answer) (document_kept form.all costed form.most answer)
        by Json = object_same (end_kind form.fails answer) form.all answer
        by Dot = refl

    pub rules_same : (format : Format) (name : List ℕ) (js : List Judged)
        → rules_answer format name (kept_about language kept layout g) js ≡ rules_answer format name (about language listing layout g) js
    rules_same Gcc name js = text_same (rules_document name layout g js) (rules_kept kept g held name layout js)
    rules_same Json name js = rules_object layout g (kept_kind language kept) (kind_of language listing) all_same (rules_kind js) name js
    rules_same Dot name js = refl

    -- what weighs so much by what is kept weighs as much by the listing
    size_at : (f : ℕ) (o : Option (List ℕ)) (b : Bool) → kept_at kept f ≡ o → is_member f g.headers ≡ b → (b ≡ true → o ≡ None) → (b ≡ false → IsTrue (is_some o))
        → option_map_or (λ (bytes : List ℕ). length bytes) o 0 ≡ cond b 0 (length (bytes_at listing f))
    size_at f None true at there none some = refl
    size_at f (Some bytes) true at there none some = absurd (kept_apart (none refl))
      where
        kept_apart : Some bytes ≡ None → ⊥
        kept_apart e = cc
    size_at f None false at there none some = absurd (kept_never (some refl))
      where
        kept_never : IsTrue (is_some {T = List ℕ} None) → ⊥
        kept_never e = cc
    size_at f (Some bytes) false at there none some = ap (λ (bs : List ℕ). length bs) (sym (fits f bytes at))

    sizes_kept : layout_of listing ≡ layout → g.files ≡ length layout.paths → IsSound g → (f : ℕ) → IsMet g f
        → slice_index_or (kept_sizes kept (length layout.paths)) f 0 ≡ slice_index_or (file_sizes listing g.headers) f 0
    sizes_kept laid files sound f reached =
        let within = met_low g sound f reached in
        let here = read_range (λ x. option_map_or (λ (bytes : List ℕ). length bytes) (kept_at kept x) 0) (length layout.paths) f (omega (arith, within, files)) in
        let there = read_range (file_size listing g.headers) (length listing.files) f (omega (arith, within, files, laid_count layout listing laid)) in
        here ∙ size_at f (kept_at kept f) (is_member f g.headers) refl refl (λ member. none_kept g kept held f member) (λ other. met_kept g kept held f reached other) ∙ sym there

    cost_answers : (format : Format) (r : Ranked) → cost_answer format (kept_about language kept layout g) r ≡ cost_answer format (about language listing layout g) r
    cost_answers Gcc r = text_same (cost_document layout g r) (cost_kept kept g held layout r)
    cost_answers Json r = cost_same layout g (kept_kind language kept) (kind_of language listing) all_same r
    cost_answers Dot r = refl

    pub costs_told : layout_of listing ≡ layout → g.files ≡ length layout.paths → IsSound g → (form : NamedForm) (w : CostWords) (p : Printed)
        → IsCostReport form w (kept_sizes kept (length layout.paths)) (kept_about language kept layout g) p → IsCostReport form w (file_sizes listing g.headers) (about language listing layout g) p
    costs_told laid files sound form w p r = (
      r.0,
      ranked_same layout g (kept_sizes kept (length layout.paths)) (file_sizes listing g.headers) (sizes_kept laid files sound) w.most w.groups r.0 r.1,
      r.2 ∙ ap (answered_of (empty_notes layout g)) (cost_answers form.format r.0),
    )

    tree_answers : (format : Format) (total : ℕ) (bs : List Branch) → tree_answer format (kept_about language kept layout g) total bs ≡ tree_answer format (about language listing layout g) total bs
    tree_answers Gcc total bs = text_same (tree_document layout g total bs) (tree_kept kept g held layout total bs)
    tree_answers Json total bs = tree_same layout g (kept_kind language kept) (kind_of language listing) all_same total bs
    tree_answers Dot total bs = refl

    pub trees_told : layout_of listing ≡ layout → g.files ≡ length layout.paths → IsSound g → (form : NamedForm) (p : Printed)
        → AreTreesReported form (kept_sizes kept (length layout.paths)) (kept_about language kept layout g) p → AreTreesReported form (file_sizes listing g.headers) (about language listing layout g) p
    trees_told laid files sound form p r =
        let old : List ℕ = kept_sizes kept (length layout.paths) in
        let new : List ℕ = file_sizes listing g.headers in
        let same = sizes_kept laid files sound in (
          r.0,
          total_same g old new same [] r.0 r.1,
          r.2 ∙ ap (answered_of (empty_notes layout g))
              (ap (tree_answer form.format (kept_about language kept layout g) r.0) (forest_same g old new sound same) ∙ tree_answers form.format r.0 (tree_branches new g)),
        )

    pub rules_told : (form : NamedForm) (l : RuleList) (p : Printed) → IsRuleReport form l (kept_about language kept layout g) p
        → IsRuleReport form l (about language listing layout g) p
    rules_told form l p r = (r.0, r.1, r.2 ∙ ap (λ (text : List ℕ). printed_as text (end_of [] (rules_kind r.0))) (rules_same form.format l.name r.0))

    -- what is printed by what is kept is printed of the listing
    pub report_same : (whole : Bool) (asked : Asked) (form : NamedForm) (costed : Bool) (amounts : List ℕ) (p : Printed) → IsReport whole asked form costed (kept_about language kept layout g) amounts p
        → IsReportOf whole asked form costed language listing layout g amounts p
    report_same whole asked form costed amounts p r =
        (r.0, r.1, r.2 ∙ ap (λ (text : List ℕ). printed_as text (end_of (notes_of whole layout g r.0) (end_kind form.fails r.0))) (answer_same form costed amounts r.0))

---- formats

pub negative_refused : Negative ≡ Refused → ⊥
negative_refused same = cc

pub answered_refused : Answered ≡ Refused → ⊥
answered_refused same = cc

-- an answer stays
answer_format : (form : NamedForm) (q : Question) (layout : Layout) (sight : Sight) (p : Printed) → p.end.kind ≢ Refused → IsInFormat form q layout sight p p
answer_format form q layout sight p stated = inr (stated, refl)

-- what is no refusal is what would be printed as text
plain_format : (form : NamedForm) (q : Question) (layout : Layout) (sight : Sight) (plain p : Printed) → p.end.kind ≢ Refused → IsInFormat form q layout sight plain p → p ≡ plain
plain_format form q layout sight plain p stated is =
    elim is [ inl r ↦ absurd (stated (ap (λ (x : Printed). x.end.kind) r.4)) | inr same ↦ same.1 ]

-- of sights that see the same it is the same
module _ (form : NamedForm) (q : Question) (kind : DirectiveId → LineKind) (a b : (name : List ℕ) → Option DirectiveId) (same : (name : List ℕ) → a name ≡ b name) where
  abbrev by_a : Sight
  by_a = record { kind = kind; definition = a }

  abbrev by_b : Sight
  by_b = record { kind = kind; definition = b }

  reason_same : (reason : List ℕ) (r : Refusal) → reason_in q by_a reason r ≡ reason_in q by_b reason r
  reason_same reason (Blocked layout bs) = reasons_same by_a by_b same q.language q.undefined layout bs (λ k d low. refl)
  reason_same reason _ = refl

  pub format_same : (layout : Layout) (plain p : Printed) → IsInFormat form q layout by_a plain p → IsInFormat form q layout by_b plain p
  format_same layout plain p (inl r) = inl (r.0, r.1, r.2, r.3, r.4 ∙ ap (λ (x : List ℕ). refused_for x (refused_text form kind r.1)) (reason_same r.0 r.1))
  format_same layout plain p (inr stated) = inr stated

-- a format of texts
pub no_object : (f : Format) → (f ≡ Gcc) ⊎ (f ≡ Dot) → f ≢ Json
no_object Gcc is same = cc
no_object Dot is same = cc
no_object Json (inl other) same = cc
no_object Json (inr other) same = cc

-- a refusal as a text
pub as_text : (form : NamedForm) (kind : DirectiveId → LineKind) (r : Refusal) → form.format ≢ Json → refused_text form kind r ≡ refusal_text r
as_text form kind r other = by form.format other
  where
    by : (f : Format) → f ≢ Json → refused_text (record form { format = f }) kind r ≡ refusal_text r
    by Gcc other = refl
    by Json other = absurd (other refl)
    by Dot other = refl

-- and as an object
pub as_object : (form : NamedForm) (kind : DirectiveId → LineKind) (r : Refusal) → form.format ≡ Json → refused_text form kind r ≡ refusal_json (command_name form.asked) kind r
as_object form kind r is = by form.format is
  where
    by : (f : Format) → f ≡ Json → refused_text (record form { format = f }) kind r ≡ refusal_json (command_name form.asked) kind r
    by Gcc same = cc
    by Json same = refl
    by Dot same = cc

-- the object of a refusal that names directives by marks
pub object_of_marks : (command : List ℕ) (kind : DirectiveId → LineKind) (r : declared.Refusal) → refusal_object command (seen_refusal r) (mark_items (seen_refusal r)) ≡ refusal_json command kind (seen_refusal r)
object_of_marks command kind refused.NoSuchSource = refl
object_of_marks command kind refused.NoSuchHeader = refl
object_of_marks command kind (refused.BadFile path line) = refl
object_of_marks command kind refused.TooManyDirectives = refl
object_of_marks command kind (refused.NoSuchDirective path line) = refl
object_of_marks command kind (refused.Malformed line) = refl
object_of_marks command kind (refused.BadDefinition index fault) = refl
object_of_marks command kind refused.TooLong = refl
object_of_marks command kind (refused.NoSuchCost path line) = refl
object_of_marks command kind (refused.CostTwice path line) = refl

-- a refusal that names no directives of the layout
own_seen : (layout : Layout) (r : declared.Refusal) → IsOfLayout layout (seen_refusal r)
own_seen layout refused.NoSuchSource = tt
own_seen layout refused.NoSuchHeader = tt
own_seen layout (refused.BadFile path line) = tt
own_seen layout refused.TooManyDirectives = tt
own_seen layout (refused.NoSuchDirective path line) = tt
own_seen layout (refused.Malformed line) = tt
own_seen layout (refused.BadDefinition index fault) = tt
own_seen layout refused.TooLong = tt
own_seen layout (refused.NoSuchCost path line) = tt
own_seen layout (refused.CostTwice path line) = tt

-- has one reason in all formats
reason_seen : (q : Question) (sight : Sight) (reason : List ℕ) (r : declared.Refusal) → reason ≡ reason_in q sight reason (seen_refusal r)
reason_seen q sight reason refused.NoSuchSource = refl
reason_seen q sight reason refused.NoSuchHeader = refl
reason_seen q sight reason (refused.BadFile path line) = refl
reason_seen q sight reason refused.TooManyDirectives = refl
reason_seen q sight reason (refused.NoSuchDirective path line) = refl
reason_seen q sight reason (refused.Malformed line) = refl
reason_seen q sight reason (refused.BadDefinition index fault) = refl
reason_seen q sight reason refused.TooLong = refl
reason_seen q sight reason (refused.NoSuchCost path line) = refl
reason_seen q sight reason (refused.CostTwice path line) = refl

-- and is printed in each
module _ (form : NamedForm) (reason : List ℕ) (r : declared.Refusal) (p : Printed) where
  seen_in : ((kind : DirectiveId → LineKind) → p ≡ refused_for reason (refused_text form kind (seen_refusal r))) → IsInAnyFormat form (refusal_for reason (seen_refusal r)) p
  seen_in is q layout sight =
      inl (
        reason,
        seen_refusal r,
        own_seen layout r,
        refl,
        is sight.kind ∙ ap (λ (x : List ℕ). refused_for x (refused_text form sight.kind (seen_refusal r))) (reason_seen q sight reason r),
      )

  pub seen_text : form.format ≢ Json → p ≡ refusal_for reason (seen_refusal r) → IsInAnyFormat form (refusal_for reason (seen_refusal r)) p
  seen_text format is = seen_in (λ kind. is ∙ ap (refused_for reason) (sym (as_text form kind (seen_refusal r) format)))

  pub seen_object : form.format ≡ Json → p ≡ refused_for reason (refusal_object (command_name form.asked) (seen_refusal r) (mark_items (seen_refusal r)))
      → IsInAnyFormat form (refusal_for reason (seen_refusal r)) p
  seen_object format is =
      seen_in (λ kind. is ∙ ap (refused_for reason) (object_of_marks (command_name form.asked) kind r ∙ sym (as_object form kind (seen_refusal r) format)))

-- the refusal by blockers, as it is made of names of directives
module _ (form : NamedForm) (q : Question) (s : Subject) where
  pub blocked_made : (names : NameSource) (bs : List Blocker) (reasons text : List ℕ) → names ≡ record { kept = s.files.now; language = s.language } → s.graph.now.blockers ≡ bs
      → reasons ≡ named_reasons q.language q.undefined (sight_kept names.language s.project.now names.kept) s.project.now bs → text ≡ refused_text form (kept_kind s.language s.files.now) (Blocked s.project.now bs)
      → refused_for reasons text ≡ blocked_as form q s
  blocked_made names bs reasons text same are by_names is =
      ap₂ (λ (r t : List ℕ). refused_for r t)
      (by_names ∙ ap (λ (n : NameSource). named_reasons q.language q.undefined (sight_kept n.language s.project.now n.kept) s.project.now bs) same
      ∙ ap (λ (l : List Blocker). named_reasons q.language q.undefined (sight_kept s.language s.project.now s.files.now) s.project.now l) (sym are))
      (is ∙ ap (λ (l : List Blocker). refused_text form (kept_kind s.language s.files.now) (Blocked s.project.now l)) (sym are))

---- what hinders a cut

module _ (form : NamedForm) (q : Question) (l : Limits) (s : Subject) (held : AreGraphKept s.graph.now s.files.now) (p : Printed) where
  by_blockers : (ds : List DirectiveId) (bs : List Blocker) (fault : Option (List ℕ × Refusal)) → bs ≢ [] → Unhindered s.project.now ds bs fault (λ r. ⊥) (blocked s.project.now ds bs)
  by_blockers ds [] fault some = absurd (some refl)
  by_blockers ds (b ∷ bs) fault some = refl

  -- by blockers
  pub by_all : s.graph.now.blockers ≢ [] → p ≡ blocked_as form q s → IsHinderedKept form q l s p
  by_all some is = (
    blocked s.project.now s.graph.now.definitions s.graph.now.blockers,
    by_blockers s.graph.now.definitions s.graph.now.blockers (marks_refusal s.project.now s.graph.now l.fixed l.costs) some,
    λ listing laid fits. inl (
      blocked_reasons s.project.now s.graph.now.definitions s.graph.now.blockers,
      Blocked s.project.now s.graph.now.blockers,
      refl,
      refl,
      is ∙ blockers_same s.language s.files.now s.project.now listing fits s.graph.now held form q,
    ),
  )

  -- by a mark or a cost
  pub by_mark : (fault : FixedFault) (reason : List ℕ) (r : declared.Refusal) → s.graph.now.blockers ≡ [] → marks_fault s.project.now s.graph.now l.fixed l.costs ≡ Some fault
      → Some (seen_refusal r) ≡ refusal_of_fault l.fixed l.costs fault → reason ≡ marks_reason s.project.now s.graph.now l.fixed l.costs fault
      → IsInAnyFormat form (refusal_for reason (seen_refusal r)) p → IsHinderedKept form q l s p
  by_mark fault reason r none named seen why is = (
    refusal_for reason (seen_refusal r),
    by_reason s.project.now s.graph.now.definitions s.graph.now.blockers (marks_refusal s.project.now s.graph.now l.fixed l.costs) (λ x. ⊥) reason (seen_refusal r) none
        (reasoned_is s.project.now s.graph.now l.fixed l.costs fault reason (seen_refusal r) named seen why),
    λ listing laid fits. is q s.project.now (kept_sight s.language listing s.project.now s.files.now),
  )

---- the answer of a graph

module _ (form : NamedForm) (q : Question) (d : Details) (s : Subject) (held : AreGraphKept s.graph.now s.files.now) (p : Printed) where
  abbrev own : Layout
  own = s.project.now

  stated_reached : (fails : Bool) → p.end.kind ≡ reached_kind fails → p.end.kind ≢ Refused
  stated_reached true is same = cc
  stated_reached false is same = cc

  stated : (answer : report.Answer) → p.end.kind ≡ end_kind form.fails answer → p.end.kind ≢ Refused
  stated (Chains None chains) is same = cc
  stated (Chains (Some chain) chains) is same = stated_reached form.fails is same
  stated (Sources [] chains) is same = cc
  stated (Sources (r ∷ rs) chains) is same = stated_reached form.fails is same
  stated Edges is same = cc
  stated (Removed set chains) is same = cc
  stated (FixedChain chain) is same = cc

  abbrev Then : Asked → Listing → Type 0
  Then asked listing = IsNamedAs (is_whole q) asked form d s.language listing own s.graph.now p

  kept_as : (asked : Asked) (costed : Bool) (amounts : List ℕ) → form.asked ≡ asked → IsReport (is_whole q) asked form costed (about_subject s) amounts p
      → ((listing : Listing) → IsReportOf (is_whole q) asked form costed s.language listing own s.graph.now amounts p → Then asked listing) → IsNamedKept form q d s p
  kept_as asked costed amounts is r step = (
    p,
    λ listing laid fits. (
      subst (λ (a : Asked). Then a listing) (sym is) (step listing (report_same s.language s.files.now own listing fits s.graph.now held (is_whole q) asked form costed amounts p r)),
      answer_format form q own (kept_sight s.language listing own s.files.now) p (stated r.0 (ap (λ (x : Printed). x.end.kind) r.2)),
    ),
  )

  pub why_report : form.asked ≡ ask.Why → IsReport (is_whole q) ask.Why form false (about_subject s) [] p → IsNamedKept form q d s p
  why_report is r = kept_as ask.Why false [] is r (λ listing h. h)

  pub who_report : form.asked ≡ ask.Who → IsReport (is_whole q) ask.Who form false (about_subject s) [] p → IsNamedKept form q d s p
  who_report is r = kept_as ask.Who false [] is r (λ listing h. h)

  pub graph_report : form.asked ≡ ask.Graph → IsReport (is_whole q) ask.Graph form false (about_subject s) [] p → IsNamedKept form q d s p
  graph_report is r = kept_as ask.Graph false [] is r (λ listing h. h)

  stated_rules : (js : List Judged) (b : Bool) → list_any is_broken js ≡ b → p.end.kind ≡ rules_kind js → p.end.kind ≢ Refused
  stated_rules js true some is same = absurd (negative_refused (sym (is ∙ ap (λ (x : Bool). cond x Negative Answered) some) ∙ same))
  stated_rules js false none is same = absurd (answered_refused (sym (is ∙ ap (λ (x : Bool). cond x Negative Answered) none) ∙ same))

  pub rule_report : form.asked ≡ ask.Rules → IsRuleReport form d.rules (about_subject s) p → IsNamedKept form q d s p
  rule_report is r = (
    p,
    λ listing laid fits. (
      subst (λ (a : Asked). Then a listing) (sym is) (rules_told s.language s.files.now own listing fits s.graph.now held form d.rules p r),
      answer_format form q own (kept_sight s.language listing own s.files.now) p (stated_rules r.0 (list_any is_broken r.0) refl (ap (λ (x : Printed). x.end.kind) r.2)),
    ),
  )

  pub cost_report : form.asked ≡ ask.Cost → s.graph.now.files ≡ length own.paths → IsSound s.graph.now → IsCostReport form d.costs (kept_sizes s.files.now (length own.paths)) (about_subject s) p
      → IsNamedKept form q d s p
  cost_report is files sound r = (
    p,
    λ listing laid fits. (
      subst (λ (a : Asked). Then a listing) (sym is) (costs_told s.language s.files.now own listing fits s.graph.now held laid files sound form d.costs p r),
      answer_format form q own (kept_sight s.language listing own s.files.now) p (λ same. answered_refused (sym (ap (λ (x : Printed). x.end.kind) r.2) ∙ same)),
    ),
  )

  pub tree_report : form.asked ≡ ask.Tree → s.graph.now.files ≡ length own.paths → IsSound s.graph.now → AreTreesReported form (kept_sizes s.files.now (length own.paths)) (about_subject s) p
      → IsNamedKept form q d s p
  tree_report is files sound r = (
    p,
    λ listing laid fits. (
      subst (λ (a : Asked). Then a listing) (sym is) (trees_told s.language s.files.now own listing fits s.graph.now held laid files sound form p r),
      answer_format form q own (kept_sight s.language listing own s.files.now) p (λ same. answered_refused (sym (ap (λ (x : Printed). x.end.kind) r.2) ∙ same)),
    ),
  )

  pub cut_report : (costed : Bool) (amounts : List ℕ) → form.asked ≡ ask.Cut → costed ≡ has_costs d.limits.costs → s.graph.now.blockers ≡ [] → marks_fault own s.graph.now d.limits.fixed d.limits.costs ≡ None
      → amounts ≡ amounts_by own s.graph.now d.limits.kept d.limits.fixed d.limits.costs → IsReport (is_whole q) ask.Cut form costed (about_subject s) amounts p → IsNamedKept form q d s p
  cut_report costed amounts is same none named fixed r =
      kept_as ask.Cut costed amounts is r
      (λ listing h. unhindered (IsReportOf (is_whole q) ask.Cut form (has_costs d.limits.costs) s.language listing) own s.graph.now d.limits amounts p none named fixed
      (subst (λ (b : Bool). IsReportOf (is_whole q) ask.Cut form b s.language listing own s.graph.now amounts p) same h))

  -- what hinders it
  abbrev Hindered : Printed → Type 0
  Hindered x = Unhindered own s.graph.now.definitions s.graph.now.blockers (marks_refusal own s.graph.now d.limits.fixed d.limits.costs) (λ r. ⊥) x

  hindered_as : (listing : Listing) (plain : Printed) → form.asked ≡ ask.Cut → Hindered plain → IsNamedOf (is_whole q) form d s.language listing own s.graph.now plain
  hindered_as listing plain is h =
      subst (λ (a : Asked). IsNamedAs (is_whole q) a form d s.language listing own s.graph.now plain) (sym is)
      (unhindered_all own s.graph.now.definitions s.graph.now.blockers (marks_refusal own s.graph.now d.limits.fixed d.limits.costs) (λ r. ⊥)
      (IsReportOf (is_whole q) ask.Cut form (has_costs d.limits.costs) s.language listing own s.graph.now (amounts_by own s.graph.now d.limits.kept d.limits.fixed d.limits.costs)) plain (λ none. absurd none) h)

  pub hindered : form.asked ≡ ask.Cut → IsHinderedKept form q d.limits s p → IsNamedKept form q d s p
  hindered is h = (h.0, λ listing laid fits. (hindered_as listing h.0 is h.1, h.2 listing laid fits))

  ---- directives whose header is not found

  abbrev strays : List Missing
  strays = asked_strays_of form.asked q s.graph.now

  -- the answer, where all of them are excepted
  pub strict_none : strays ≡ [] → IsNamedKept form q d s p → IsStrictKept form q d s p
  strict_none none is = (
    is.0,
    λ listing laid fits. (
      unless_none own strays (IsNamedOf (is_whole q) form d s.language listing own s.graph.now) is.0 none (is.1 listing laid fits).0,
      (is.1 listing laid fits).1,
    ),
  )

  -- their refusal
  strict_as : strays ≢ []
      → ((listing : Listing) → Fits s.files.now listing → p ≡ refused_for (stray_reasons own strays) (refused_text form (kind_of s.language listing) (NotFound own strays))) → IsStrictKept form q d s p
  strict_as some is = (
    not_found own strays,
    λ listing laid fits. (
      unless_some own strays (IsNamedOf (is_whole q) form d s.language listing own s.graph.now) (not_found own strays) some refl,
      inl (stray_reasons own strays, NotFound own strays, refl, refl, is listing fits),
    ),
  )

  -- as text
  pub strict_text : strays ≢ [] → form.format ≢ Json → p ≡ not_found own strays → IsStrictKept form q d s p
  strict_text some format is =
      strict_as some (λ listing fits. is ∙ ap (refused_for (stray_reasons own strays)) (sym (as_text form (kind_of s.language listing) (NotFound own strays) format)))

  -- and as an object
  pub strict_object : strays ≢ [] → form.format ≡ Json
      → p ≡ refused_for (stray_reasons own strays) (refusal_json (command_name form.asked) (kept_kind s.language s.files.now) (NotFound own strays)) → IsStrictKept form q d s p
  strict_object some format is =
      strict_as some
      (λ listing fits. is ∙ ap (refused_for (stray_reasons own strays))
      (strays_same s.language s.files.now own listing fits s.graph.now held (command_name form.asked) strays
      (strays_all (λ (m : Missing). IsTrue (is_some (kept_at s.files.now m.file))) form.asked q s.graph.now held.missing)
      ∙ sym (as_object form (kind_of s.language listing) (NotFound own strays) format)))

---- the files of a graph

module _ {S : Type 0} (gives : S → ℕ → Result (List ℕ) ReadFault → S → Type 0) (old new : KeptSources S) (layout : Layout) (q : Question) (graph : Graph) (known : IsKnown layout graph) (n : ℕ)
    (none : old.files ≡ replicate n None) (long : n ≡ length layout.paths) (holds : HoldsOfGiven (keeps gives) old new layout (IsAnswerBy (λ l g r. g ≡ graph) q (answered []))) where
  unread_all : (given : List Given) (file : ℕ) → list_any (λ (g : Given). g.file == file) given ≡ false → All (λ (g : Given). g.file ≢ file) given
  unread_all [] file no_file = All-nil (λ (g : Given). g.file ≢ file)
  unread_all (g ∷ gs) file no_file =
      let parts = or_parts (g.file == file) (list_any (λ (x : Given). x.file == file) gs) no_file in
      All-cons (λ (x : Given). x.file ≢ file) g gs (eqb-false g.file file parts.0) (unread_all gs file parts.1)

  -- no graph of these files has the file where it is empty
  abbrev IsNeeded : ℕ → Type 0
  IsNeeded file = (listing : Listing) (sources : List Source) (headers : List ℕ) → IsGraphAnswer (setting_in (layout_of listing) q) listing sources headers (Ok graph) → bytes_at listing file ≡ [] → ⊥

  unread_never : (file : ℕ) → IsNeeded file → file < length layout.paths → list_any (λ (g : Given). g.file == file) holds.given ≡ false → ⊥
  unread_never file needed within unread =
      let listing : Listing = with_bytes holds.witness file [] in
      let laid = laid_with layout holds.witness file [] holds.laid_out in
      let short : file < length holds.witness.files = omega (arith, within, laid_count layout holds.witness holds.laid_out) in
      let one : Given = record { file = file; bytes = [] } in
      let agrees = agrees_more holds.witness holds.given file [] short (unread_all holds.given file unread) holds.agrees in
      let empty : bytes_at listing file ≡ [] = All-head (λ (g : Given). bytes_at listing g.file ≡ g.bytes) one holds.given agrees in
      let rest : Agrees holds.given listing = All-tail (λ (g : Given). bytes_at listing g.file ≡ g.bytes) one holds.given agrees in
      let is = holds.every listing laid rest in
      let told = told_of (λ l g r. g ≡ graph) q listing (answered []) (stated_yes (answered []) refl) is.0 in
      needed listing told.sources told.headers
      (subst (λ (g : Graph). IsGraphAnswer (setting_in (layout_of listing) q) listing told.sources told.headers (Ok g)) told.told told.graph_is) empty

  kept_when : (b : Bool) (file : ℕ) → IsNeeded file → file < length layout.paths → list_any (λ (g : Given). g.file == file) holds.given ≡ b → IsTrue (is_some (kept_at new.files file))
  kept_when true file needed within is =
      let nothing : Option (List ℕ) = None in
      let low : file < length old.files = omega (arith, within, long, ap (λ (l : List (Option (List ℕ))). length l) none, length-replicate n nothing) in
      kept_given gives old new holds.given file holds.gave low is
  kept_when false file needed within is = absurd (unread_never file needed within is)

  -- a source, or a file to which an edge leads
  kept_met : (f : ℕ) → IsMet graph f → is_member f graph.headers ≡ false → IsTrue (is_some (kept_at new.files f))
  kept_met f reached other = by (list_any (λ (g : Given). g.file == f) holds.given) refl
    where
      by : (b : Bool) → list_any (λ (g : Given). g.file == f) holds.given ≡ b → IsTrue (is_some (kept_at new.files f))
      by true read =
          let nothing : Option (List ℕ) = None in
          let within : f < length layout.paths = met.met_within (keeps gives) old new layout q graph (answered []) known holds f reached in
          let low : f < length old.files = omega (arith, within, long, ap (λ (l : List (Option (List ℕ))). length l) none, length-replicate n nothing) in
          kept_given gives old new holds.given f holds.gave low read
      by false unread = absurd (met.unread_never (keeps gives) old new layout q graph (answered []) known holds (stated_yes (answered []) refl) f reached other unread)

  -- a header
  unkept : (f : ℕ) → is_member f graph.headers ≡ true → kept_at new.files f ≡ None
  unkept f there =
      kept_ungiven gives old new holds.given f holds.gave
      (met.header_unread (keeps gives) old new layout q graph (answered []) known holds (stated_yes (answered []) refl) holds.witness holds.laid_out holds.agrees f there)
      ∙ ap (λ (k : Kept). kept_at k f) none ∙ kept_none n f

  pub graph_kept : AreGraphKept graph new.files
  graph_kept = record {
    edges = all_kept gives old new layout q graph known n none long holds;
    missing = λ k d low.
        (let m : Missing = get_or graph.missing k d in
        kept_when (list_any (λ (g : Given). g.file == m.file) holds.given) m.file
        (λ listing sources headers is empty. missing_in_text (setting_in (layout_of listing) q) listing sources headers graph is m (k, low, get_or_default graph.missing k (get_or graph.missing k d) d low) empty)
        (subst (λ (x : ℕ). m.file < x) known.files (known.sound.missing_within k d low)) refl);
    blockers = λ k d low.
        (let b : Blocker = get_or graph.blockers k d in
        kept_when (list_any (λ (g : Given). g.file == b.file) holds.given) b.file
        (λ listing sources headers is empty. blocker_in_text (setting_in (layout_of listing) q) listing sources headers graph is b (k, low, get_or_default graph.blockers k (get_or graph.blockers k d) d low) empty)
        (subst (λ (x : ℕ). b.file < x) known.files (known.sound.blockers_within k d low)) refl);
    sources = λ k d low other.
        kept_met (get_or graph.sources k d) (inl (k, low, get_or_default graph.sources k (get_or graph.sources k d) d low)) other;
    targets = λ k d low other. kept_met (get_or graph.edges k d).to (inr (k, (get_or graph.edges k d, slice_get-get_or graph.edges k d low, refl))) other;
    headers = λ k d low. unkept (get_or graph.headers k d) (contains_member graph.headers (get_or graph.headers k d) (k, low, get_or_default graph.headers k (get_or graph.headers k d) d low));
  }

---- what is printed of a question

module _ {S : Type 0} (gives : S → ℕ → Result (List ℕ) ReadFault → S → Type 0) (old new : KeptSources S) (layout : Layout) (form : NamedForm) (q : Question) (d : Details) (p : Printed) where
  pub named_given : (plain : Printed) (graph : Graph) → old.files ≡ replicate (length layout.paths) None
      → OfKept new.files layout (λ listing. IsStrictOf form q d q.language listing layout graph plain × IsInFormat form q layout (kept_sight q.language listing layout new.files) plain p)
      → HoldsOfGiven (keeps gives) old new layout (IsAnswerBy (λ k g r. g ≡ graph) q plain)
      → HoldsOfGiven gives old.sources new.sources layout (IsNamedBy form q d p)
  named_given plain graph none told holds =
      holds_inner gives old new layout (IsAnswerBy (λ k g r. g ≡ graph) q plain) (IsNamedBy form q d p) holds
      (λ given listing gave laid agrees is.
      (let fits : Fits new.files listing = fits_given gives old new given listing gave agrees (fits_unread old.files (length layout.paths) listing none) in
      let here = told listing laid fits in (
        plain,
        (
          answer_all (λ k g r. g ≡ graph) (IsStrictOf form q d q.language listing) q listing plain
              (λ g same. subst (λ (k : Layout). IsStrictOf form q d q.language listing k g plain) (sym laid) (subst (λ (h : Graph). IsStrictOf form q d q.language listing layout h plain) (sym same) here.0)) is.0,
          is.1,
        ),
        subst (λ (k : Layout). IsInFormat form q k (given_sight q.language listing k given) plain p) (sym laid)
            (format_same form q (kind_of q.language listing) (kept_place q.language new.files (length layout.paths)) (given_place q.language given (length layout.paths))
            (place_same q.language (kept_at new.files) (given_bytes given) (length layout.paths) (λ file low. kept_is_given gives old new given (length layout.paths) file gave none low)) layout plain p here.1),
      )))

  pub named_refused : (plain : Printed) → IsInAnyFormat form plain p → HoldsOfGiven (keeps gives) old new layout (IsAnswerBy (λ k g r. ⊥) q plain)
      → HoldsOfGiven gives old.sources new.sources layout (IsNamedBy form q d p)
  named_refused plain format holds =
      holds_inner gives old new layout (IsAnswerBy (λ k g r. ⊥) q plain) (IsNamedBy form q d p) holds
      (λ given listing gave laid agrees is. (
        plain,
        (answer_all (λ k g r. ⊥) (IsStrictOf form q d q.language listing) q listing plain (λ g none. absurd none) is.0, is.1),
        format q (layout_of listing) (given_sight q.language listing (layout_of listing) given),
      ))

---- what it promises

module _ (form : NamedForm) (q : Question) (d : Details) (p : Printed) (given : List Given) (listing : Listing) where
  abbrev layout : Layout
  layout = layout_of listing

  abbrev as_cut : NamedForm
  as_cut = record form { asked = ask.Cut }

  abbrev AsCut : Answer
  AsCut = Strict (open_strays_of q) (IsNamedAs (is_whole q) ask.Cut as_cut d q.language listing)

  abbrev graph_told : {plain : Printed} → (t : IsTold AsCut q listing plain) → HasGraph q listing
  graph_told t = record { sources = t.sources; headers = t.headers; sources_are = t.sources_are; headers_are = t.headers_are; graph = t.graph; graph_is = t.graph_is }

  module _ (plain : Printed) (same : p ≡ plain) (t : IsTold AsCut q listing plain) where
    abbrev amounts : List ℕ
    amounts = amounts_by layout t.graph d.limits.kept d.limits.fixed d.limits.costs

    abbrev IsPrinted : report.Answer → Type 0
    IsPrinted answer = plain ≡ printed_answer (is_whole q) as_cut (has_costs d.limits.costs) amounts (about q.language listing layout t.graph) answer

    keeps_out : (answer : report.Answer) → p.end.kind ≡ Answered → t.graph.blockers ≡ [] → IsAnswerOf ask.Cut t.graph amounts answer → IsPrinted answer
        → NamedKeepsHeadersOut as_cut q d.limits listing p.text
    keeps_out (Removed set chains) end none cut is = record {
      of = graph_told t;
      set = set;
      chains = chains;
      printed = ap (λ (r : Printed). r.text) (same ∙ is);
      kept_out = of_names_once q.others listing q.language q.undefined t.sources t.headers (directives_of t.graph set ++ named_directives layout q.without)
          (answered_cut_keeps_headers_out (setting_in layout q) listing t.sources t.headers t.graph t.graph_is none (fixed_by amounts) set cut.nearest.cheapest.separates);
      cheapest = cut;
    }
    keeps_out (FixedChain chain) end none fixed is = absurd (ends_apart p Answered Negative end (ap (λ (r : Printed). r.end.kind) (same ∙ is)) answered_negative)
    keeps_out (Chains shortest chains) end none never is = absurd never
    keeps_out (Sources reaching chains) end none never is = absurd never
    keeps_out Edges end none never is = absurd never

    is_fixed : (answer : report.Answer) → p.end.kind ≡ Negative → IsAnswerOf ask.Cut t.graph amounts answer → IsPrinted answer → NamedIsFixed as_cut q d.limits listing p.text
    is_fixed (FixedChain chain) end fixed is = record { of = graph_told t; chain = chain; is_fixed = fixed; printed = ap (λ (r : Printed). r.text) (same ∙ is) }
    is_fixed (Removed set chains) end cut is = absurd (ends_apart p Answered Negative (ap (λ (r : Printed). r.end.kind) (same ∙ is)) end answered_negative)
    is_fixed (Chains shortest chains) end never is = absurd never
    is_fixed (Sources reaching chains) end never is = absurd never
    is_fixed Edges end never is = absurd never

  cut_headline : IsNamedBy as_cut q d p given listing → NamedCutHeadline as_cut q d.limits p listing
  cut_headline is = record { cut = λ end. answered_of end; none = λ end. negative_of end }
    where
      kind_is : (kind : EndKind) → p.end.kind ≡ kind → kind ≢ Refused → p ≡ is.0
      kind_is kind end other = plain_format as_cut q layout (given_sight q.language listing layout given) is.0 p (λ refused. other (sym end ∙ refused)) is.2

      answered_of : p.end.kind ≡ Answered → NamedKeepsHeadersOut as_cut q d.limits listing p.text
      answered_of end =
          let same : p ≡ is.0 = kind_is Answered end (λ k. cc) in
          let at : is.0.end.kind ≡ Answered = sym (ap (λ (r : Printed). r.end.kind) same) ∙ end in
          let t = told_of AsCut q listing is.0 (stated_yes is.0 at) is.1.0 in
          let u = unhindered_told layout t.graph.definitions t.graph.blockers (marks_refusal layout t.graph d.limits.fixed d.limits.costs)
          (IsReportOf (is_whole q) ask.Cut as_cut (has_costs d.limits.costs) q.language listing layout t.graph (amounts_by layout t.graph d.limits.kept d.limits.fixed d.limits.costs)) is.0 (stated_yes is.0 at)
          (unless_told layout (open_strays_of q t.graph) (IsNamedAs (is_whole q) ask.Cut as_cut d q.language listing layout t.graph) is.0 (stated_yes is.0 at) t.told) in
          keeps_out is.0 same t u.1.0 end u.0 u.1.1 u.1.2

      negative_of : p.end.kind ≡ Negative → NamedIsFixed as_cut q d.limits listing p.text
      negative_of end =
          let same : p ≡ is.0 = kind_is Negative end (λ k. cc) in
          let at : is.0.end.kind ≡ Negative = sym (ap (λ (r : Printed). r.end.kind) same) ∙ end in
          let t = told_of AsCut q listing is.0 (stated_no is.0 at) is.1.0 in
          let u = unhindered_told layout t.graph.definitions t.graph.blockers (marks_refusal layout t.graph d.limits.fixed d.limits.costs)
          (IsReportOf (is_whole q) ask.Cut as_cut (has_costs d.limits.costs) q.language listing layout t.graph (amounts_by layout t.graph d.limits.kept d.limits.fixed d.limits.costs)) is.0 (stated_no is.0 at)
          (unless_told layout (open_strays_of q t.graph) (IsNamedAs (is_whole q) ask.Cut as_cut d q.language listing layout t.graph) is.0 (stated_no is.0 at) t.told) in
          is_fixed is.0 same t u.1.0 end u.1.1 u.1.2

module _ (form : NamedForm) (q : Question) (d : Details) (p : Printed) (given : List Given) (listing : Listing) where
  abbrev as_rules : NamedForm
  as_rules = record form { asked = ask.Rules }

  -- what rules promise that are printed so
  rules_promise : IsNamedBy as_rules q d p given listing → NamedRulesHeadline as_rules q d.rules p listing
  rules_promise is none other =
      let own : Layout = layout_of listing in
      let same : p ≡ is.0 = plain_format as_rules q own (given_sight q.language listing own given) is.0 p other is.2 in
      let stated = stated_other is.0 (subst (λ (x : Printed). x.end.kind ≢ Refused) same other) in
      let t = told_of (IsStrictOf as_rules q d q.language listing) q listing is.0 stated is.1.0 in
      let told = unless_told own (asked_strays_of ask.Rules q t.graph) (IsNamedAs (is_whole q) ask.Rules as_rules d q.language listing own t.graph) is.0 stated t.told in
      rules_promised q d.rules.rules listing (λ g js. p.text ≡ rules_answer form.format d.rules.name (about q.language listing own g) js) (IsStrictOf as_rules q d q.language listing) is.0 t none
      told.0 told.1 (ap (λ (x : Printed). x.text) (same ∙ told.2))

pub named_headline : (form : NamedForm) (q : Question) (d : Details) (p : Printed) (given : List Given) (listing : Listing) → IsNamedBy form q d p given listing → NamedHeadline form q d p listing
named_headline form q d p given listing is = by form.asked is
  where
    by : (a : Asked) → IsNamedBy (record form { asked = a }) q d p given listing → NamedHeadline (record form { asked = a }) q d p listing
    by ask.Why given' = tt
    by ask.Who given' = tt
    by ask.Graph given' = tt
    by ask.Cut given' = cut_headline form q d p given listing given'
    by ask.Rules given' = rules_promise form q d p given listing given'
    by ask.Cost given' = tt
    by ask.Tree given' = tt
