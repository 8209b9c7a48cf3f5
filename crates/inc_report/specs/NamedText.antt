-- The answers in which directives stand as they are written, and how these are written: as lines, as an object of JSON, or as
-- a graph to draw.
use Rattle.std.specs.Prelude.{◌≡◌, ◌≢◌, ◌⊎◌, ℕ, Bool, true, false, List, [], ◌++◌, Option, Some, None, codes, flat_map, length}
use Rattle.std.specs.List.{concat}
use Rattle.inc_text.specs.declared.languages.Language.{Language}
use Rattle.inc_lookup.specs.declared.projects.DirectiveId.{DirectiveId}
use Rattle.inc_lookup.specs.Given.{Given}
use Rattle.inc_lookup.specs.Projects.{Layout, Listing, layout_of}
use Rattle.inc_directive.specs.LineKinds.{LineKind}
use Rattle.inc_cost.specs.Costs.{IsTotal}
use Rattle.inc_cost.specs.declared.branches.Branch.{Branch}
use Rattle.inc_graph.specs.Cuts.{Counted}
use Rattle.inc_graph.specs.IncludeGraph.{Graph}
use Rattle.inc_rules.specs.Judging.{AreJudged, Judged}
use Rattle.inc_answers.specs.CommandNames.{command_name}
use Rattle.inc_answers.specs.CostDocument.{cost_document}
use Rattle.inc_answers.specs.CostJson.{cost_json}
use Rattle.inc_answers.specs.CostText.{IsRanked, Ranked}
use Rattle.inc_answers.specs.CutDocument.{cut_document, fixed_document, has_costs}
use Rattle.inc_answers.specs.CutText.{Unhindered, WithAmounts, marks_refusal}
use Rattle.inc_answers.specs.DefinitionPlaces.{given_place, kept_place}
use Rattle.inc_answers.specs.DirectiveNames.{kept_kind, kind_of, written}
use Rattle.inc_answers.specs.Documents.{Block, document_text}
use Rattle.inc_answers.specs.DotText.{Drawn, all_drawn, dot_text, drawn}
use Rattle.inc_answers.specs.FileSizes.{file_sizes}
use Rattle.inc_answers.specs.GraphDocument.{graph_document}
use Rattle.inc_answers.specs.JsonAnswers.{About, cut_json, fixed_json, graph_json, who_json, why_json}
use Rattle.inc_answers.specs.JsonRefusals.{refusal_json}
use Rattle.inc_answers.specs.KeptFiles.{Kept, OfKept}
use Rattle.inc_answers.specs.AnswerNotes.{empty_notes}
use Rattle.inc_answers.specs.NamedReasons.{Sight, named_reasons, sight_kept}
use Rattle.inc_answers.specs.Printed.{Printed, answered_of, end_of, refused_for}
use Rattle.inc_answers.specs.Questions as questions
use Rattle.inc_answers.specs.Questions.{IsAnswerBy}
use Rattle.inc_answers.specs.Refusals.{Blocked, NotFound, Refusal, refusal_for, refusal_text}
use Rattle.inc_answers.specs.RulesDocument.{all_chains, rules_document}
use Rattle.inc_answers.specs.RulesJson.{rules_json}
use Rattle.inc_report.specs.RulesText.{rules_kind}
use Rattle.inc_answers.specs.Strictness.{Strict, asked_strays_of}
use Rattle.inc_answers.specs.Terms.{CostWords, Question, Details, Limits, RuleList, is_whole}
use Rattle.inc_answers.specs.Told.{Answer, Chains, Sources, Edges, Removed, FixedChain, IsAnswerOf, end_kind, notes_of}
use Rattle.inc_answers.specs.TreeDocument.{tree_document}
use Rattle.inc_answers.specs.TreeJson.{tree_json}
use Rattle.inc_answers.specs.TreeText.{tree_branches}
use Rattle.inc_answers.specs.WhoDocument.{who_document}
use Rattle.inc_answers.specs.WhyDocument.{why_document}
use Rattle.inc_answers.specs.declared.asked.Asked.{Asked}
use Rattle.inc_answers.specs.declared.asked.Asked.TheVariants as ask
use Rattle.inc_answers.specs.declared.asked.Asked.TheVariants.{Why, Who, Cut}
use Rattle.inc_report.specs.declared.named.Format.{Format}
use Rattle.inc_report.specs.declared.named.Format.TheVariants.{Gcc, Json, Dot}
use Rattle.inc_report.specs.declared.named.NamedForm.{NamedForm}
use Rattle.inc_answers.specs.declared.outcome.EndKind.{EndKind}
use Rattle.inc_answers.specs.declared.outcome.EndKind.TheVariants.{Refused}
use Rattle.inc_answers.specs.declared.subjects.Subject.{Subject}

---- an answer in each format

-- as lines and directives
abbrev pub answer_document : (all costed : Bool) → (most : Option ℕ) → Layout → Graph → Answer → List Block
answer_document all costed most layout g (Chains shortest chains) = why_document all most layout g shortest chains
answer_document all costed most layout g (Sources reaching chains) = who_document all most layout g reaching chains
answer_document all costed most layout g Edges = graph_document layout g
answer_document all costed most layout g (Removed set chains) = cut_document all costed most layout g set chains
answer_document all costed most layout g (FixedChain chain) = fixed_document layout g chain

-- as an object, of a call that ends so
abbrev pub answer_json : EndKind → (all : Bool) → About → Answer → List ℕ
answer_json kind all a (Chains shortest chains) = why_json kind a shortest chains
answer_json kind all a (Sources reaching chains) = who_json kind all a reaching chains
answer_json kind all a Edges = graph_json a
answer_json kind all a (Removed set chains) = cut_json a set chains
answer_json kind all a (FixedChain chain) = fixed_json a chain

abbrev pub answer_lines : (all costed : Bool) → (most : Option ℕ) → About → Answer → List ℕ
answer_lines all costed most a answer =
    document_text (λ d. written (a.kind d)) a.layout (answer_document all costed most a.layout a.graph answer)

-- which edges are drawn of it, where the edges of a cut have these amounts
abbrev pub answer_drawn : (amounts : List ℕ) → Answer → Drawn
answer_drawn amounts (Chains shortest chains) = drawn (concat chains) [] None
answer_drawn amounts (Sources reaching chains) = drawn (concat chains) [] None
answer_drawn amounts Edges = all_drawn
answer_drawn amounts (Removed set chains) = drawn (set ++ flat_map (λ (c : Counted). c.chain) chains) set (Some amounts)
answer_drawn amounts (FixedChain chain) = drawn chain [] (Some amounts)

-- as a graph
abbrev pub answer_dot : (amounts : List ℕ) → About → Answer → List ℕ
answer_dot amounts a answer = dot_text a.layout a.graph (answer_drawn amounts answer)

abbrev pub answer_text : NamedForm → (costed : Bool) → (amounts : List ℕ) → About → Answer → List ℕ
answer_text form costed amounts a answer =
    elim form.format [
      | Gcc ↦ answer_lines form.all costed form.most a answer
      | Json ↦ answer_json (end_kind form.fails answer) form.all a answer
      | Dot ↦ answer_dot amounts a answer
    ]

-- a graph whose directives are those of a listing
abbrev pub about : Language → Listing → Layout → Graph → About
about language listing layout g = record { layout = layout; graph = g; kind = kind_of language listing }

-- it is printed so, and the call ends so
abbrev pub printed_answer : (whole : Bool) → NamedForm → (costed : Bool) → (amounts : List ℕ) → About → Answer → Printed
printed_answer whole form costed amounts a answer =
    record { text = answer_text form costed amounts a answer; end = end_of (notes_of whole a.layout a.graph answer) (end_kind form.fails answer) }

---- a refusal in each format

-- as a text, or as an object
abbrev pub refused_text : NamedForm → (kind : DirectiveId → LineKind) → Refusal → List ℕ
refused_text form kind r =
    elim form.format [ Gcc ↦ refusal_text r | Json ↦ refusal_json (command_name form.asked) kind r | Dot ↦ refusal_text r ]

-- the reason beside it: that of blockers says how their directives are written
abbrev pub reason_in : Question → Sight → (reason : List ℕ) → Refusal → List ℕ
reason_in q sight reason (Blocked layout bs) = named_reasons q.language q.undefined sight layout bs
reason_in q sight reason _ = reason

-- the files whose directives it names are those of this layout
abbrev pub IsOfLayout : Layout → Refusal → Type 0
IsOfLayout layout (Blocked own bs) = own ≡ layout
IsOfLayout layout (NotFound own ms) = own ≡ layout
IsOfLayout layout _ = Unit {0}

-- the refusal that would be printed as text is printed so
abbrev pub IsRefused : NamedForm → Question → Layout → Sight → (plain : Printed) → Printed → Type 0
IsRefused form q layout sight plain p =
    (reason : List ℕ) × (r : Refusal) × IsOfLayout layout r × (plain ≡ refusal_for reason r)
    × (p ≡ refused_for (reason_in q sight reason r) (refused_text form sight.kind r))

-- what is printed in a format where this would be printed as text, or is an answer that is in the format
abbrev pub IsInFormat : NamedForm → Question → Layout → Sight → (plain : Printed) → Printed → Type 0
IsInFormat form q layout sight plain p = IsRefused form q layout sight plain p ⊎ (plain.end.kind ≢ Refused) × (p ≡ plain)

---- what is printed

-- of a graph whose edges have these amounts, of files that are read as they are or not
abbrev pub IsReport : (whole : Bool) → Asked → NamedForm → (costed : Bool) → About → (amounts : List ℕ) → Printed → Type 0
IsReport whole asked form costed a amounts p = (answer : Answer) × IsAnswerOf asked a.graph amounts answer × (p ≡ printed_answer whole form costed amounts a answer)

-- the same of a graph whose directives are those of a listing
abbrev pub IsReportOf : (whole : Bool) → Asked → NamedForm → (costed : Bool) → Language → Listing → Layout → Graph → (amounts : List ℕ) → Printed → Type 0
IsReportOf whole asked form costed language listing layout g amounts p = IsReport whole asked form costed (about language listing layout g) amounts p

-- of rules, the edges of all their chains are drawn
abbrev pub rules_answer : Format → (name : List ℕ) → About → List Judged → List ℕ
rules_answer Gcc name a js = document_text (λ d. written (a.kind d)) a.layout (rules_document name a.layout a.graph js)
rules_answer Json name a js = rules_json (rules_kind js) name a js
rules_answer Dot name a js = dot_text a.layout a.graph (drawn (concat (all_chains js)) [] None)

abbrev pub rules_report : NamedForm → (name : List ℕ) → About → List Judged → Printed
rules_report form name a js = record { text = rules_answer form.format name a js; end = end_of [] (rules_kind js) }

abbrev pub IsRuleReport : NamedForm → RuleList → About → Printed → Type 0
IsRuleReport form l a p = (js : List Judged) × AreJudged a.layout a.graph l.rules js × (p ≡ rules_report form l.name a js)

-- of costs, the edges that are printed are drawn
abbrev pub cost_answer : Format → About → Ranked → List ℕ
cost_answer Gcc a r = document_text (λ d. written (a.kind d)) a.layout (cost_document a.layout a.graph r)
cost_answer Json a r = cost_json a r
cost_answer Dot a r = dot_text a.layout a.graph (drawn r.edges [] None)

abbrev pub cost_report : NamedForm → About → Ranked → Printed
cost_report form a r = answered_of (empty_notes a.layout a.graph) (cost_answer form.format a r)

abbrev pub IsCostReport : NamedForm → CostWords → (weights : List ℕ) → About → Printed → Type 0
IsCostReport form w weights a p = (r : Ranked) × IsRanked weights w.most w.groups a.layout a.graph r × (p ≡ cost_report form a r)

-- of the trees of its sources; all edges are drawn
abbrev pub tree_answer : Format → About → (total : ℕ) → List Branch → List ℕ
tree_answer Gcc a total bs = document_text (λ d. written (a.kind d)) a.layout (tree_document a.layout a.graph total bs)
tree_answer Json a total bs = tree_json a total bs
tree_answer Dot a total bs = dot_text a.layout a.graph all_drawn

abbrev pub tree_report : NamedForm → About → (total : ℕ) → List Branch → Printed
tree_report form a total bs = answered_of (empty_notes a.layout a.graph) (tree_answer form.format a total bs)

abbrev pub AreTreesReported : NamedForm → (weights : List ℕ) → About → Printed → Type 0
AreTreesReported form weights a p =
    (total : ℕ) × IsTotal a.graph weights [] a.graph.sources total × (p ≡ tree_report form a total (tree_branches weights a.graph))

-- of a graph: limits and amounts count of a cut alone, a list of rules where these are asked about, and how much is printed of costs
abbrev pub IsNamedAs : (whole : Bool) → Asked → NamedForm → Details → Language → Listing → questions.Answer
IsNamedAs whole Cut form d language listing layout g p = WithAmounts d.limits (IsReportOf whole Cut form (has_costs d.limits.costs) language listing) layout g p
IsNamedAs whole ask.Rules form d language listing layout g p = IsRuleReport form d.rules (about language listing layout g) p
IsNamedAs whole ask.Cost form d language listing layout g p = IsCostReport form d.costs (file_sizes listing g.headers) (about language listing layout g) p
IsNamedAs whole ask.Tree form d language listing layout g p = AreTreesReported form (file_sizes listing g.headers) (about language listing layout g) p
IsNamedAs whole asked form d language listing layout g p = IsReportOf whole asked form false language listing layout g [] p

abbrev pub IsNamedOf : (whole : Bool) → NamedForm → Details → Language → Listing → questions.Answer
IsNamedOf whole form d language listing = IsNamedAs whole form.asked form d language listing

-- or the refusal of directives whose header is not found
abbrev pub IsStrictOf : NamedForm → Question → Details → Language → Listing → questions.Answer
IsStrictOf form q d language listing = Strict (asked_strays_of form.asked q) (IsNamedOf (is_whole q) form d language listing)

-- what is seen of the files that were read: directives by a listing, and where names are defined by what was given of them
abbrev pub given_sight : Language → Listing → Layout → List Given → Sight
given_sight language listing layout given = record {
  kind = kind_of language listing;
  definition = given_place language given (length layout.paths);
}

-- of a question, and which files are read for that
abbrev pub IsNamedBy : NamedForm → Question → Details → Printed → List Given → Listing → Type 0
IsNamedBy form q d p given listing =
    (plain : Printed) × IsAnswerBy (IsStrictOf form q d q.language listing) q plain given listing × IsInFormat form q (layout_of listing) (given_sight q.language listing (layout_of listing) given) plain p

---- by what is kept of the files

-- printed in this format where this would be printed as text, whatever the question is, and the directives of files are
abbrev pub IsInAnyFormat : NamedForm → (plain : Printed) → Printed → Type 0
IsInAnyFormat form plain p = (q : Question) (layout : Layout) (sight : Sight) → IsInFormat form q layout sight plain p

-- what is seen of the files by what is kept of them
abbrev pub kept_sight : Language → Listing → Layout → Kept → Sight
kept_sight language listing layout kept = record {
  kind = kind_of language listing;
  definition = kept_place language kept (length layout.paths);
}

-- of a graph and the files that are kept of it
abbrev pub IsNamedKept : NamedForm → Question → Details → Subject → Printed → Type 0
IsNamedKept form q d s p =
    (plain : Printed) × OfKept s.files.now s.project.now (λ listing.
    IsNamedOf (is_whole q) form d s.language listing s.project.now s.graph.now plain × IsInFormat form q s.project.now (kept_sight s.language listing s.project.now s.files.now) plain p)

-- the same of a question
abbrev pub IsStrictKept : NamedForm → Question → Details → Subject → Printed → Type 0
IsStrictKept form q d s p =
    (plain : Printed) × OfKept s.files.now s.project.now (λ listing.
    IsStrictOf form q d s.language listing s.project.now s.graph.now plain × IsInFormat form q s.project.now (kept_sight s.language listing s.project.now s.files.now) plain p)

-- of what hinders a cut
abbrev pub IsHinderedKept : NamedForm → Question → Limits → Subject → Printed → Type 0
IsHinderedKept form q l s p =
    (plain : Printed) × Unhindered s.project.now s.graph.now.definitions s.graph.now.blockers (marks_refusal s.project.now s.graph.now l.fixed l.costs) (λ r. ⊥) plain
    × OfKept s.files.now s.project.now (λ listing. IsInFormat form q s.project.now (kept_sight s.language listing s.project.now s.files.now) plain p)

-- the refusal of a cut by all blockers of a graph
abbrev pub blocked_as : NamedForm → Question → Subject → Printed
blocked_as form q s =
    refused_for (named_reasons q.language q.undefined (sight_kept s.language s.project.now s.files.now) s.project.now s.graph.now.blockers)
    (refused_text form (kept_kind s.language s.files.now) (Blocked s.project.now s.graph.now.blockers))
