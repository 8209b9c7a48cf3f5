-- The text that `cut` prints, and what comes before the answers about cuts: the refusals of blockers, of marks and of costs.
use Rattle.std.specs.Prelude.{◌≡◌, ◌≢◌, ◌⊎◌, ℕ, List, [], ◌∷◌, Option, Some, None, option_map, option_and_then, slice_get, codes}
use Rattle.inc_lookup.specs.declared.projects.DirectiveId.{DirectiveId}
use Rattle.inc_answers.specs.BlockedReasons.{blocked_reasons}
use Rattle.inc_answers.specs.AnswerNotes.{empty_notes}
use Rattle.inc_answers.specs.Terms.{Question, Limits}
use Rattle.inc_lookup.specs.Given.{Given}
use Rattle.inc_lookup.specs.Projects.{Layout, Listing}
use Rattle.inc_graph.specs.declared.fixing.FixedFault.{FixedFault}
use Rattle.inc_graph.specs.declared.fixing.FixedFault.TheVariants as fixed
use Rattle.inc_graph.specs.declared.graphs.Blocker.{Blocker}
use Rattle.inc_graph.specs.Cuts.{Counted, fixed_by, costs_by, IsCut, IsFixedChain}
use Rattle.inc_graph.specs.IncludeGraph.{Graph}
use Rattle.inc_graph.specs.MarkedEdges.{marks_of_costs, amounts_by, marks_fault}
use Rattle.inc_graph.specs.Marks.{Mark, Cost}
use Rattle.inc_check.specs.Certificates.{marks_of, certificate_of}
use Rattle.inc_check.specs.Texts.{certificate_text}
use Rattle.inc_answers.specs.declared.limits.Hindrance.{Hindrance}
use Rattle.inc_answers.specs.declared.limits.Hindrance.TheVariants as hindrance
use Rattle.inc_answers.specs.MarkReasons.{marks_reason}
use Rattle.inc_answers.specs.MarkTexts.{list_text}
use Rattle.inc_answers.specs.Printed.{Printed, answered_of, negative_of}
use Rattle.inc_answers.specs.Questions.{Answer, IsAnswerBy}
use Rattle.inc_answers.specs.Strictness.{Strict, open_strays_of}
use Rattle.inc_answers.specs.Refusals.{Refusal, Blocked, NoSuchDirective, NoSuchCost, CostTwice, refusal_for}

---- what hinders an answer about cuts

-- a fault of marks or costs as a refusal, with the mark at its place
abbrev pub refusal_of_fault : List Mark → List Cost → FixedFault → Option Refusal
refusal_of_fault marks costs (fixed.NoSuchDirective i) = option_map NoSuchDirective (slice_get marks i)
refusal_of_fault marks costs (fixed.NoSuchCost i) = option_map NoSuchCost (slice_get (marks_of_costs costs) i)
refusal_of_fault marks costs (fixed.CostTwice i) = option_map CostTwice (slice_get (marks_of_costs costs) i)
refusal_of_fault marks costs fixed.NoMemory = None

-- with what is said beside it
abbrev pub reasoned : Layout → Graph → List Mark → List Cost → FixedFault → Option (List ℕ × Refusal)
reasoned layout g marks costs fault = option_map (λ (r : Refusal). (marks_reason layout g marks costs fault, r)) (refusal_of_fault marks costs fault)

-- the refusal of these marks and costs, if they are refused
abbrev pub marks_refusal : Layout → Graph → List Mark → List Cost → Option (List ℕ × Refusal)
marks_refusal layout g marks costs = option_and_then (reasoned layout g marks costs) (marks_fault layout g marks costs)

-- the refusal by all of these, and beside it what they are and how to go on
abbrev pub blocked : Layout → (definitions : List DirectiveId) → List Blocker → Printed
blocked layout ds bs = refusal_for (blocked_reasons layout ds bs) (Blocked layout bs)

-- what is printed where no blocker is, and marks and costs are not refused, or the refusal in its place
abbrev pub Unhindered : Layout → (definitions : List DirectiveId) → List Blocker → Option (List ℕ × Refusal) → (Printed → Type 0) → Printed → Type 0
Unhindered layout ds (b ∷ bs) fault Then p = p ≡ blocked layout ds (b ∷ bs)
Unhindered layout ds [] (Some r) Then p = p ≡ refusal_for r.0 r.1
Unhindered layout ds [] None Then p = Then p

-- with the amounts of the edges, 0 where they are fixed and else what they cost
abbrev pub WithAmounts : Limits → (Layout → Graph → (amounts : List ℕ) → Printed → Type 0) → Answer
WithAmounts l Then layout g p =
    Unhindered layout g.definitions g.blockers (marks_refusal layout g l.fixed l.costs) (Then layout g (amounts_by layout g l.kept l.fixed l.costs)) p

-- it hinders the answer about a graph
abbrev pub IsHindrance : Layout → Graph → Limits → Hindrance → Type 0
IsHindrance layout g l hindrance.Blocked = g.blockers ≢ []
IsHindrance layout g l (hindrance.Marks fault) = (g.blockers ≡ []) × (marks_fault layout g l.fixed l.costs ≡ Some fault)

---- the answer

-- printed is the nearest cut, with chains that show that none is cheaper
abbrev pub IsCutPrinted : Layout → Graph → (amounts : List ℕ) → Printed → Type 0
IsCutPrinted layout g amounts p =
    (set : List ℕ) × (chains : List Counted) × IsCut g (fixed_by amounts) (costs_by amounts) set chains
    × (p ≡ answered_of (empty_notes layout g) (certificate_text (certificate_of layout g set chains)))

-- printed is a chain of fixed edges alone
abbrev pub IsFixedPrinted : Layout → Graph → (amounts : List ℕ) → Printed → Type 0
IsFixedPrinted layout g amounts p =
    (chain : List ℕ) × IsFixedChain g (fixed_by amounts) chain
    × (p ≡ negative_of (empty_notes layout g) (list_text (codes "fixed") (marks_of layout g chain)))

-- what `cut` prints of a graph: a cut, or why there is none
abbrev pub IsCutOf : Layout → Graph → (amounts : List ℕ) → Printed → Type 0
IsCutOf layout g amounts p = IsCutPrinted layout g amounts p ⊎ IsFixedPrinted layout g amounts p

-- what `cut` prints, and which files are read for that
abbrev pub IsCutBy : Question → Limits → Printed → List Given → Listing → Type 0
IsCutBy q l p given listing = IsAnswerBy (Strict (open_strays_of q) (WithAmounts l IsCutOf)) q p given listing
