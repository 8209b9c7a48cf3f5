-- The refusal of marks and costs, and what is said beside it.
use Rattle.std.proofs.Common.{◌≡◌, ◌≢◌, ℕ, List, [], Option, Some, refl, ap, sym, ◌∙◌}
use Rattle.std.specs.Prelude.{option_and_then, option_map}
use Rattle.inc_lookup.specs.Projects.{Layout}
use Rattle.inc_graph.specs.IncludeGraph.{Graph}
use Rattle.inc_graph.specs.MarkedEdges.{marks_fault}
use Rattle.inc_graph.specs.Marks.{Cost, Mark}
use Rattle.inc_graph.specs.declared.fixing.FixedFault.{FixedFault}
use Rattle.inc_graph.specs.declared.fixing.FixedFault.TheVariants as fault
use Rattle.inc_graph.specs.declared.graphs.Blocker.{Blocker}
use Rattle.inc_lookup.specs.declared.projects.DirectiveId.{DirectiveId}
use Rattle.inc_answers.specs.CutText.{Unhindered, marks_refusal, reasoned, refusal_of_fault}
use Rattle.inc_answers.specs.MarkReasons.{marks_reason}
use Rattle.inc_answers.specs.Printed.{Printed}
use Rattle.inc_answers.specs.Refusals.{Refusal, refusal_for}
use Rattle.inc_answers.specs.declared.limits.Hindrance.TheVariants.{Marks}

-- a fault that is refused is not that memory ran out
pub refused_memory : (marks : List Mark) (costs : List Cost) (f : FixedFault) (r : Refusal) → Some r ≡ refusal_of_fault marks costs f → Marks f ≢ Marks fault.NoMemory
refused_memory marks costs (fault.NoSuchDirective i) r seen same = cc
refused_memory marks costs (fault.NoSuchCost i) r seen same = cc
refused_memory marks costs (fault.CostTwice i) r seen same = cc
refused_memory marks costs fault.NoMemory r seen same = cc

-- the refusal of a fault of marks or costs
pub reasoned_is : (layout : Layout) (g : Graph) (marks : List Mark) (costs : List Cost) (f : FixedFault) (reason : List ℕ) (r : Refusal)
    → marks_fault layout g marks costs ≡ Some f → Some r ≡ refusal_of_fault marks costs f → reason ≡ marks_reason layout g marks costs f
    → marks_refusal layout g marks costs ≡ Some (reason, r)
reasoned_is layout g marks costs f reason r named seen why =
    ap (option_and_then (reasoned layout g marks costs)) named
    ∙ ap (option_map (λ (x : Refusal). (marks_reason layout g marks costs f, x))) (sym seen)
    ∙ ap (λ (t : List ℕ). Some (t, r)) (sym why)

-- is what is printed where no blocker is
pub by_reason : (layout : Layout) (ds : List DirectiveId) (bs : List Blocker) (found : Option (List ℕ × Refusal)) (Then : Printed → Type 0) (reason : List ℕ) (r : Refusal) → bs ≡ [] → found ≡ Some (reason, r)
    → Unhindered layout ds bs found Then (refusal_for reason r)
by_reason layout ds bs found Then reason r none is = rw (none, is) refl
