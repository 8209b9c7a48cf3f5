-- What is known of costs that come one after the other.
use Rattle.std.specs.Prelude.{◌≡◌, ℕ, Bool, true, List, Option, Some, None, map, length, slice_index_or, false}
use Rattle.std.specs.List.{list_any}
use Rattle.inc_lookup.specs.Projects.{Layout}
use Rattle.inc_graph.specs.declared.edge_costs.CostTrouble.{CostTrouble}
use Rattle.inc_graph.specs.declared.edge_costs.CostTrouble.TheVariants.{Nothing, Unknown, Twice}
use Rattle.inc_graph.specs.declared.edge_costs.EdgeCosts.{EdgeCosts}
use Rattle.inc_graph.specs.declared.edge_costs.MarkKey.{MarkKey}
use Rattle.inc_graph.specs.declared.fixing.FixedFault.{FixedFault}
use Rattle.inc_graph.specs.declared.fixing.FixedFault.TheVariants.{NoSuchCost, CostTwice}
use Rattle.inc_graph.specs.Cuts.{are_amounts}
use Rattle.inc_graph.specs.IncludeGraph.{Graph}
use Rattle.inc_graph.specs.Marks.{Mark, Cost}
use Rattle.inc_graph.specs.MarkedEdges.{same_mark, edge_number, amount_for, first_unknown, first_repeated, marks_of_costs}
use Rattle.inc_graph.specs.Near.{IsNear}
use Rattle.inc_graph.specs.Spots.{AreEntered}

---- how it is kept

abbrev pub mark_of : MarkKey → Mark
mark_of k = record { path = k.path.bytes.now; line = k.line }

-- the mark has come before: its edge has a flag, or its key is in the table of those that name none
abbrev pub is_seen : (flags : List Bool) (keys : List MarkKey) → Option ℕ → Mark → Bool
is_seen flags keys (Some i) m = slice_index_or flags i false
is_seen flags keys None m = list_any (λ k. same_mark m (mark_of k)) keys

-- the lists are as long as a graph asks
pub record AreCostsFor (g : Graph) (c : EdgeCosts) : Type 0 where
  -- of each file the edges that leave it
  pub near : IsNear g.files c.near
  -- of each file how many edges enter it
  pub entered : AreEntered g c.entered.items
  -- an amount for each edge
  pub long : length c.amounts.items ≡ length g.edges
  -- none is over the most that an edge costs
  pub within : are_amounts c.amounts.items ≡ true
  -- and for each edge whether its cost came
  pub given : length c.given.items ≡ length g.edges

---- what it says of the costs so far

-- nothing is wrong with them: what each edge costs, and which marks came
pub record AreSound (layout : Layout) (g : Graph) (costs : List Cost) (amounts : List ℕ) (given : List Bool) (others : List MarkKey) : Type 0 where
  -- each edge costs what the list says of it
  pub are : amounts ≡ map (amount_for layout costs) g.edges
  -- a mark came exactly where it is noted
  pub seen : (m : Mark) → is_seen given others (edge_number layout g m) m ≡ list_any (same_mark m) (marks_of_costs costs)
  -- each names a directive
  pub known : first_unknown layout g (marks_of_costs costs) ≡ None
  -- none came twice
  pub once : first_repeated (marks_of_costs costs) ≡ None

-- the one at this place is the first whose mark has a cost already, and none names no directive
pub record AreTwice (layout : Layout) (g : Graph) (costs : List Cost) (i : ℕ) : Type 0 where
  pub known : first_unknown layout g (marks_of_costs costs) ≡ None
  pub twice : first_repeated (marks_of_costs costs) ≡ Some i

abbrev pub AreCostsBy : CostTrouble → Layout → Graph → List Cost → EdgeCosts → Type 0
AreCostsBy Nothing layout g costs c = AreSound layout g costs c.amounts.items c.given.items c.others.keys
AreCostsBy (Unknown i) layout g costs c = first_unknown layout g (marks_of_costs costs) ≡ Some i
AreCostsBy (Twice i) layout g costs c = AreTwice layout g costs i

-- these are the costs that are taken
abbrev pub AreCostsOf : Layout → Graph → List Cost → EdgeCosts → Type 0
AreCostsOf layout g costs c = AreCostsBy c.trouble layout g costs c

-- what is wrong with them
abbrev pub trouble_fault : CostTrouble → Option FixedFault
trouble_fault Nothing = None
trouble_fault (Unknown i) = Some (NoSuchCost i)
trouble_fault (Twice i) = Some (CostTwice i)
