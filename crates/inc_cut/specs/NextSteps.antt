-- The steps from a file, in the order in which a search looks at them.
use Rattle.std.specs.Prelude.{◌≡◌, ◌<◌, ◌++◌, ℕ, true, false, List, length, map}
use Rattle.inc_graph.specs.declared.graphs.Edge as declared
use Rattle.inc_graph.specs.IncludeGraph.{Graph}
use Rattle.inc_graph.specs.Indexes.{edges_leaving, edges_entering}
use Rattle.inc_cut.specs.declared.flows.Step.{Step}
use Rattle.inc_cut.specs.declared.searches.next_steps.NextStep.{NextStep}
use Rattle.inc_cut.specs.Flows.{step_from, step_to}

abbrev pub ahead_of : declared.Edge → Step
ahead_of e = record { edge = e.id; forward = true }

abbrev pub back_of : ℕ → Step
back_of i = record { edge = i; forward = false }

-- those along the edges that leave the file, then those back over the edges that lead to it
abbrev pub steps_of : Graph → (file : ℕ) → List Step
steps_of g file = map ahead_of (edges_leaving g.edges file) ++ map back_of (edges_entering g.edges file)

-- a step over an edge of the graph from a file, and where it leads
pub record IsNextStep (g : Graph) (file : ℕ) (next : NextStep) : Type 0 where
  -- it is over an edge of the graph
  pub within : next.step.edge < length g.edges
  -- from this file
  pub from : step_from g next.step ≡ file
  -- to that one
  pub to : step_to g next.step ≡ next.to
  -- which is a file of the graph
  pub inside : next.to < g.files
