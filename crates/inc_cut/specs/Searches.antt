-- A breadth-first search over steps that pass a test: which steps it takes, and what it has found.
use Rattle.std.specs.Prelude.{◌≡◌, ℕ, ◌+◌, Bool, true, Option, Some, None, length, nat_lt, if◌then◌else◌}
use Rattle.inc_graph.specs.IncludeGraph.{Graph, IsSound}
use Rattle.inc_graph.specs.Search.{Queue, Next, IsSearch, AreFirst}
use Rattle.inc_cut.specs.declared.flows.Step.{Step}
use Rattle.inc_cut.specs.Flows.{step_from, step_to}

-- a step over an edge of the graph that passes the test
pub record IsStepOf (g : Graph) (test : Step → Bool) (s : Step) : Type 0 where
  -- the edge is one of the graph
  pub within : nat_lt s.edge (length g.edges) ≡ true
  -- the test says so
  pub passes : test s ≡ true

-- it leads from the one file to the other
abbrev pub StepLeads : Graph → (Step → Bool) → ℕ → Step → ℕ → Type 0
StepLeads g test a s b = IsStepOf g test s × (step_from g s ≡ a) × (step_to g s ≡ b)

-- a step with the file to which it leads, if it passes
abbrev pub step_next : Graph → (Step → Bool) → Step → Option (Next Step)
step_next g test s = if test s then Some (record { step = s; to = step_to g s }) else None

-- the steps from a file are looked at in this order: those ahead by their edges, and then those back
abbrev pub step_rank : Graph → Step → ℕ
step_rank g s = if s.forward then s.edge else length g.edges + s.edge

-- a search that has done so many of the files that it has reached
pub record AreLevels (g : Graph) (test : Step → Bool) (q : Queue Step) (taken : ℕ) : Type 0 where
  -- the graph is one that a build gives
  pub sound : IsSound g
  -- it has reached what steps that pass reach from the sources
  pub search : IsSearch (StepLeads g test) g.files g.sources q taken
  -- level by level, each file by a shortest path
  pub first : AreFirst (step_rank g) (StepLeads g test) q taken

-- a search that has done all files that it has reached
abbrev pub IsFinished : Graph → (Step → Bool) → Queue Step → Type 0
IsFinished g test q = AreLevels g test q (length q.visits)
