-- A search along levels that it keeps: where it is on its way to a header.
use Rattle.std.specs.Prelude.{◌≡◌, ℕ, ◌+◌, ◌-◌, ◌*◌, ◌<◌, Bool, true, List, [], ◌∷◌, Option, None, Some, length, nat_lt, slice_index, count_by, IsTrue, ⊤}
use Rattle.inc_graph.specs.IncludeGraph.{Graph, IsSound}
use Rattle.inc_graph.specs.Members.{is_member}
use Rattle.inc_cut.specs.declared.flows.Step.{Step}
use Rattle.inc_cut.specs.declared.searches.next_steps.NextStep.{NextStep}
use Rattle.inc_cut.specs.NextSteps.{IsNextStep}
use Rattle.inc_cut.specs.Flows.{step_to, is_walk_by, is_path_by}

-- the level of a file
abbrev pub rank : List ℕ → ℕ → ℕ
rank levels f = slice_index levels f

-- the levels are 16 bits wide
abbrev pub levels_end : ℕ
levels_end = 65_536

-- one that passes and leads to a greater level
pub record IsUp (g : Graph) (test : Step → Bool) (levels : List ℕ) (file : ℕ) (next : NextStep) : Type 0 where
  -- it is a step from the file
  pub real : IsNextStep g file next
  -- that is open
  pub passes : test next.step ≡ true
  -- to a greater level
  pub up : rank levels file < rank levels next.to
  -- which is reached
  pub most : rank levels next.to < levels_end

-- each step leads to a greater level
abbrev pub Climbs : Graph → (levels : List ℕ) → ℕ → List Step → Type 0
Climbs g levels a [] = ⊤
Climbs g levels a (s ∷ ss) = (rank levels a < rank levels (step_to g s)) × Climbs g levels (step_to g s) ss

-- steps that pass lead from a source to the file, each to a greater level
pub record IsWay (g : Graph) (test : Step → Bool) (levels : List ℕ) (steps : List Step) (file : ℕ) : Type 0 where
  -- the graph is one that a build gives
  pub sound : IsSound g
  -- there is a level for each file
  pub long : length levels ≡ g.files
  -- the way ends at a file of the graph
  pub inside : file < g.files
  -- it begins here
  pub source : ℕ
  -- at a source
  pub among : is_member source g.sources ≡ true
  -- its steps lead from there to the file, each of them passed by the test
  pub walk : is_walk_by g test source steps file ≡ true
  -- each leads one level up, so that no file comes twice
  pub climbs : Climbs g levels source steps

-- how much is left to try: files that are not given up, and greater levels
abbrev pub left_over : List ℕ → (file : ℕ) → ℕ
left_over levels file = count_by (λ n. nat_lt 0 n) levels * (levels_end + 1) + (levels_end - rank levels file)

abbrev pub IsPathIfSome : Graph → (Step → Bool) → Option (List Step) → Type 0
IsPathIfSome g test None = ⊤
IsPathIfSome g test (Some steps) = IsTrue (is_path_by g test steps)
