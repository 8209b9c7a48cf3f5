-- A search depth first: where it is.
use Rattle.std.specs.Prelude.{◌≡◌, ℕ, ◌+◌, ◌*◌, ◌<◌, ◌≤◌, not, Bool, true, false, List, [], ◌∷◌, Option, None, Some, length, map, slice_get, slice_index, slice_index_or, slice_set, count_by}
use Rattle.inc_graph.specs.IncludeGraph.{Graph, IsSound}
use Rattle.inc_graph.specs.Members.{is_member, is_distinct}
use Rattle.inc_cut.specs.declared.flows.Step.{Step}
use Rattle.inc_cut.specs.declared.searches.next_steps.NextStep.{NextStep}
use Rattle.inc_cut.specs.Flows.{step_to, is_walk_by, IsLedTo}
use Rattle.inc_cut.specs.NextSteps.{IsNextStep, steps_of}

-- whether a file is reached
abbrev pub holds : List Bool → ℕ → Bool
holds reached f = slice_index_or reached f false

-- the steps from a file with numbers from the first on and below the last lead to files that are reached, where they pass
abbrev pub AreLooked : Graph → (Step → Bool) → (reached : List Bool) → (file first last : ℕ) → Type 0
AreLooked g test reached file first last =
    (i : ℕ) (s : Step) → first ≤ i → i < last → slice_get (steps_of g file) i ≡ Some s → test s ≡ true → holds reached (step_to g s) ≡ true

-- of the files that are reached those on a way may have steps that are not looked at, and the others have none
pub record IsReaching (g : Graph) (test : Step → Bool) (reached : List Bool) (looked : List ℕ) (way : List ℕ) : Type 0 where
  -- the graph is one that a build gives
  pub sound : IsSound g
  -- there is a flag and a count for each file
  pub reached_long : length reached ≡ g.files
  pub looked_long : length looked ≡ g.files
  -- the files on the way are reached
  pub way_reached : (f : ℕ) → is_member f way ≡ true → holds reached f ≡ true
  -- a file is reached by steps that pass alone
  pub by_walk : (f : ℕ) → holds reached f ≡ true → IsLedTo g test f
  -- of a reached file the steps before its count lead to reached files
  pub done : (f : ℕ) → holds reached f ≡ true → AreLooked g test reached f 0 (slice_index looked f)
  -- of any other file no step was looked at
  pub fresh : (f : ℕ) → holds reached f ≡ false → slice_index looked f ≡ 0
  -- a reached file that is not on the way has no step left
  pub over : (f : ℕ) → holds reached f ≡ true → is_member f way ≡ false → length (steps_of g f) ≤ slice_index looked f

-- steps that pass lead from a source to the file, no file twice, and only the files on this way may have steps that are not looked at
pub record IsDescent (g : Graph) (test : Step → Bool) (reached : List Bool) (looked : List ℕ) (steps : List Step) (file : ℕ) : Type 0 where
  -- it begins here
  pub source : ℕ
  -- at a source
  pub among : is_member source g.sources ≡ true
  -- the way is at a file of the graph
  pub inside : file < g.files
  -- the steps lead from the source to that file, each of them passed by the test
  pub walk : is_walk_by g test source steps file ≡ true
  -- and to no file twice
  pub distinct : is_distinct (source ∷ map (step_to g) steps) ≡ true
  -- what is reached is looked at, but for the files on the way
  pub reaching : IsReaching g test reached looked (source ∷ map (step_to g) steps)
  -- the search ends at a header
  pub header : (h : ℕ) → is_member h g.headers ≡ true → holds reached h ≡ true → file ≡ h

-- no file that is reached has a step left, and none is a header
pub record IsBetween (g : Graph) (test : Step → Bool) (reached : List Bool) (looked : List ℕ) : Type 0 where
  pub reaching : IsReaching g test reached looked []
  pub header : (h : ℕ) → is_member h g.headers ≡ true → holds reached h ≡ false

-- the next step that passes and leads to a file that is not reached, and those before it are looked at
pub record IsNewStep (g : Graph) (test : Step → Bool) (reached : List Bool) (looked looked2 : List ℕ) (file : ℕ) (next : NextStep) : Type 0 where
  -- it is a step of the file, with the file that it leads to
  pub real : IsNextStep g file next
  -- the test passes it
  pub passes : test next.step ≡ true
  -- it leads to a file that is not reached
  pub new : holds reached next.to ≡ false
  -- its number among the steps of the file
  pub index : ℕ
  pub at : slice_get (steps_of g file) index ≡ Some next.step
  -- the count of the file goes on after it
  pub looked_is : looked2 ≡ slice_set looked file (index + 1)
  -- the steps between the old count and it lead nowhere new
  pub before : AreLooked g test reached file (slice_index looked file) index

-- all steps from the file are looked at
pub record IsLookedThrough (g : Graph) (test : Step → Bool) (reached : List Bool) (looked looked2 : List ℕ) (file : ℕ) : Type 0 where
  pub looked_is : looked2 ≡ slice_set looked file (length (steps_of g file))
  pub all : AreLooked g test reached file (slice_index looked file) (length (steps_of g file))

abbrev pub IsLook : Graph → (Step → Bool) → List Bool → (looked looked2 : List ℕ) → (file : ℕ) → Option NextStep → Type 0
IsLook g test reached looked looked2 file None = IsLookedThrough g test reached looked looked2 file
IsLook g test reached looked looked2 file (Some next) = IsNewStep g test reached looked looked2 file next

-- files that are not reached count twice, and each step of the way once
abbrev pub left_to_reach : List Bool → List Step → ℕ
left_to_reach reached steps = count_by not reached * 2 + length steps
