-- The search along edges that lead to no file of the right side of a rule.
use Rattle.std.specs.Prelude.{◌≡◌, ℕ, Bool, ◌&&◌, true, false, List, Option, Some, None, if◌then◌else◌, length, slice_index_or}
use Rattle.inc_graph.specs.declared.graphs.Edge as declared
use Rattle.inc_graph.specs.IncludeGraph.{Graph}
use Rattle.inc_graph.specs.Chains.{target, leaves}
use Rattle.inc_graph.specs.Search.{Queue, Next, IsSearch}

-- the file has a flag
abbrev pub is_flagged : List Bool → ℕ → Bool
is_flagged flags file = slice_index_or flags file false

-- an edge to a file without a flag is a step from the file that it leaves
abbrev pub LeadsPast : Graph → List Bool → ℕ → Unit {0} → ℕ → Type 0
LeadsPast g flags a s b = (i : ℕ) × (leaves g a i ≡ true) × (target g i ≡ b) × (is_flagged flags b ≡ false)

-- the step along an edge, unless it leads to a file with a flag
abbrev pub edge_step : List Bool → declared.Edge → Option (Next (Unit {0}))
edge_step flags e = if is_flagged flags e.to then None else Some (record { step = tt; to = e.to })

-- an edge leads from a file with one flag to a file with the other
abbrev pub is_entering : (bound right : List Bool) → declared.Edge → Bool
is_entering bound right e = is_flagged bound e.from && is_flagged right e.to

-- so many files of the queue are done
abbrev pub IsBegun : Graph → List Bool → (starts : List ℕ) → Queue (Unit {0}) → (taken : ℕ) → Type 0
IsBegun g flags starts q taken = IsSearch (LeadsPast g flags) g.files starts q taken

-- all are
abbrev pub IsFinished : Graph → List Bool → (starts : List ℕ) → Queue (Unit {0}) → Type 0
IsFinished g flags starts q = IsBegun g flags starts q (length q.visits)
