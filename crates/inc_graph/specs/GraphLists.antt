-- The lists of a graph, by what is known of each file.
use Rattle.std.specs.Prelude.{◌≡◌, ℕ, ◌+◌, ◌==◌, Bool, true, false, filter, slice_index_or, List, [], ◌∷◌, ◌++◌, Option, Some, None, Result, Ok, Err, length, map, fold, if◌then◌else◌, nat_lt}
use Rattle.std.specs.List.{list_any}
use Rattle.inc_directive.specs.declared.files.FileFault.{FileFault}
use Rattle.inc_graph.specs.FileEntries.{Entry}
use Rattle.inc_graph.specs.declared.building.entries.Entry.TheVariants as entry
use Rattle.inc_graph.specs.declared.building.GraphRefusal.{GraphRefusal}
use Rattle.inc_graph.specs.declared.building.GraphRefusal.TheVariants.{BadFile}
use Rattle.inc_graph.specs.declared.graphs.BlockerKind.TheVariants as kind
use Rattle.inc_graph.specs.declared.graphs.Parts.{Parts}
use Rattle.inc_graph.specs.IncludeGraph.{Graph, most_directives}
use Rattle.inc_graph.specs.Views.{seen_edge, numbered}

-- what is known of a file, if it is read
abbrev pub State : Type 0
State = Option (Result (List Entry) FileFault)

-- a bad file, with its fault
abbrev pub bad_state : ℕ → State → List (ℕ × FileFault)
bad_state file (Some (Err fault)) = (file, fault) ∷ []
bad_state file _ = []

-- what the files give, from this one on
abbrev pub collected : {X : Type 0} → (ℕ → State → List X) → ℕ → List State → List X
collected give file [] = []
collected give file (s ∷ ss) = give file s ++ collected give (file + 1) ss

abbrev pub bad_states : ℕ → List State → List (ℕ × FileFault)
bad_states file ss = collected bad_state file ss

-- the refusal of the first of these
abbrev pub first_refusal : List (ℕ × FileFault) → Option GraphRefusal
first_refusal [] = None
first_refusal (bad ∷ more) = Some (BadFile bad.0 bad.1)

-- it is an include directive, and no definition
abbrev pub is_include : Entry → Bool
is_include (entry.Defines name line) = false
is_include _ = true

-- how many include directives the files have, the empty ones aside
abbrev pub size : State → ℕ
size (Some (Ok es)) = length (filter is_include es)
size _ = 0

abbrev pub total : List State → ℕ
total [] = 0
total (s ∷ ss) = size s + total ss

-- a number of directives, where a graph may have so many
abbrev pub counted : ℕ → Option ℕ
counted n = if nat_lt most_directives n then None else Some n

---- names that files define

-- it defines the name at this place
abbrev pub defines : (name : ℕ) → Entry → Bool
defines name (entry.Defines n line) = n == name
defines name _ = false

-- whether the flag at a place is set
abbrev pub flag_at : List Bool → ℕ → Bool
flag_at flags place = slice_index_or flags place false

-- a file defines it
abbrev pub state_defines : (name : ℕ) → State → Bool
state_defines name (Some (Ok es)) = list_any (defines name) es
state_defines name _ = false

---- a graph with more, where files define the names at these places

abbrev pub with_entry : (defined : ℕ → Bool) → ℕ → Graph → Entry → Graph
with_entry defined file g (entry.Edge to line) = record g { edges = g.edges ++ record { from = file; to = to; line = line } ∷ [] }
with_entry defined file g (entry.Missing line header) = record g { missing = g.missing ++ record { file = file; line = line; header = header } ∷ [] }
with_entry defined file g (entry.Blocker line kind) = record g { blockers = g.blockers ++ record { file = file; line = line; kind = kind } ∷ [] }
with_entry defined file g (entry.ByName name line) =
    if defined name then record g { blockers = g.blockers ++ record { file = file; line = line; kind = kind.Computed } ∷ [] } else g
with_entry defined file g (entry.Defines name line) = record g { definitions = g.definitions ++ record { file = file; line = line } ∷ [] }

abbrev pub with_entries : (defined : ℕ → Bool) → ℕ → Graph → List Entry → Graph
with_entries defined file g es = fold (with_entry defined file) g es

abbrev pub with_state : (defined : ℕ → Bool) → ℕ → Graph → State → Graph
with_state defined file g (Some (Ok es)) = with_entries defined file g es
with_state defined file g _ = g

-- with the files from this one on
abbrev pub with_states : (defined : ℕ → Bool) → Graph → ℕ → List State → Graph
with_states defined g file [] = g
with_states defined g file (s ∷ ss) = with_states defined (with_state defined file g s) (file + 1) ss

-- the edges have their places as numbers
pub record AreNumbered (p : Parts) : Type 0 where
  pub numbers : p.edges.items ≡ numbered (map seen_edge p.edges.items)
