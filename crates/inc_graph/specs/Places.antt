-- The files that a search of the closure has reached, each as it was found.
use Rattle.std.specs.Prelude.{◌≡◌, ℕ, zero, suc, ◌<◌, ◌^◌, List, ◌++◌, Option, Some, None, Contains, length}
use Rattle.std.specs.List.{All}
use Rattle.inc_lookup.specs.declared.projects.Found.{Found}
use Rattle.inc_graph.specs.declared.building.places.Place.{Place}

-- of so many files these are reached
pub record Reached : Type 0 where
  pub files : ℕ
  pub found : List Found

-- where an #include_next goes on, by the mark of its file
abbrev pub next_of : ℕ → Option ℕ
next_of zero = None
next_of (suc k) = Some k

abbrev pub seen_place : Place → Found
seen_place p = record { file = p.file; next = next_of p.mark }

-- places of so many files, whose numbers have 32 bits
pub record AreKept (files : ℕ) (queue : List Place) : Type 0 where
  pub within : All (λ (p : Place). p.file < files) queue
  pub few : length queue < 2 ^ 32

-- of what was tried all is reached now, and nothing else is new
pub record Reaches (old tried new : List Found) : Type 0 where
  -- what is new
  pub more : List Found
  -- it was put after the others
  pub grown : new ≡ old ++ more
  -- it was tried
  pub from : (at : Found) → Contains more at → Contains tried at
  -- and all that was tried is there
  pub there : (at : Found) → Contains tried at → Contains new at
