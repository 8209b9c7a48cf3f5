-- Refusals and names of the program as the definitions see them.
use Rattle.std.specs.Prelude.{◌≡◌, ◌<◌, ◌≤◌, ℕ, List, map}
use Rattle.std.specs.List.{All}
use Rattle.inc_graph.specs.MissingLists.{Missing, missing_at}
use Rattle.inc_answers.specs.declared.refusals.Refusal.{Refusal}
use Rattle.inc_answers.specs.declared.refusals.Refusal.TheVariants as refusal
use Rattle.inc_answers.specs.Refusals as spec
use Rattle.inc_answers.specs.MissingNames as names
use Rattle.inc_answers.specs.declared.missing_names.MissingName.{MissingName}
use Rattle.inc_answers.specs.declared.missing_names.MissingNames.{MissingNames}

abbrev pub seen_refusal : Refusal → spec.Refusal
seen_refusal refusal.NoSuchSource = spec.NoSuchSource
seen_refusal refusal.NoSuchHeader = spec.NoSuchHeader
seen_refusal (refusal.BadFile path line) = spec.BadFile (record { path = path.now; line = line })
seen_refusal refusal.TooManyDirectives = spec.TooManyDirectives
seen_refusal (refusal.NoSuchDirective path line) = spec.NoSuchDirective (record { path = path.now; line = line })
seen_refusal (refusal.Malformed line) = spec.Malformed line
seen_refusal (refusal.BadDefinition index fault) = spec.BadDefinition index fault
seen_refusal refusal.TooLong = spec.TooLong
seen_refusal (refusal.NoSuchCost path line) = spec.NoSuchCost (record { path = path.now; line = line })
seen_refusal (refusal.CostTwice path line) = spec.CostTwice (record { path = path.now; line = line })

-- the name of the directive at a place, which is the first with it
abbrev pub first_at : ℕ → MissingName
first_at place = record { place = place; count = 1 }

-- the name of a directive, which is the first with it, and so many more have it
abbrev pub named_by : Missing → (count : ℕ) → names.MissingName
named_by m count = record { header = m.header; count = count; file = m.file; line = m.line }

abbrev pub seen_name : List Missing → MissingName → names.MissingName
seen_name ms n = named_by (missing_at ms n.place) n.count

abbrev pub seen_names : List Missing → MissingNames → List names.MissingName
seen_names ms n = map (seen_name ms) n.names.items

-- the keys are how the names are spelled, in the same order
abbrev pub AreKeyed : List Missing → MissingNames → Type 0
AreKeyed ms n = n.keys.keys ≡ map (λ (x : names.MissingName). names.spelled x.header) (seen_names ms n)

-- its first directive is among so many, and no more than these name it
abbrev pub IsWithin : (count : ℕ) → MissingName → Type 0
IsWithin count n = (n.place < count) × (n.count ≤ count)

abbrev pub AreWithin : (count : ℕ) → List MissingName → Type 0
AreWithin count ns = All (IsWithin count) ns

-- and one of these does not name it
abbrev pub IsFewer : (count : ℕ) → MissingName → Type 0
IsFewer count n = (n.place < count) × (n.count < count)

abbrev pub AreFewer : (count : ℕ) → List MissingName → Type 0
AreFewer count ns = All (IsFewer count) ns
