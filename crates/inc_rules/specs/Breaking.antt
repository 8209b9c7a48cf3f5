-- The edges by which a graph breaks the rules that files do not reach or include others: those that a baseline lets be.
use Rattle.std.specs.Prelude.{◌⊎◌, ℕ, not, Bool, List, [], ◌∷◌, ◌↔◌, IsTrue, filter}
use Rattle.std.specs.List.{list_any}
use Rattle.std.specs.List.Sorted.{IsStrictlyIncreasing}
use Rattle.inc_lookup.specs.Projects.{Layout}
use Rattle.inc_graph.specs.Chains.{files_on, is_walk, leaves, target}
use Rattle.inc_graph.specs.IncludeGraph.{Graph}
use Rattle.inc_graph.specs.Members.{is_member}
use Rattle.inc_rules.specs.Judging.{Judged, includes, includes_first, is_right_file, left_files}
use Rattle.inc_rules.specs.Rules.{Rule}
use Rattle.inc_rules.specs.declared.rules.Verb.TheVariants.{NotReach, NotInclude, Include, IncludeFirst}

---- the edges

-- a walk leads to the file from one of these files, and none that it visits is one of the others
pub record IsReachedPast (from : List ℕ) (is_other : ℕ → Bool) (g : Graph) (file : ℕ) : Type 0 where
  -- where it begins
  pub source : ℕ
  -- which is one of these
  pub among : IsTrue (is_member source from)
  -- its edges
  pub walk : List ℕ
  -- which lead to the file
  pub real : IsTrue (is_walk g source walk file)
  -- past the others
  pub past : IsTrue (not (list_any is_other (files_on g source walk)))

-- the file may include none of the right side: one that the rule is about, and where none of the right side may be reached, each to which
-- a walk leads from one of these past that side
abbrev pub IsBound : Layout → Graph → Rule → (file : ℕ) → Type 0
IsBound layout g r file =
    elim r.verb [
      | NotReach ↦ IsReachedPast (left_files layout g r) (is_right_file layout r) g file
      | NotInclude ↦ IsTrue (is_member file (left_files layout g r))
      | Include ↦ ⊥
      | IncludeFirst ↦ ⊥
    ]

-- an edge leads from such a file to one of the right side
pub record IsBreaking (layout : Layout) (g : Graph) (r : Rule) (edge : ℕ) : Type 0 where
  -- the file
  pub file : ℕ
  -- which it leaves
  pub leaves : IsTrue (leaves g file edge)
  -- and which is bound
  pub bound : IsBound layout g r file
  -- to the right side
  pub right : IsTrue (is_right_file layout r (target g edge))

-- of some of these rules
abbrev pub BreaksSome : Layout → Graph → List Rule → (edge : ℕ) → Type 0
BreaksSome layout g [] edge = ⊥
BreaksSome layout g (r ∷ rs) edge = IsBreaking layout g r edge ⊎ BreaksSome layout g rs edge

-- all such edges, by number and each once
abbrev pub AreBreaking : Layout → Graph → List Rule → (edges : List ℕ) → Type 0
AreBreaking layout g rules edges =
    IsStrictlyIncreasing edges × ((edge : ℕ) → IsTrue (is_member edge edges) ↔ BreaksSome layout g rules edge)

---- what breaks rules beside them

-- the files that do not include what they must
abbrev pub lacking_files : Layout → Graph → Rule → List ℕ
lacking_files layout g r =
    elim r.verb [
      | NotReach ↦ []
      | NotInclude ↦ []
      | Include ↦ filter (λ f. not (includes layout g r f)) (left_files layout g r)
      | IncludeFirst ↦ filter (λ f. not (includes_first layout g r f)) (left_files layout g r)
    ]

-- what breaks a rule where these edges may stay
abbrev pub lacking : Layout → Graph → Rule → Judged
lacking layout g r = record { rule = r; chains = []; files = lacking_files layout g r }
