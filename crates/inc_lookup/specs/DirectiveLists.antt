-- Lists of directives, each named by its file and its line.
use Rattle.std.specs.Prelude.{ℕ, ◌==◌, ◌&&◌, Bool, List}
use Rattle.std.specs.List.{list_any}
use Rattle.std.specs.List.Sorted.{IsPermutation, IsSortedBy}
use Rattle.std.specs.declared.cmp.Ordering.{Ordering}
use Rattle.std.specs.Ordering.{is_lt, nat_cmp, ordering_then}
use Rattle.inc_lookup.specs.declared.projects.DirectiveId.{DirectiveId}

-- a directive at this line of the file is in the list
abbrev pub is_listed : List DirectiveId → (file line : ℕ) → Bool
is_listed ids file line = list_any (λ (d : DirectiveId). (d.file == file) && (d.line == line)) ids

-- how two directives lie: by file, and in one file by line
abbrev pub place_cmp : DirectiveId → DirectiveId → Ordering
place_cmp a b = ordering_then (nat_cmp a.file b.file) (nat_cmp a.line b.line)

-- the same directives, by file and line
pub record AreInOrder (ids sorted : List DirectiveId) : Type 0 where
  pub same : IsPermutation ids sorted
  pub rising : IsSortedBy (λ a b. is_lt (place_cmp a b)) sorted
