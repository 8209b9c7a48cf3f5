-- Lists of paths: how the paths of a sorted list are kept.
use Rattle.std.specs.Prelude.{◌≡◌, ◌≢◌, ℕ, ◌<◌, ◌≤◌, Bool, true, not, List, length, map, take, drop, [], ◌∷◌, ◌++◌, codes, bytes_eq, slice_index, slice_index_or, if◌then◌else◌}
use Rattle.std.specs.List.{list_any, position_or_len}
use Rattle.std.specs.Cmp.Lexicographic.{slice_cmp}
use Rattle.std.specs.Ordering.{nat_cmp, is_lt}

-- a written path without the ./ that it may begin with
abbrev pub kept_form : List ℕ → List ℕ
kept_form path = if bytes_eq (take 2 path) (codes "./") then drop 2 path else path

abbrev pub kept_forms : List (List ℕ) → List (List ℕ)
kept_forms written = map kept_form written

-- a path is less than another, byte by byte
abbrev pub is_before : (path other : List ℕ) → Bool
is_before path other = is_lt (slice_cmp nat_cmp path other)

-- each path is greater than those before it, byte by byte
abbrev pub Rises : List (List ℕ) → Type 0
Rises paths = (i j : ℕ) → i < j → j < length paths → is_before (slice_index_or paths i []) (slice_index_or paths j []) ≡ true

-- a path is put after the others unless it is among them; its place, and whether it was added
pub record IsInserted (old : List (List ℕ)) (path : List ℕ) (place : ℕ) (added : Bool) (new : List (List ℕ)) : Type 0 where
  pub is_new : added ≡ not (list_any (bytes_eq path) old)
  pub at : place ≡ position_or_len (bytes_eq path) old
  pub paths : new ≡ (if list_any (bytes_eq path) old then old else old ++ path ∷ [])

-- two paths have so many of their first bytes in common, of `both`
pub record IsCommon (path other : List ℕ) (both common : ℕ) : Type 0 where
  pub within : common ≤ both
  pub same : (k : ℕ) → k < common → slice_index path k ≡ slice_index other k
  pub differ : common < both → slice_index path common ≢ slice_index other common

-- so many of the first bytes of two paths are equal, and no more
pub record AreShared (path other : List ℕ) (common : ℕ) : Type 0 where
  -- the one path is as long
  pub left : common ≤ length path
  -- and so is the other
  pub right : common ≤ length other
  -- they are the same so far
  pub same : (k : ℕ) → k < common → slice_index path k ≡ slice_index other k
  -- and part after it, where both go on
  pub differ : common < length path → common < length other → slice_index path common ≢ slice_index other common
