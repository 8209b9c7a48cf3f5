-- Simple names: no component is empty or begins with ., and no byte is NUL or LF. Each of them is plain, and on one line.
use Rattle.std.specs.Prelude.{◌≡◌, ℕ, ◌+◌, ◌-◌, ◌<◌, ◌≤◌, ◌==◌, ◌||◌, ◌&&◌, not, Bool, true, false, List, [], ◌∷◌, length, drop, slice_index, if◌then◌else◌}
use Rattle.std.specs.List.{list_any}
use Rattle.inc_lookup.specs.Paths.{is_absolute}
use Rattle.inc_text.specs.Ascii.{nul, line_feed, full_stop, slash}

-- a byte that no simple name has after the one before it
abbrev pub breaks : (before b : ℕ) → Bool
breaks before b = (b == nul) || (b == line_feed) || ((before == slash) && ((b == slash) || (b == full_stop)))

-- what is after a byte of a simple name
abbrev pub is_simple_after : (before : ℕ) → List ℕ → Bool
is_simple_after before [] = not (before == slash)
is_simple_after before (b ∷ bs) = if breaks before b then false else is_simple_after b bs

abbrev pub is_simple : List ℕ → Bool
is_simple name = is_simple_after slash name

-- a path of simple names, which may begin with /
abbrev pub is_simple_path : List ℕ → Bool
is_simple_path path = if is_absolute path then is_simple (drop 1 path) else is_simple path

-- a path is simple, where that is known
abbrev pub IsKnown : List ℕ → Bool → Type 0
IsKnown path known = known ≡ true → is_simple_path path ≡ true

-- after a place the bytes of a name are those of a simple one
pub record GoesOn (name : List ℕ) (from : ℕ) : Type 0 where
  pub none : (k : ℕ) → from ≤ k → k + 1 < length name → breaks (slice_index name k) (slice_index name (k + 1)) ≡ false
  pub end : (slice_index name (length name - 1) == slash) ≡ false

-- a byte that no path may have
abbrev pub has_end : List ℕ → Bool
has_end path = list_any (λ b. (b == nul) || (b == line_feed)) path
