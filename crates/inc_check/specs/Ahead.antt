-- What is read of a source before it is used.
use Rattle.std.specs.Prelude.{◌≡◌, ◌⊎◌, ◌+◌, ◌<◌, ◌≤◌, ℕ, List, ◌++◌, Option, length}
use Rattle.std.specs.Io.KnownBytes.{Consumes, IsAtEnd}
use Rattle.inc_check.specs.declared.ahead.TheConstants.{PIECE_LEN, LONGEST_LINE}

-- a piece came from the source, and is held after what was
abbrev pub IsReadOn : (left_old left_new : Option (List ℕ)) → (old new : List ℕ) → Type 0
IsReadOn left_old left_new old new = (piece : List ℕ) × (new ≡ old ++ piece) × Consumes left_old left_new piece

-- the source has ended, or more is held than a line has
abbrev pub IsEnough : (left : Option (List ℕ)) → (held : List ℕ) → Type 0
IsEnough left held = IsAtEnd left ⊎ (LONGEST_LINE < length held)

-- so many of the bytes are used, and there are no more than a line and a piece have
abbrev pub IsHeld : (used count : ℕ) → Type 0
IsHeld used count = (used ≤ count) × (count ≤ LONGEST_LINE + PIECE_LEN)
