-- Decimal digits, from the left.
use Rattle.std.specs.Prelude.{ℕ, ◌+◌, ◌*◌, ◌&&◌, Bool, List, Option, Some, None, if◌then◌else◌, fold, nat_le}
use Rattle.std.specs.List.{list_all}
use Rattle.inc_token.specs.Spellings.{is_digit}
use Rattle.inc_cond.specs.Constants.{digit_of}

-- the number that these digits make after a number
abbrev pub behind : ℕ → List ℕ → ℕ
behind n bs = fold (λ k b. k * 10 + digit_of b) n bs

-- a number that is not too large
abbrev pub if_within : (most : ℕ) → Bool → ℕ → Option ℕ
if_within most digits n = if digits && nat_le n most then Some n else None

-- the number that digits make, where digits that made n are passed
abbrev pub decimal_from : (most : ℕ) → ℕ → List ℕ → Option ℕ
decimal_from most n bs = if_within most (list_all is_digit bs) (behind n bs)
