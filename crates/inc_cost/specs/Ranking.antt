-- Amounts and their places as numbers that are sorted.
use Rattle.std.specs.Prelude.{◌≡◌, ℕ, ◌+◌, ◌-◌, ◌*◌, ◌%◌, ◌<◌, List, Some, length, slice_get, slice_index}

-- an amount of 64 bits and a place of 32; the number is less where the amount is greater, or as great and the place before
abbrev pub key_of : (amount place : ℕ) → ℕ
key_of amount place = (18_446_744_073_709_551_615 - amount) * 4_294_967_296 + place

-- these are the numbers of those of the first so many amounts that are not 0
pub record AreKeysOf (amounts : List ℕ) (count : ℕ) (keys : List ℕ) : Type 0 where
  pub each : (k key : ℕ) → slice_get keys k ≡ Some key → (place : ℕ) × (place < count) × (0 < slice_index amounts place) × (key ≡ key_of (slice_index amounts place) place)
  pub all : (place : ℕ) → place < count → 0 < slice_index amounts place → (k : ℕ) × (slice_get keys k ≡ Some (key_of (slice_index amounts place) place))
  pub once : (j k key : ℕ) → slice_get keys j ≡ Some key → slice_get keys k ≡ Some key → j ≡ k

-- and these their places
pub record ArePlacesOf (keys : List ℕ) (count : ℕ) (places : List ℕ) : Type 0 where
  pub long : length places ≡ count
  pub each : (k : ℕ) → k < count → slice_index places k ≡ slice_index keys k % 4_294_967_296
