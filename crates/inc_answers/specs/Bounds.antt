-- Lists of which at most so many elements are printed.
use Rattle.std.specs.Prelude.{ℕ, ◌-◌, List, Option, Some, None, ◌++◌, codes, decimal, length, min, take}

-- how many of so many elements are printed: all where no number is given
abbrev pub shown_count : (most : Option ℕ) → (count : ℕ) → ℕ
shown_count None count = count
shown_count (Some most) count = min most count

-- the elements that are printed
abbrev pub first_of : {A : Type 0} → (most : Option ℕ) → List A → List A
first_of most xs = take (shown_count most (length xs)) xs

-- how many are not
abbrev pub left_out : (most : Option ℕ) → (count : ℕ) → ℕ
left_out most count = count - shown_count most count

-- that so many are not
abbrev pub more_words : ℕ → List ℕ
more_words n = codes ".. and " ++ decimal n ++ codes " more"
