-- Lists of numbers as sets.
use Rattle.std.specs.Prelude.{ℕ, ◌==◌, ◌&&◌, not, Bool, true, List, [], ◌∷◌}
use Rattle.std.specs.List.{list_any}

-- the number is in the list
abbrev pub is_member : ℕ → List ℕ → Bool
is_member n ns = list_any (λ m. m == n) ns

-- no number twice
abbrev pub is_distinct : List ℕ → Bool
is_distinct [] = true
is_distinct (n ∷ ns) = not (is_member n ns) && is_distinct ns
