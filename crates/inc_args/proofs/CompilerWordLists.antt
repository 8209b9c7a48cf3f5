-- The words after some words and one more.
use Rattle.std.proofs.Common.{◌≡◌, ℕ, zero, suc, List, [], ◌∷◌, drop, map, refl}

pub after_one : {X Y : Type 0} (f : X → Y) (xs : List X) (n : ℕ) → map f (drop 1 (drop n xs)) ≡ drop (suc n) (map f xs)
after_one f [] zero = refl
after_one f [] (suc n) = refl
after_one f (x ∷ xs) zero = refl
after_one f (x ∷ xs) (suc n) = after_one f xs n
