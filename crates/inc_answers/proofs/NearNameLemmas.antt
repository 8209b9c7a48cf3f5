-- The lines on words that name no file, and what they may have meant.
use Rattle.std.proofs.Common.{◌≡◌, ◌∙◌, ◌-◌, ◌<◌, ℕ, List, [], ◌∷◌, ◌++◌, codes, ap, refl, sym, arith, drop, filter, get_or, length, map, take}
use Rattle.std.specs.Prelude.{◌==◌, flat_map, min}
use Rattle.std.specs.List.{take-map}
use Rattle.std.proofs.lemmas.List.{length-map, take_min, take_rest}
use Rattle.inc_answers.specs.MissingNotes.{shown}
use Rattle.inc_answers.specs.NearNames.{far, guess_text, guesses, least, more_line, or_path, path_apart, unnamed_line, unnamed_lines}
use Rattle.inc_answers.proofs.NoteLemmas.{joined, joined_as}

---- the nearest paths

-- those that are so far from a name
abbrev pub at : (name : List ℕ) → (distance : ℕ) → List (List ℕ) → List (List ℕ)
at name distance paths = filter (λ p. path_apart name p == distance) paths

---- words that have a line

-- those that have a line, and how many more there are
pub lines_added : {X : Type 0} (what : List ℕ) (paths : List (List ℕ)) (f : X → List ℕ) (xs : List X) (old x y : List ℕ) (n : ℕ) → n ≡ min 10 (length xs)
    → x ≡ old ++ flat_map (unnamed_line what paths) (map f (take n xs)) → y ≡ x ++ more_line (length xs - n) → y ≡ old ++ unnamed_lines what paths (map f xs)
lines_added {X} what paths f xs old x y n most h k =
    let first : map f (take n xs) ≡ take 10 (map f xs) =
    ap (λ (l : List X). map f l) (ap (λ (i : ℕ). take i xs) most ∙ take_min 10 xs) ∙ sym (take-map f 10 xs) in
    let more : length xs - n ≡ length (map f xs) - 10 = omega (arith, most, length-map xs f) in
    joined old (flat_map (unnamed_line what paths) (take 10 (map f xs))) (more_line (length (map f xs) - 10)) x y
    (h ∙ ap (λ (l : List (List ℕ)). old ++ flat_map (unnamed_line what paths) l) first)
    (k ∙ ap (λ (i : ℕ). x ++ more_line i) more)

---- texts

-- what a word may have meant, of which there is one
pub guess_added : {X : Type 0} (f : X → List ℕ) (xs lent : List X) (d : X) (old a b c y : List ℕ) → 0 < length xs → lent ≡ take (length xs - 1) (drop 1 xs)
    → a ≡ old ++ codes "; did you mean " → b ≡ a ++ shown (f (get_or xs 0 d)) → c ≡ b ++ flat_map or_path (map f lent) → y ≡ c ++ codes "?"
    → y ≡ old ++ guess_text (map f xs)
guess_added f [] lent d old a b c y low are h k m n = absurd (omega (arith, low))
guess_added {X} f (x ∷ xs) lent d old a b c y low are h k m n =
    let rest : lent ≡ xs = are ∙ take_rest (x ∷ xs) 1 in
    joined old (codes "; did you mean " ++ shown (f x) ++ flat_map or_path (map f xs)) (codes "?") c y
    (joined_as old (codes "; did you mean " ++ shown (f x)) (flat_map or_path (map f xs)) (flat_map or_path (map f lent)) b c
    (joined old (codes "; did you mean ") (shown (f x)) a b h k)
    m (ap (λ (l : List X). flat_map or_path (map f l)) rest))
    n

-- the line on a word
pub unnamed_added : (what word : List ℕ) (paths guessed : List (List ℕ)) (old a b c d e y : List ℕ) → guessed ≡ guesses word paths
    → a ≡ old ++ codes "incut: no such " → b ≡ a ++ what → c ≡ b ++ codes ": " → d ≡ c ++ shown word → e ≡ d ++ guess_text guessed → y ≡ e ++ 10 ∷ []
    → y ≡ old ++ unnamed_line what paths word
unnamed_added what word paths guessed old a b c d e y are h k m n o q =
    let start : List ℕ = codes "incut: no such " in
    joined old (start ++ what ++ codes ": " ++ shown word ++ guess_text (guesses word paths)) (10 ∷ []) e y
    (joined_as old (start ++ what ++ codes ": " ++ shown word) (guess_text (guesses word paths)) (guess_text guessed) d e
    (joined old (start ++ what ++ codes ": ") (shown word) c d
    (joined old (start ++ what) (codes ": ") b c (joined old start what a b h k) m) n)
    o (ap guess_text are))
    q

-- no path is further away than far
pub least_far : (name : List ℕ) (paths : List (List ℕ)) → min far (least name paths) ≡ least name paths
least_far name [] = refl
least_far name (p ∷ ps) = let below = least_far name ps in omega (arith, below)
