-- Texts that are put together piece by piece, and lists with a comma between two items.
use Rattle.std.proofs.Common.{◌≡◌, ◌∙◌, ℕ, zero, suc, ◌+◌, ◌<◌, List, [], ◌∷◌, ◌++◌, Result, Ok, Err, OnOk, ap, arith, codes, drop, get_or, length, map, refl, subst, sym}
use Rattle.std.specs.Prelude.{flat_map}
use Rattle.std.proofs.lemmas.List.{append-nil, append_assoc, drop_more}
use Rattle.inc_answers.specs.JsonTexts.{comma_at, items_text, list_of}

-- a piece more
pub and_then : (old x y a b : List ℕ) → x ≡ old ++ a → y ≡ x ++ b → y ≡ old ++ (a ++ b)
and_then old x y a b h k = k ∙ ap (λ (l : List ℕ). l ++ b) h ∙ append_assoc old a b

-- the items that are left, of which the first has this place
abbrev pub items_from : (place : ℕ) → List (List ℕ) → List ℕ
items_from zero items = items_text items
items_from (suc n) items = flat_map (λ y. codes "," ++ y) items

-- one of them, and the rest
pub items_next : (place : ℕ) (x : List ℕ) (xs : List (List ℕ)) → items_from place (x ∷ xs) ≡ (comma_at place ++ x) ++ items_from 1 xs
items_next zero x xs = refl
items_next (suc n) x xs = refl

-- a place after another is not the first
pub items_later : (place next : ℕ) (xs : List (List ℕ)) → next ≡ place + 1 → items_from 1 xs ≡ items_from next xs
items_later place next xs is =
    let later : suc place ≡ next = omega (arith, is) in
    ap (λ n. items_from n xs) later

-- none is left
pub items_done : (place : ℕ) → items_from place [] ≡ []
items_done zero = refl
items_done (suc n) = refl

---- lists whose items are found one after the other

-- one item more
pub item_more : {X : Type 0} (f : X → List ℕ) (text new end : List ℕ) (place : ℕ) (x : X) (xs left : List X) → left ≡ x ∷ xs → new ≡ text ++ (comma_at place ++ f x)
    → text ++ items_from place (map f left) ≡ end → new ++ items_from 1 (map f xs) ≡ end
item_more f text new end place x xs left is put so_far =
    ap (λ (t : List ℕ). t ++ items_from 1 (map f xs)) put ∙ append_assoc text (comma_at place ++ f x) (items_from 1 (map f xs))
    ∙ ap (λ (t : List ℕ). text ++ t) (sym (items_next place (f x) (map f xs)))
    ∙ ap (λ (ys : List _). text ++ items_from place (map f ys)) (sym is) ∙ so_far

-- once none is left the list is closed
pub list_made : {X : Type 0} (f : X → List ℕ) (old text new : List ℕ) (place : ℕ) (xs left : List X) → left ≡ []
    → text ++ items_from place (map f left) ≡ (old ++ codes "[") ++ items_text (map f xs) → new ≡ text ++ codes "]" → new ≡ old ++ list_of (map f xs)
list_made f old text new place xs left none made closed =
    let whole : text ≡ (old ++ codes "[") ++ items_text (map f xs) =
    sym (append-nil text) ∙ ap (λ (t : List ℕ). text ++ t) (sym (items_done place)) ∙ ap (λ (ys : List _). text ++ items_from place (map f ys)) (sym none) ∙ made in
    closed ∙ ap (λ (t : List ℕ). t ++ codes "]") whole ∙ append_assoc (old ++ codes "[") (items_text (map f xs)) (codes "]")
    ∙ append_assoc old (codes "[") (items_text (map f xs) ++ codes "]")
