-- A list in two parts: the place of an element, whether an element is there, and whether two such lists are the same.
use Rattle.std.proofs.Common.{◌≡◌, ℕ, suc, ◌+◌, ◌≤◌, ◌<◌, ◌&&◌, ◌||◌, Bool, true, false, List, [], ◌∷◌, ◌++◌, Option, Some, None, length, is_some, option_map, position, bytes_eq, refl, sym, ap, ◌∙◌, arith, ⊎_elim}
use Rattle.std.specs.Cmp.Lexicographic.{pointwise}
use Rattle.std.specs.List.{position_from}
use Rattle.std.proofs.lemmas.Bool.{cases_Bool, cases_lt}
use Rattle.std.proofs.lemmas.List.{length-append}
use Rattle.std.proofs.lemmas.Iterator.Adapters.{position_from-zero}
use Rattle.inc_macro.specs.Macros.{is_among, same_names}
use Rattle.inc_macro.proofs.GoodNames.{is_among-append}
use Rattle.inc_macro.proofs.Positions.{is_some-position}
use Rattle.inc_macro.proofs.SameBodies.{same_names-is}

module _ {X : Type 0} (p : X → Bool) where
  from-found : (i k : ℕ) (xs ys : List X) → position_from p i xs ≡ Some k → position_from p i (xs ++ ys) ≡ Some k
  from-found i k [] ys is = cc
  from-found i k (x ∷ xs) ys is =
      ⊎_elim (λ (here : p x ≡ true). let found : Some i ≡ Some k = rw here at is in rw here found)
      (λ (other : p x ≡ false). let rest : position_from p (i + 1) xs ≡ Some k = rw other at is in rw other (from-found (i + 1) k xs ys rest))
      (cases_Bool (p x))

  from-missed : (i j : ℕ) (xs ys : List X) → j ≡ i + length xs → position_from p i xs ≡ None → position_from p i (xs ++ ys) ≡ position_from p j ys
  from-missed i j [] ys end none = ap (λ n. position_from p n ys) (omega (arith, end))
  from-missed i j (x ∷ xs) ys end none =
      ⊎_elim (λ (here : p x ≡ true). let found : Some i ≡ None = rw here at none in cc)
      (λ (other : p x ≡ false).
      let rest : position_from p (i + 1) xs ≡ None = rw other at none in
      rw other (from-missed (i + 1) j xs ys (omega (arith, end)) rest))
      (cases_Bool (p x))

  from-later : (n i j : ℕ) (ys : List X) → j ≡ n + i → position_from p j ys ≡ option_map (λ k. n + k) (position_from p i ys)
  from-later n i j [] is = refl
  from-later n i j (y ∷ ys) is =
      ⊎_elim (λ (here : p y ≡ true). rw here (ap (λ k. Some k) is))
      (λ (other : p y ≡ false). rw other (from-later n (i + 1) (j + 1) ys (omega (arith, is))))
      (cases_Bool (p y))

  pub position-found : (k : ℕ) (xs ys : List X) → position p xs ≡ Some k → position p (xs ++ ys) ≡ Some k
  position-found k xs ys is = position_from-zero p (xs ++ ys) ∙ from-found 0 k xs ys (sym (position_from-zero p xs) ∙ is)

  pub position-missed : (xs ys : List X) → position p xs ≡ None → position p (xs ++ ys) ≡ option_map (λ k. length xs + k) (position p ys)
  position-missed xs ys none =
      position_from-zero p (xs ++ ys) ∙ from-missed 0 (0 + length xs) xs ys refl (sym (position_from-zero p xs) ∙ none)
      ∙ from-later (length xs) 0 (0 + length xs) ys (omega arith)
      ∙ ap (λ o. option_map (λ k. length xs + k) o) (sym (position_from-zero p ys))

-- a name that is not in the first part is in the list where it is in the second
pub among-found : (name : List ℕ) (xs ys : List (List ℕ)) → is_some (position (bytes_eq name) xs) ≡ true → is_among name (xs ++ ys) ≡ true
among-found name xs ys is =
    is_among-append name xs ys ∙ ap (λ b. b || is_among name ys) (sym (is_some-position (bytes_eq name) xs) ∙ is)

pub among-missed : (name : List ℕ) (xs ys : List (List ℕ)) → is_some (position (bytes_eq name) xs) ≡ false → is_among name (xs ++ ys) ≡ is_among name ys
among-missed name xs ys is =
    is_among-append name xs ys ∙ ap (λ b. b || is_among name ys) (sym (is_some-position (bytes_eq name) xs) ∙ is)

-- lists that are split at the same length, unless one ends before

and_assoc : (a b d : Bool) → ((a && b) && d) ≡ (a && (b && d))
and_assoc true b d = refl
and_assoc false b d = refl

and_none : (b : Bool) → (b && false) ≡ false
and_none true = refl
and_none false = refl

names-append : (f g m n : List (List ℕ)) → length f ≡ length g → (same_names f g && same_names m n) ≡ same_names (f ++ m) (g ++ n)
names-append [] [] m n len = refl
names-append [] (y ∷ g) m n len = absurd (omega (arith, len))
names-append (x ∷ f) [] m n len = absurd (omega (arith, len))
names-append (x ∷ f) (y ∷ g) m n len =
    and_assoc (bytes_eq x y) (same_names f g) (same_names m n) ∙ ap (λ b. bytes_eq x y && b) (names-append f g m n (omega (arith, len)))

names-differ : (f g : List (List ℕ)) → (length f ≡ length g → ⊥) → same_names f g ≡ false
names-differ [] [] other = absurd (other refl)
names-differ [] (y ∷ g) other = refl
names-differ (x ∷ f) [] other = refl
names-differ (x ∷ f) (y ∷ g) other = rw (names-differ f g (λ is. other (ap suc is))) (and_none (bytes_eq x y))

ends_before : (f g m n : List (List ℕ)) → length f < length g → length g ≤ 8 → (length f < 8 → m ≡ []) → (length (f ++ m) ≡ length (g ++ n) → ⊥)
ends_before f g m n less few none is =
    let empty : length m ≡ 0 = ap length (none (omega (arith, less, few))) in
    omega (arith, less, empty, is, length-append f m, length-append g n)

both_none : (f g m n : List (List ℕ)) → same_names f g ≡ false → same_names (f ++ m) (g ++ n) ≡ false → (same_names f g && same_names m n) ≡ same_names (f ++ m) (g ++ n)
both_none f g m n parts whole = ap (λ b. b && same_names m n) parts ∙ sym whole

pub names-split : (f g m n : List (List ℕ)) → length f ≤ 8 → length g ≤ 8 → (length f < 8 → m ≡ []) → (length g < 8 → n ≡ [])
    → (same_names f g && same_names m n) ≡ same_names (f ++ m) (g ++ n)
names-split f g m n few_f few_g none_m none_n =
    ⊎_elim (λ (less : length f < length g).
    both_none f g m n (names-differ f g (λ is. omega (arith, less, is))) (names-differ (f ++ m) (g ++ n) (ends_before f g m n less few_g none_m)))
    (λ (least : length g ≤ length f).
    ⊎_elim (λ (more : length g < length f).
    both_none f g m n (names-differ f g (λ is. omega (arith, more, is)))
    (names-differ (f ++ m) (g ++ n) (λ is. ends_before g f n m more few_f none_n (sym is))))
    (λ (most : length f ≤ length g). names-append f g m n (omega (arith, least, most)))
    (cases_lt (length g) (length f)))
    (cases_lt (length f) (length g))

-- the same by the code's test
pub same-by : (a b ks ls : List (List ℕ)) (t : Bool) → ks ≡ a → ls ≡ b → t ≡ pointwise bytes_eq ks ls → t ≡ same_names a b
same-by a b ks ls t left right is = is ∙ ap (λ x. pointwise bytes_eq x ls) left ∙ ap (λ x. pointwise bytes_eq a x) right ∙ sym (same_names-is a b)

-- two such lists by the test of their first parts
pub parts-by : (f g m n a b ks ls : List (List ℕ)) (t : Bool) → length f ≤ 8 → length g ≤ 8 → (length f < 8 → m ≡ []) → (length g < 8 → n ≡ [])
    → f ++ m ≡ a → g ++ n ≡ b → ks ≡ f → ls ≡ g → t ≡ pointwise bytes_eq ks ls → (t && same_names m n) ≡ same_names a b
parts-by f g m n a b ks ls t few_f few_g none_m none_n one two left right is =
    ap (λ x. x && same_names m n) (same-by f g ks ls t left right is) ∙ names-split f g m n few_f few_g none_m none_n
    ∙ ap (λ x. same_names x (g ++ n)) one ∙ ap (λ x. same_names a x) two

-- whether a name is in the first part, by the code's test
pub first-by : (name : List ℕ) (ks firsts : List (List ℕ)) (o : Option ℕ) (t b : Bool) → ks ≡ firsts → o ≡ position (bytes_eq name) ks → t ≡ is_some o → t ≡ b
    → is_some (position (bytes_eq name) firsts) ≡ b
first-by name ks firsts o t b same place is value =
    ap (λ (x : List (List ℕ)). is_some (position (bytes_eq name) x)) (sym same) ∙ ap (λ (x : Option ℕ). is_some x) (sym place) ∙ sym is ∙ value

-- the place of a name that is not in the first part
pub missed-by : (name : List ℕ) (ks firsts more all : List (List ℕ)) → ks ≡ firsts → None ≡ position (bytes_eq name) ks → firsts ++ more ≡ all
    → option_map (λ k. length firsts + k) (position (bytes_eq name) more) ≡ position (bytes_eq name) all
missed-by name ks firsts more all same none joined =
    sym (position-missed (bytes_eq name) firsts more (ap (λ (x : List (List ℕ)). position (bytes_eq name) x) (sym same) ∙ sym none))
    ∙ ap (λ (x : List (List ℕ)). position (bytes_eq name) x) joined
