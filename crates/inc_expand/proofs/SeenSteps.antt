-- Names in two parts: the number of a name, and the names after one is seen.
use Rattle.std.proofs.Common.{◌≡◌, ℕ, zero, suc, ◌+◌, ◌<◌, ◌≤◌, Bool, true, false, cond, not, if◌then◌else◌, nat_lt, List, [], ◌∷◌, ◌++◌, length, length-append, append_assoc, get_or, slice_get, Option, Some, None, option_map, position, refl, sym, ap, ap₂, ◌∙◌, arith, ltb-true, ltb-false, lt-ltb, le-ltb, bytes_eq}
use Rattle.std.proofs.lemmas.Bool.{cond-true, cond-false}
use Rattle.std.proofs.lemmas.List.{append-nil, length-map, map-append}
use Rattle.std.proofs.lemmas.Option.{get_or_from_slice_get, slice_get_within}
use Rattle.std.proofs.lemmas.Slice.Eq.{bytes_eq-Decides}
use Rattle.std.proofs.lemmas.List.Sums.{prefix_len-le-length}
use Rattle.inc_expand.specs.declared.name_keys.Name.{Name}
use Rattle.inc_expand.specs.Sets.{number_of, names_after, names_in, HaveOwn, IsNumber}
use Rattle.inc_expand.proofs.Tables.{position-map}
use Rattle.inc_macro.proofs.JoinedNames.{position-found, position-missed}

---- a name that is there

pub number-at : (names : List (List ℕ)) (k : ℕ) (y x : List ℕ) → HaveOwn names → slice_get names k ≡ Some y → bytes_eq y x ≡ true → IsNumber names k x
number-at names k y x own e h =
    let l : k < length names = slice_get_within names k y e in
    let same : get_or names k [] ≡ x = get_or_from_slice_get names k y [] e ∙ (bytes_eq-Decides y x).0 h in
    (l, ap (number_of names) (sym same) ∙ own k l)

pub position-at : (names : List (List ℕ)) (x : List ℕ) (k : ℕ) → IsNumber names k x → Some k ≡ position (bytes_eq x) names
position-at names x k h =
    let at = h.1 in
    ap (λ n. Some n) (sym at) ∙ sym (cond-true (nat_lt (number_of names x) (length names)) (Some (number_of names x)) None (lt-ltb _ _ (omega (arith, h.0, at))))

pub number-there : (names : List (List ℕ)) (x : List ℕ) (k : ℕ) → Some k ≡ position (bytes_eq x) names → IsNumber names k x
number-there names x k e = by (nat_lt (number_of names x) (length names)) refl e
  where
    by : (b : Bool) → nat_lt (number_of names x) (length names) ≡ b → Some k ≡ cond b (Some (number_of names x)) None → IsNumber names k x
    by true h f = let same : k ≡ number_of names x = cc in let l : number_of names x < length names = ltb-true _ _ h in (omega (arith, same, l), sym same)
    by false h f = cc

pub none-there : (names : List (List ℕ)) (x : List ℕ) → None ≡ position (bytes_eq x) names → length names ≤ number_of names x
none-there names x e = by (nat_lt (number_of names x) (length names)) refl e
  where
    by : (b : Bool) → nat_lt (number_of names x) (length names) ≡ b → None ≡ cond b (Some (number_of names x)) None → length names ≤ number_of names x
    by true h f = cc
    by false h f = ltb-false _ _ h

---- two parts

pub get-first : (a b : List (List ℕ)) (k : ℕ) (x : List ℕ) → slice_get a k ≡ Some x → slice_get (a ++ b) k ≡ Some x
get-first [] b k x e = cc
get-first (y ∷ a) b zero x e = e
get-first (y ∷ a) b (suc k) x e = get-first a b k x e

pub get-later : (a b : List (List ℕ)) (i k : ℕ) → i ≡ length a + k → slice_get (a ++ b) i ≡ slice_get b k
get-later [] b i k e = ap (slice_get b) (omega (arith, e))
get-later (y ∷ a) b zero k e = absurd (omega (arith, e))
get-later (y ∷ a) b (suc i) k e = get-later a b i k (omega (arith, e))

-- the first part does not have the name
module _ (b : List (List ℕ)) (x : List ℕ) where
  pub number-later : (a : List (List ℕ)) → length a ≤ number_of a x → number_of (a ++ b) x ≡ length a + number_of b x
  number-later [] none = omega arith
  number-later (y ∷ a) none = by (bytes_eq x y) none (λ l. number-later a l)
    where
      by : (t : Bool) → suc (length a) ≤ cond (not t) (1 + number_of a x) 0 → (length a ≤ number_of a x → number_of (a ++ b) x ≡ length a + number_of b x) →
          cond (not t) (1 + number_of (a ++ b) x) 0 ≡ suc (length a) + number_of b x
      by true l again = absurd (omega (arith, l))
      by false l again = let later : number_of (a ++ b) x ≡ length a + number_of b x = again (omega (arith, l)) in omega (arith, later)

  pub names-later : (a : List (List ℕ)) → length a ≤ number_of a x → a ++ names_after b x ≡ names_after (a ++ b) x
  names-later a none = by (nat_lt (number_of b x) (length b)) refl
    where
      later : number_of (a ++ b) x ≡ length a + number_of b x
      later = number-later a none

      long : length (a ++ b) ≡ length a + length b
      long = length-append a b

      by : (t : Bool) → nat_lt (number_of b x) (length b) ≡ t → a ++ (if t then b else b ++ x ∷ []) ≡ names_after (a ++ b) x
      by true e =
          let l : number_of b x < length b = ltb-true _ _ e in
          sym (cond-true (nat_lt (number_of (a ++ b) x) (length (a ++ b))) (a ++ b) ((a ++ b) ++ x ∷ []) (lt-ltb _ _ (omega (arith, l, later, long))))
      by false e =
          let l : length b ≤ number_of b x = ltb-false _ _ e in
          sym (append_assoc a b (x ∷ [])) ∙ sym (cond-false (nat_lt (number_of (a ++ b) x) (length (a ++ b))) (a ++ b) ((a ++ b) ++ x ∷ []) (le-ltb _ _ (omega (arith, l, later, long))))

---- names that are kept in two lists

-- a look-up in a list that is lent
pub looked-up : (x : List ℕ) (lent items : List Name) (o : Option ℕ) → lent ≡ items → o ≡ position (λ (r : Name). bytes_eq x r.bytes.now) lent →
    o ≡ position (λ (r : Name). bytes_eq x r.bytes.now) items
looked-up x lent items o same e = e ∙ ap (λ (ks : List Name). position (λ (r : Name). bytes_eq x r.bytes.now) ks) same

module _ (x : List ℕ) (first more : List Name) (all : List (List ℕ)) (joined : names_in first ++ names_in more ≡ all) where
  -- the name is in the first list
  pub place-first : (k : ℕ) → Some k ≡ position (λ (r : Name). bytes_eq x r.bytes.now) first → Some k ≡ position (bytes_eq x) all
  place-first k e =
      sym (position-found (bytes_eq x) k (names_in first) (names_in more) (sym (position-map x first) ∙ sym e)) ∙ ap (λ (ns : List (List ℕ)). position (bytes_eq x) ns) joined

  -- it is not
  module _ (none : None ≡ position (λ (r : Name). bytes_eq x r.bytes.now) first) where
    absent : None ≡ position (bytes_eq x) (names_in first)
    absent = none ∙ position-map x first

    pub place-later : (o : Option ℕ) → o ≡ position (λ (r : Name). bytes_eq x r.bytes.now) more → option_map (λ k. length first + k) o ≡ position (bytes_eq x) all
    place-later o e =
        ap₂ (λ (n : ℕ) (p : Option ℕ). option_map (λ k. n + k) p) (sym (length-map first (λ (r : Name). r.bytes.now))) (e ∙ position-map x more)
        ∙ sym (position-missed (bytes_eq x) (names_in first) (names_in more) (sym absent)) ∙ ap (λ (ns : List (List ℕ)). position (bytes_eq x) ns) joined

    pub number-more : (k : ℕ) → k ≡ number_of (names_in more) x → length first + k ≡ number_of all x
    number-more k e =
        let later = number-later (names_in more) x (names_in first) (none-there (names_in first) x absent) in
        let long = length-map first (λ (r : Name). r.bytes.now) in
        let here : length first + k ≡ number_of (names_in first ++ names_in more) x = omega (arith, later, long, e) in
        here ∙ ap (λ (ns : List (List ℕ)). number_of ns x) joined

    pub names-more : (ns : List (List ℕ)) → ns ≡ names_after (names_in more) x → names_in first ++ ns ≡ names_after all x
    names-more ns e =
        ap (λ (ms : List (List ℕ)). names_in first ++ ms) e ∙ names-later (names_in more) x (names_in first) (none-there (names_in first) x absent)
        ∙ ap (λ (ms : List (List ℕ)). names_after ms x) joined

    pub sum-fits : (k : ℕ) → k ≡ number_of (names_in more) x → length first + k ≤ length all
    sum-fits k e =
        let long = length-map first (λ (r : Name). r.bytes.now) in
        let most = prefix_len-le-length (λ n. not (bytes_eq x n)) (names_in more) in
        let both = length-append (names_in first) (names_in more) in
        let same = ap length joined in
        omega (arith, long, most, both, same, e)

    -- it is put at the end of the first list, and no other list is there
    pub names-pushed : (n : Name) (pushed : List Name) → n.bytes.now ≡ x → pushed ≡ first ++ n ∷ [] → more ≡ [] → names_in pushed ++ names_in more ≡ names_after all x
    names-pushed n pushed is e empty =
        ap₂ (λ (ks ms : List Name). names_in ks ++ names_in ms) e empty ∙ append-nil (names_in (first ++ n ∷ []))
        ∙ map-append (λ (r : Name). r.bytes.now) first (n ∷ []) ∙ ap (λ (y : List ℕ). names_in first ++ y ∷ []) is
        ∙ names-more (x ∷ []) (sym (ap (λ (ks : List Name). names_after (names_in ks) x) empty))
