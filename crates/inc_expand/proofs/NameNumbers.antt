-- Names by their numbers.
use Rattle.std.proofs.Common.{◌≡◌, ◌≢◌, ℕ, suc, ◌+◌, ◌-◌, ◌*◌, ◌/◌, ◌^◌, ◌<◌, ◌≤◌, Bool, true, false, cond, not, ◌&&◌, if◌then◌else◌, nat_lt, nat_eq, eqb, List, [], ◌∷◌, ◌++◌, length, length-append, get_or, Option, None, Some, refl, sym, ap, ap₂, subst, ◌∙◌, arith, ltb-true, ltb-false, lt-ltb, eqb-true, eq-eqb, true≢false, bytes_eq, inl, inr, ◌⊎◌}
use Rattle.std.proofs.Math.Nat.{div-eq_of_lt, pow-le-pow_right}
use Rattle.std.proofs.lemmas.Bool.{cond-true, cond-false, cases_lt, eqb-false, false_from_ne_true}
use Rattle.std.proofs.lemmas.List.Folds.{position_or_len_push, list_any_at, list_any_none}
use Rattle.std.proofs.lemmas.List.Sums.{prefix_len-le-length, prefix_len_stops, fails_before_first}
use Rattle.std.proofs.lemmas.Slice.Eq.{bytes_eq-Decides}
use Rattle.std.specs.List.{list_any, position_or_len}
use Rattle.inc_expand.specs.declared.shared_sets.Node.{Node}
use Rattle.inc_expand.specs.Nodes.{node_at, has, depth_of, IsSet, IsTable}
use Rattle.inc_expand.specs.Sets.{Sets, full_depth, in_set, number_of, size, IsSound}
use Rattle.inc_expand.proofs.Sets.{node-is, has-empty}
use Rattle.inc_expand.proofs.LowNames.{in-high, in-low, no-bit}

pub full-is : full_depth ≡ 32
unfolding full_depth
full-is = refl

pub all-set : {t : List Node} → IsTable t → (n : ℕ) → n < length t + 2 → IsSet t full_depth n
all-set {t} table n l = record { known = l; depth = by (node_at t n) refl }
  where
    by : (o : Option Node) → node_at t n ≡ o → depth_of o ≤ full_depth
    by None e = omega arith
    by (Some x) e = let deep : x.level < 32 = (node-is table n x e).shallow in omega (arith, deep, full-is)

-- a set of at most 32 names is below the power of their number, and the others have a node
pub few-known : (s : Sets) (set : ℕ) → set < size s → nat_lt 32 (length s.names) ≡ false → set < 2 ^ length s.names
few-known s set known e = subst (λ m. set < m) (cond-false (nat_lt 32 (length s.names)) _ _ e) known

pub many-known : (s : Sets) (set : ℕ) → set < size s → nat_lt 32 (length s.names) ≡ true → set < (length s.nodes + 2) * 4294967296
many-known s set known e = subst (λ m. set < m) (cond-true (nat_lt 32 (length s.names)) _ _ e) known

pub few-upper : (s : Sets) (set : ℕ) → set < size s → nat_lt 32 (length s.names) ≡ false → set / 4294967296 ≡ 0
few-upper s set known e =
    let few : length s.names ≤ 32 = ltb-false _ _ e in
    let low = few-known s set known e in
    let most : 2 ^ length s.names ≤ 2 ^ 32 = pow-le-pow_right {n = 2} (omega arith) {i = length s.names} {j = 32} few in
    div-eq_of_lt (omega (arith, low, most))

module _ (s : Sets) (sound : IsSound s) (set : ℕ) (known : set < size s) where
  pub within-node : set / 4294967296 < length s.nodes + 2
  within-node = by (nat_lt 32 (length s.names)) refl
    where
      by : (b : Bool) → nat_lt 32 (length s.names) ≡ b → set / 4294967296 < length s.nodes + 2
      by true e = let l = many-known s set known e in omega (arith, l)
      by false e = let z = few-upper s set known e in omega (arith, z)

  pub known-set : IsSet s.nodes full_depth (set / 4294967296)
  known-set = all-set sound.table (set / 4294967296) within-node

  -- no set has a number that no name has
  pub has-past : (k : ℕ) → length s.names ≤ k → in_set s.nodes set k ≡ false
  has-past k far = by (nat_lt 32 (length s.names)) refl
    where
      by : (b : Bool) → nat_lt 32 (length s.names) ≡ b → in_set s.nodes set k ≡ false
      by true e =
          let many : 32 < length s.names = ltb-true _ _ e in
          in-high s.nodes set k (omega (arith, far, many))
          ∙ false_from_ne_true _ (λ h. let l : k - 32 < suc (length s.names - 33) = sound.below full_depth (set / 4294967296) (k - 32) known-set h in absurd (omega (arith, l, far, many)))
      by false e = there (cases_lt k 32)
        where
          there : (k < 32) ⊎ (32 ≤ k) → in_set s.nodes set k ≡ false
          there (inl l) = in-low s.nodes set k l ∙ ap (λ n. nat_eq n 1) (no-bit set (length s.names) k (few-known s set known e) far)
          there (inr l) = in-high s.nodes set k l ∙ ap (λ n. has s.nodes full_depth n (k - 32)) (few-upper s set known e) ∙ has-empty s.nodes full_depth (k - 32)

not-false : (b : Bool) → not b ≡ false → b ≡ true
not-false true e = refl
not-false false e = absurd (true≢false e)

pub and-false : (a b : Bool) → b ≡ false → (a && b) ≡ false
and-false true b e = e
and-false false b e = refl

pub same-bytes : (x : List ℕ) → bytes_eq x x ≡ true
same-bytes x = (bytes_eq-Decides x x).1 refl

-- a name that was seen is at its number
found : (names : List (List ℕ)) (x : List ℕ) → number_of names x < length names → x ≡ get_or names (number_of names x) []
found names x l = (bytes_eq-Decides x _).0 (not-false _ (prefix_len_stops (λ n. not (bytes_eq x n)) names [] l))

pub any_or_len : (p : List ℕ → Bool) (xs : List (List ℕ)) → list_any p xs ≡ nat_lt (position_or_len p xs) (length xs)
any_or_len p xs = by (nat_lt (position_or_len p xs) (length xs)) refl
  where
    by : (b : Bool) → nat_lt (position_or_len p xs) (length xs) ≡ b → list_any p xs ≡ b
    by true e = list_any_at p xs (position_or_len p xs) [] (ltb-true _ _ e) (not-false _ (prefix_len_stops (λ n. not (p n)) xs [] (ltb-true _ _ e)))
    by false e = let past : length xs ≤ position_or_len p xs = ltb-false _ _ e in list_any_none p xs (λ k d l. fails_before_first p xs k d (omega (arith, past, l)))

-- the names after one is seen
module _ (names : List (List ℕ)) (name : List ℕ) where
  abbrev pub names_with : Bool → List (List ℕ)
  names_with there = if there then names else names ++ name ∷ []

  at-most : (x : List ℕ) → number_of names x ≤ length names
  at-most x = prefix_len-le-length (λ n. not (bytes_eq x n)) names

  pushed : length (names ++ name ∷ []) ≡ length names + 1
  pushed = length-append names (name ∷ [])

  pub name-stays : (there : Bool) → nat_lt (number_of names name) (length names) ≡ there → number_of (names_with there) name ≡ number_of names name
  name-stays true e = refl
  name-stays false e =
      let past : length names ≤ number_of names name = ltb-false _ _ e in
      let low = at-most name in
      let last : number_of names name ≡ length names = omega (arith, past, low) in
      position_or_len_push (λ n. bytes_eq name n) names name ∙ cond-true _ _ _ (eq-eqb _ _ last)
      ∙ ap (λ b. length names + cond b 0 1) (same-bytes name) ∙ (let z : length names + 0 ≡ number_of names name = omega (arith, last) in z)

  pub name-within : (there : Bool) → nat_lt (number_of names name) (length names) ≡ there → number_of names name < length (names_with there)
  name-within true e = ltb-true _ _ e
  name-within false e = let low = at-most name in omega (arith, pushed, low)

  -- what each name answers stays, where no number past the names passes
  pub answers-stay : (there : Bool) (x : List ℕ) (f : ℕ → Bool) → ((k : ℕ) → length names ≤ k → f k ≡ false)
      → (nat_lt (number_of (names_with there) x) (length (names_with there)) && f (number_of (names_with there) x)) ≡ (nat_lt (number_of names x) (length names) && f (number_of names x))
  answers-stay true x f past = refl
  answers-stay false x f past = by (eqb (number_of names x) (length names)) refl
    where
      at-push : number_of (names ++ name ∷ []) x ≡ cond (eqb (number_of names x) (length names)) (length names + cond (bytes_eq x name) 0 1) (number_of names x)
      at-push = position_or_len_push (λ n. bytes_eq x n) names name

      by : (b : Bool) → eqb (number_of names x) (length names) ≡ b
          → (nat_lt (number_of (names ++ name ∷ []) x) (length (names ++ name ∷ [])) && f (number_of (names ++ name ∷ []) x)) ≡ (nat_lt (number_of names x) (length names) && f (number_of names x))
      by true e =
          let last : number_of names x ≡ length names = eqb-true _ _ e in
          let far : length names ≤ number_of (names ++ name ∷ []) x = let p : number_of (names ++ name ∷ []) x ≡ length names + cond (bytes_eq x name) 0 1 = at-push ∙ cond-true _ _ _ e in omega (arith, p) in
          and-false _ _ (past _ far) ∙ sym (and-false _ _ (past (number_of names x) (omega (arith, last))))
      by false e =
          let other : number_of names x ≢ length names = eqb-false _ _ e in
          let low = at-most x in
          let p : number_of (names ++ name ∷ []) x ≡ number_of names x = at-push ∙ cond-false _ _ _ e in
          let here : nat_lt (number_of names x) (length names) ≡ true = lt-ltb _ _ (omega (arith, other, low)) in
          let there : nat_lt (number_of (names ++ name ∷ []) x) (length (names ++ name ∷ [])) ≡ true = lt-ltb _ _ (omega (arith, other, low, p, pushed)) in
          ap₂ (λ (a b : Bool). a && b) (there ∙ sym here) (ap f p)

-- the new number tells the name
pub tells-name : (names : List (List ℕ)) (name x : List ℕ) (number : ℕ) → number_of names name ≡ number → number < length names → (nat_lt (number_of names x) (length names) && nat_eq (number_of names x) number) ≡ bytes_eq x name
tells-name names name x number is l = by (bytes_eq x name) refl
  where
    by : (b : Bool) → bytes_eq x name ≡ b → (nat_lt (number_of names x) (length names) && nat_eq (number_of names x) number) ≡ b
    by true e =
        let same : number_of names x ≡ number = ap (number_of names) ((bytes_eq-Decides x name).0 e) ∙ is in
        let a : nat_lt (number_of names x) (length names) ≡ true = lt-ltb _ _ (omega (arith, same, l)) in
        ap₂ (λ (a b : Bool). a && b) a (eq-eqb _ _ same)
    by false e = there (nat_lt (number_of names x) (length names)) (nat_eq (number_of names x) number) refl refl
      where
        there : (a b : Bool) → nat_lt (number_of names x) (length names) ≡ a → nat_eq (number_of names x) number ≡ b → (a && b) ≡ false
        there false b p q = refl
        there true false p q = refl
        there true true p q =
            let own : number_of names x ≡ number_of names name = eqb-true _ _ q ∙ sym is in
            let low : number_of names name < length names = omega (arith, is, l) in
            let same : x ≡ name = found names x (ltb-true _ _ p) ∙ ap (λ n. get_or names n []) own ∙ sym (found names name low) in
            absurd (true≢false (sym ((bytes_eq-Decides x name).1 same) ∙ e))
