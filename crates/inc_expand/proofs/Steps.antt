-- One step of the functions that go down two halves.
use Rattle.std.proofs.Common.{◌≡◌, ℕ, suc, ◌-◌, ◌^◌, ◌<◌, ◌≤◌, Bool, true, false, ◌||◌, ◌&&◌, if◌then◌else◌, nat_lt, nat_eq, List, refl, sym, ap, ap₂, subst, ◌∙◌, arith, ltb-true, ltb-false, eqb-true, eq-eqb, lt-ltb, true≢false, inl, inr, ◌⊎◌}
use Rattle.std.proofs.lemmas.Bool.{false_from_ne_true}
use Rattle.inc_expand.specs.declared.shared_sets.Node.{Node}
use Rattle.inc_expand.specs.Nodes.{left_half, right_half, has, has_in, IsSet, IsTable, Grows, IsPair, Gives, AllBelow}
use Rattle.inc_expand.proofs.Sets.{left-set, right-set, keep-has, has-empty}

-- the depth that the code has is one more than that of the halves
module _ {t : List Node} (table : IsTable t) (depth d n : ℕ) (e : suc d ≡ depth) (s : IsSet t depth n) where
  pub left-below : (l : ℕ) → l ≡ left_half t d n → IsSet t d l
  left-below l is = subst (IsSet t d) (sym is) (left-set table d n (subst (λ f. IsSet t f n) (sym e) s))

  pub right-below : (r : ℕ) → r ≡ right_half t d n → IsSet t d r
  right-below r is = subst (IsSet t d) (sym is) (right-set table d n (subst (λ f. IsSet t f n) (sym e) s))

-- what a set has, by its halves
pub has-halves : (t : List Node) (depth d n l r : ℕ) → suc d ≡ depth → l ≡ left_half t d n → r ≡ right_half t d n → (k : ℕ) → has t depth n k ≡ has_in t d l r k
has-halves t depth d n l r e left right k =
    ap (λ f. has t f n k) (sym e)
    ∙ ap₂ (λ (a b : Bool). if nat_lt k (2 ^ d) then a else b) (ap (λ m. has t d m k) (sym left)) (ap (λ m. has t d m (k - 2 ^ d)) (sym right))

-- a set of two halves passes the test that they pass
pub gives-pair : (test : ℕ → Bool) {u v : List Node} (depth d l r n : ℕ) → suc d ≡ depth → IsTable u → Grows u v → IsSet u d l → IsSet u d r → IsPair v d l r n → ((k : ℕ) → has_in u d l r k ≡ test k) → Gives test v depth n
gives-pair test {u} {v} depth d l r n e table g left right pair is =
    subst (λ f. Gives test v f n) e (record {
      set = pair.set;
      members = λ k.
          ap₂ (λ (a b : Bool). if nat_lt k (2 ^ d) then a else b)
          (ap (λ m. has v d m k) pair.left ∙ keep-has g table d l k left)
          (ap (λ m. has v d m (k - 2 ^ d)) pair.right ∙ keep-has g table d r (k - 2 ^ d) right)
          ∙ is k;
    })

or-false : (a b : Bool) → b ≡ false → (a || b) ≡ a
or-false true b e = refl
or-false false b e = e

or-either : (a b : Bool) → (a || b) ≡ true → (a ≡ true) ⊎ (b ≡ true)
or-either true b e = inl refl
or-either false b e = inr e

and-either : (a b : Bool) → (a && b) ≡ true → (a ≡ true) ⊎ (b ≡ true)
and-either true b e = inl refl
and-either false b e = inl e

-- one number more
module _ {t u : List Node} (table : IsTable t) (g : Grows t u) (depth d n l r number more : ℕ) (e : suc d ≡ depth) (s : IsSet t depth n)
    (left : l ≡ left_half t d n) (right : r ≡ right_half t d n) where
  pub with-low : number < 2 ^ d → Gives (λ k. has t d l k || nat_eq k number) u d more → (k : ℕ) → has_in u d more r k ≡ (has t depth n k || nat_eq k number)
  with-low low gives k =
      by (nat_lt k (2 ^ d)) refl ∙ ap (λ b. b || nat_eq k number) (sym (has-halves t depth d n l r e left right k))
    where
      by : (c : Bool) → nat_lt k (2 ^ d) ≡ c → (if c then has u d more k else has u d r (k - 2 ^ d)) ≡ ((if c then has t d l k else has t d r (k - 2 ^ d)) || nat_eq k number)
      by true h = gives.members k
      by false h =
          let far : 2 ^ d ≤ k = ltb-false _ _ h in
          let no : nat_eq k number ≡ false = false_from_ne_true _ (λ yes. let same : k ≡ number = eqb-true _ _ yes in absurd (omega (arith, far, same, low))) in
          keep-has g table d r (k - 2 ^ d) (right-below table depth d n e s r right) ∙ sym (or-false _ _ no)

  pub with-high : 2 ^ d ≤ number → Gives (λ k. has t d r k || nat_eq k (number - 2 ^ d)) u d more → (k : ℕ) → has_in u d l more k ≡ (has t depth n k || nat_eq k number)
  with-high high gives k =
      by (nat_lt k (2 ^ d)) refl ∙ ap (λ b. b || nat_eq k number) (sym (has-halves t depth d n l r e left right k))
    where
      moved : 2 ^ d ≤ k → (c : Bool) → nat_eq k number ≡ c → nat_eq (k - 2 ^ d) (number - 2 ^ d) ≡ c
      moved far true h = eq-eqb _ _ (ap (λ m. m - 2 ^ d) (eqb-true _ _ h))
      moved far false h = false_from_ne_true _ (λ yes. let same : k - 2 ^ d ≡ number - 2 ^ d = eqb-true _ _ yes in let back : k ≡ number = omega (arith, same, far, high) in true≢false (sym (eq-eqb _ _ back) ∙ h))

      by : (c : Bool) → nat_lt k (2 ^ d) ≡ c → (if c then has u d l k else has u d more (k - 2 ^ d)) ≡ ((if c then has t d l k else has t d r (k - 2 ^ d)) || nat_eq k number)
      by true h =
          let near : k < 2 ^ d = ltb-true _ _ h in
          let no : nat_eq k number ≡ false = false_from_ne_true _ (λ yes. let same : k ≡ number = eqb-true _ _ yes in absurd (omega (arith, near, same, high))) in
          keep-has g table d l k (left-below table depth d n e s l left) ∙ sym (or-false _ _ no)
      by false h = gives.members (k - 2 ^ d) ∙ ap (λ b. has t d r (k - 2 ^ d) || b) (moved (ltb-false _ _ h) (nat_eq k number) refl)

pub with-below : {t : List Node} (top depth n number k : ℕ) → AllBelow top t → IsSet t depth n → number < top → (has t depth n k || nat_eq k number) ≡ true → k < top
with-below {t} top depth n number k below s low known = by (or-either (has t depth n k) (nat_eq k number) known)
  where
    by : (has t depth n k ≡ true) ⊎ (nat_eq k number ≡ true) → k < top
    by (inl h) = below depth n k s h
    by (inr h) = let same : k ≡ number = eqb-true _ _ h in omega (arith, same, low)

-- two sets into one
module _ (op : Bool → Bool → Bool) {t u w : List Node} (table : IsTable t) (g : Grows t u) (h : Grows u w) (depth d a b al ar bl br l r : ℕ) (e : suc d ≡ depth)
    (a-set : IsSet t depth a) (b-set : IsSet t depth b)
    (a-left : al ≡ left_half t d a) (a-right : ar ≡ right_half t d a) (b-left : bl ≡ left_half t d b) (b-right : br ≡ right_half t d b)
    (low : Gives (λ k. op (has t d al k) (has t d bl k)) u d l) (high : Gives (λ k. op (has u d ar k) (has u d br k)) w d r) where
  pub both-halves : (k : ℕ) → has_in w d l r k ≡ op (has t depth a k) (has t depth b k)
  both-halves k =
      by (nat_lt k (2 ^ d)) ∙ ap₂ op (sym (has-halves t depth d a al ar e a-left a-right k)) (sym (has-halves t depth d b bl br e b-left b-right k))
    where
      by : (c : Bool) → (if c then has w d l k else has w d r (k - 2 ^ d)) ≡ op (if c then has t d al k else has t d ar (k - 2 ^ d)) (if c then has t d bl k else has t d br (k - 2 ^ d))
      by true = keep-has h g.table d l k low.set ∙ low.members k
      by false =
          high.members (k - 2 ^ d)
          ∙ ap₂ op (keep-has g table d ar (k - 2 ^ d) (right-below table depth d a e a-set ar a-right)) (keep-has g table d br (k - 2 ^ d) (right-below table depth d b e b-set br b-right))

pub either-below : (op : Bool → Bool → Bool) → ((x y : Bool) → op x y ≡ true → (x ≡ true) ⊎ (y ≡ true)) → {t : List Node} (top depth a b k : ℕ) → AllBelow top t → IsSet t depth a → IsSet t depth b → op (has t depth a k) (has t depth b k) ≡ true → k < top
either-below op tells {t} top depth a b k below a-set b-set known = by (tells _ _ known)
  where
    by : (has t depth a k ≡ true) ⊎ (has t depth b k ≡ true) → k < top
    by (inl h) = below depth a k a-set h
    by (inr h) = below depth b k b-set h

pub meet-below : {t : List Node} (top depth a b k : ℕ) → AllBelow top t → IsSet t depth a → IsSet t depth b → (has t depth a k && has t depth b k) ≡ true → k < top
meet-below = either-below (λ x y. x && y) and-either

pub join-below : {t : List Node} (top depth a b k : ℕ) → AllBelow top t → IsSet t depth a → IsSet t depth b → (has t depth a k || has t depth b k) ≡ true → k < top
join-below = either-below (λ x y. x || y) or-either

-- where one of the two is the answer
module _ (t : List Node) (depth a b : ℕ) where
  same-at-bottom : depth ≡ 0 → (a ≡ 0 → ⊥) → (b ≡ 0 → ⊥) → (k : ℕ) → has t depth a k ≡ has t depth b k
  same-at-bottom e full other k =
      let a-some : 0 < a = omega (arith, full) in
      let b-some : 0 < b = omega (arith, other) in
      ap (λ f. has t f a k) e ∙ ap (λ c. c && nat_eq k 0) (lt-ltb 0 a a-some) ∙ sym (ap (λ c. c && nat_eq k 0) (lt-ltb 0 b b-some)) ∙ sym (ap (λ f. has t f b k) e)

  a-empty : a ≡ 0 → (k : ℕ) → has t depth a k ≡ false
  a-empty e k = ap (λ n. has t depth n k) e ∙ has-empty t depth k

  b-empty : b ≡ 0 → (k : ℕ) → has t depth b k ≡ false
  b-empty e k = ap (λ n. has t depth n k) e ∙ has-empty t depth k

  and-same : (x : Bool) → (x && x) ≡ x
  and-same true = refl
  and-same false = refl

  or-same : (x : Bool) → (x || x) ≡ x
  or-same true = refl
  or-same false = refl

  and-no : (x y : Bool) → y ≡ false → (x && y) ≡ y
  and-no true y e = refl
  and-no false y e = sym e

  pub meet-first : (a ≡ b) ⊎ ((a ≡ b → ⊥) × (a ≡ 0)) → IsSet t depth a → Gives (λ k. has t depth a k && has t depth b k) t depth a
  meet-first (inl e) s = record { set = s; members = λ k. sym (and-same (has t depth a k)) ∙ ap (λ n. has t depth a k && has t depth n k) e }
  meet-first (inr e) s = record { set = s; members = λ k. a-empty e.1 k ∙ sym (ap (λ x. x && has t depth b k) (a-empty e.1 k)) }

  pub meet-second : (a ≡ 0 → ⊥) → (b ≡ 0) ⊎ ((b ≡ 0 → ⊥) × (depth ≡ 0)) → IsSet t depth b → Gives (λ k. has t depth a k && has t depth b k) t depth b
  meet-second full (inl e) s = record { set = s; members = λ k. sym (and-no (has t depth a k) (has t depth b k) (b-empty e k)) }
  meet-second full (inr e) s = record { set = s; members = λ k. sym (and-same (has t depth b k)) ∙ ap (λ x. x && has t depth b k) (sym (same-at-bottom e.1 full e.0 k)) }

  pub join-first : (a ≡ b) ⊎ ((a ≡ b → ⊥) × (b ≡ 0)) → IsSet t depth a → Gives (λ k. has t depth a k || has t depth b k) t depth a
  join-first (inl e) s = record { set = s; members = λ k. sym (or-same (has t depth a k)) ∙ ap (λ n. has t depth a k || has t depth n k) e }
  join-first (inr e) s = record { set = s; members = λ k. sym (or-false (has t depth a k) (has t depth b k) (b-empty e.1 k)) }

  pub join-second : (b ≡ 0 → ⊥) → (a ≡ 0) ⊎ ((a ≡ 0 → ⊥) × (depth ≡ 0)) → IsSet t depth b → Gives (λ k. has t depth a k || has t depth b k) t depth b
  join-second full (inl e) s = record { set = s; members = λ k. sym (ap (λ x. x || has t depth b k) (a-empty e k)) }
  join-second full (inr e) s = record { set = s; members = λ k. sym (or-same (has t depth b k)) ∙ ap (λ x. x || has t depth b k) (sym (same-at-bottom e.1 e.0 full k)) }
