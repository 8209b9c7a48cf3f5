-- Sets of numbers as shared nodes: what a set's number keeps, and that equal sets have one number.
use Rattle.std.proofs.Common.{◌≡◌, ◌≢◌, ℕ, zero, suc, ◌+◌, ◌-◌, ◌*◌, ◌^◌, ◌<◌, ◌≤◌, Bool, true, false, ◌&&◌, if◌then◌else◌, nat_lt, nat_eq, List, length, slice_get, Option, None, Some, refl, sym, ap, ap₂, subst, ◌∙◌, arith, ltb-false, lt-ltb, le-ltb, eqb-true, true≢false, inl, inr, ◌⊎◌}
use Rattle.std.proofs.Common.{pow-suc, length-append, [], ◌∷◌, ◌++◌, get_or, eq-eqb}
use Rattle.std.proofs.lemmas.Option.{slice_get_within, slice_get-get_or, get_or_from_slice_get}
use Rattle.std.proofs.lemmas.List.{get_or_push}
use Rattle.std.proofs.Math.ListN.{get_or-append}
use Rattle.std.proofs.lemmas.Bool.{cond-true, cond-false, cond_both, cases_lt, eqb-false, false_from_ne_true}
use Rattle.std.specs.List.{list_any}
use Rattle.std.proofs.lemmas.List.Folds.{list_any_at}
use Rattle.indexmap.specs.IndexSet.{insert_key}
use Rattle.std.specs.Cmp.{first_so, second_so}
use Rattle.std.specs.Cmp.Derive.{both_true}
use Rattle.inc_expand.specs.declared.shared_sets.Node.{Node}
use Rattle.inc_expand.specs.Nodes.{node_at, left_of, right_of, left_half, right_half, has, has_in, depth_of, IsSet, IsNode, IsTable, Grows, AllBelow}

module _ {t : List Node} (table : IsTable t) where
  -- what is at a number is a node
  pub node-is : (n : ℕ) (x : Node) → node_at t n ≡ Some x → IsNode t x
  node-is n x e = by (nat_lt n 2) e
    where
      by : (b : Bool) → (if b then None else slice_get t (n - 2)) ≡ Some x → IsNode t x
      by true h = absurd (cc)
      by false h = table.each (n - 2) x h

  -- the halves of a set are sets
  pub left-set : (d n : ℕ) → IsSet t (suc d) n → IsSet t d (left_half t d n)
  left-set d n s = by (node_at t n) refl
    where
      by : (o : Option Node) → node_at t n ≡ o → IsSet t d (left_of d n o)
      by None e = record { known = s.known; depth = rw e (omega arith) }
      by (Some x) e =
          cond_both (nat_eq x.level d) x.left n (IsSet t d)
          (λ yes. subst (λ l. IsSet t l x.left) (eqb-true _ _ yes) (node-is n x e).left)
          (λ no. let other : x.level ≢ d = eqb-false _ _ no in
          let deep : suc x.level ≤ suc d = subst (λ o. depth_of o ≤ suc d) e s.depth in
          record { known = s.known; depth = rw e (omega (arith, other, deep)) })

  empty-set : (d : ℕ) → IsSet t d 0
  empty-set d = record { known = omega arith; depth = omega arith }

  pub right-set : (d n : ℕ) → IsSet t (suc d) n → IsSet t d (right_half t d n)
  right-set d n s = by (node_at t n) refl
    where
      by : (o : Option Node) → node_at t n ≡ o → IsSet t d (right_of d o)
      by None e = empty-set d
      by (Some x) e =
          cond_both (nat_eq x.level d) x.right 0 (IsSet t d)
          (λ yes. subst (λ l. IsSet t l x.right) (eqb-true _ _ yes) (node-is n x e).right)
          (λ no. empty-set d)

  -- a set of less depth is its own left half
  pub low-left : (d n : ℕ) → IsSet t d n → left_half t d n ≡ n
  low-left d n s = by (node_at t n) refl
    where
      by : (o : Option Node) → node_at t n ≡ o → left_of d n o ≡ n
      by None e = refl
      by (Some x) e =
          let deep : suc x.level ≤ d = subst (λ o. depth_of o ≤ d) e s.depth in
          cond-false _ _ _ (false_from_ne_true _ (λ yes. let same : x.level ≡ d = eqb-true _ _ yes in absurd (omega (arith, deep, same))))

  pub low-right : (d n : ℕ) → IsSet t d n → right_half t d n ≡ 0
  low-right d n s = by (node_at t n) refl
    where
      by : (o : Option Node) → node_at t n ≡ o → right_of d o ≡ 0
      by None e = refl
      by (Some x) e =
          let deep : suc x.level ≤ d = subst (λ o. depth_of o ≤ d) e s.depth in
          cond-false _ _ _ (false_from_ne_true _ (λ yes. let same : x.level ≡ d = eqb-true _ _ yes in absurd (omega (arith, deep, same))))

-- the empty set has nothing
pub has-empty : (t : List Node) (d k : ℕ) → has t d 0 k ≡ false
has-empty t zero k = refl
has-empty t (suc d) k = cond_both (nat_lt k (2 ^ d)) _ _ (λ b. b ≡ false) (λ _. has-empty t d k) (λ _. has-empty t d (k - 2 ^ d))

-- no set has a number past its depth
pub has-beyond : (t : List Node) (d n k : ℕ) → 2 ^ d ≤ k → has t d n k ≡ false
has-beyond t zero n k far = let no : nat_eq k 0 ≡ false = false_from_ne_true _ (λ yes. let z : k ≡ 0 = eqb-true _ _ yes in absurd (omega (arith, far, z))) in by (nat_lt 0 n) (nat_eq k 0) no
  where
    by : (a b : Bool) → b ≡ false → (a && b) ≡ false
    by true b e = e
    by false b e = refl
has-beyond t (suc d) n k far =
    let twice : 2 ^ suc d ≡ 2 ^ d * 2 = pow-suc 2 d in
    let past : 2 ^ d ≤ k = omega (arith, far, twice) in
    let rest : 2 ^ d ≤ k - 2 ^ d = omega (arith, far, twice) in
    cond-false (nat_lt k (2 ^ d)) _ _ (le-ltb _ _ past) ∙ has-beyond t d (right_half t d n) (k - 2 ^ d) rest

module _ {t : List Node} (table : IsTable t) where
  -- a set reads the same from a greater depth
  raise-once : (d n k : ℕ) → IsSet t d n → has t (suc d) n k ≡ has t d n k
  raise-once d n k s =
      cond_both (nat_lt k (2 ^ d)) _ _ (λ b. b ≡ has t d n k)
      (λ low. ap (λ m. has t d m k) (low-left table d n s))
      (λ high. ap (λ m. has t d m (k - 2 ^ d)) (low-right table d n s) ∙ has-empty t d (k - 2 ^ d) ∙ sym (has-beyond t d n k (ltb-false _ _ high)))

  pub raise : (d e n k : ℕ) → d ≤ e → IsSet t d n → has t e n k ≡ has t d n k
  raise d zero n k le s = let z : 0 ≡ d = omega (arith, le) in ap (λ (f : ℕ). has t f n k) z
  raise d (suc e) n k le s = by (cases_lt e d) (λ l. raise d e n k l s)
    where
      by : (e < d) ⊎ (d ≤ e) → (d ≤ e → has t e n k ≡ has t d n k) → has t (suc e) n k ≡ has t d n k
      by (inl l) more = let z : suc e ≡ d = omega (arith, le, l) in ap (λ (f : ℕ). has t f n k) z
      by (inr l) more =
          let deep : depth_of (node_at t n) ≤ e = omega (arith, l, s.depth) in
          raise-once e n k (record { known = s.known; depth = deep }) ∙ more l

module _ {t u : List Node} (g : Grows t u) where
  pub keep-set : (d n : ℕ) → IsSet t d n → IsSet u d n
  keep-set d n s = record { known = omega (arith, s.known, g.more); depth = subst (λ o. depth_of o ≤ d) (sym (g.same n s.known)) s.depth }

  -- a number keeps its set
  pub keep-has : IsTable t → (d n k : ℕ) → IsSet t d n → has u d n k ≡ has t d n k
  keep-has table zero n k s = refl
  keep-has table (suc d) n k s =
      ap₂ (λ (a b : Bool). if nat_lt k (2 ^ d) then a else b)
      (ap (λ o. has u d (left_of d n o) k) (g.same n s.known) ∙ keep-has table d (left_half t d n) k (left-set table d n s))
      (ap (λ o. has u d (right_of d o) (k - 2 ^ d)) (g.same n s.known) ∙ keep-has table d (right_half t d n) (k - 2 ^ d) (right-set table d n s))

pub grows-trans : {t u v : List Node} → Grows t u → Grows u v → Grows t v
grows-trans g h = record {
  table = h.table;
  more = omega (arith, g.more, h.more);
  same = λ n l. h.same n (omega (arith, l, g.more)) ∙ g.same n l;
}

-- one node more
module _ (t : List Node) (x : Node) where
  get_or_new : (i : ℕ) → i < length t → slice_get (t ++ x ∷ []) i ≡ slice_get t i
  get_or_new i l =
      let more : length (t ++ x ∷ []) ≡ length t + 1 = length-append t (x ∷ []) in
      slice_get-get_or (t ++ x ∷ []) i x (omega (arith, l, more)) ∙ ap Some (get_or-append t (x ∷ []) x i l) ∙ sym (slice_get-get_or t i x l)

  old_or_new : (i : ℕ) (y : Node) → slice_get (t ++ x ∷ []) i ≡ Some y → ((i < length t) × (slice_get t i ≡ Some y)) ⊎ ((i ≡ length t) × (x ≡ y))
  old_or_new i y h = by (cases_lt i (length t))
    where
      by : (i < length t) ⊎ (length t ≤ i) → ((i < length t) × (slice_get t i ≡ Some y)) ⊎ ((i ≡ length t) × (x ≡ y))
      by (inl l) = inl (l, sym (get_or_new i l) ∙ h)
      by (inr l) =
          let more : length (t ++ x ∷ []) ≡ length t + 1 = length-append t (x ∷ []) in
          let within : i < length (t ++ x ∷ []) = slice_get_within _ i y h in
          let last : length t ≡ i = omega (arith, l, more, within) in
          inr (sym last, sym (get_or_push t x x i last) ∙ get_or_from_slice_get _ i y x h)

  keeps_same : (n : ℕ) → n < length t + 2 → node_at (t ++ x ∷ []) n ≡ node_at t n
  keeps_same n l = by (nat_lt n 2) refl
    where
      by : (b : Bool) → nat_lt n 2 ≡ b → (if b then None else slice_get (t ++ x ∷ []) (n - 2)) ≡ (if b then None else slice_get t (n - 2))
      by true e = refl
      by false e = let far : 2 ≤ n = ltb-false _ _ e in get_or_new (n - 2) (omega (arith, l, far))

  pub grows-push : IsTable t → IsNode t x → ((i : ℕ) → slice_get t i ≡ Some x → ⊥) → Grows t (t ++ x ∷ [])
  grows-push table node fresh = record {
    table = record { distinct = λ i j y a b. apart i j y (old_or_new i y a) (old_or_new j y b); each = λ i y a. node_of i y (old_or_new i y a) };
    more = let more : length (t ++ x ∷ []) ≡ length t + 1 = length-append t (x ∷ []) in omega (arith, more);
    same = keeps_same;
  }
    where
      apart : (i j : ℕ) (y : Node) → ((i < length t) × (slice_get t i ≡ Some y)) ⊎ ((i ≡ length t) × (x ≡ y)) → ((j < length t) × (slice_get t j ≡ Some y)) ⊎ ((j ≡ length t) × (x ≡ y)) → i ≡ j
      apart i j y (inl a) (inl b) = table.distinct i j y a.1 b.1
      apart i j y (inl a) (inr b) = absurd (fresh i (a.1 ∙ ap Some (sym b.1)))
      apart i j y (inr a) (inl b) = absurd (fresh j (b.1 ∙ ap Some (sym a.1)))
      apart i j y (inr a) (inr b) = a.0 ∙ sym b.0

      set_of : (d n : ℕ) → IsSet t d n → IsSet (t ++ x ∷ []) d n
      set_of d n s = record {
        known = let more : length (t ++ x ∷ []) ≡ length t + 1 = length-append t (x ∷ []) in omega (arith, more, s.known);
        depth = subst (λ o. depth_of o ≤ d) (sym (keeps_same n s.known)) s.depth;
      }

      lift : (y : Node) → IsNode t y → IsNode (t ++ x ∷ []) y
      lift y m = record { left = set_of _ _ m.left; right = set_of _ _ m.right; filled = m.filled; shallow = m.shallow }

      node_of : (i : ℕ) (y : Node) → ((i < length t) × (slice_get t i ≡ Some y)) ⊎ ((i ≡ length t) × (x ≡ y)) → IsNode (t ++ x ∷ []) y
      node_of i y (inl a) = lift y (table.each i y a.1)
      node_of i y (inr a) = subst (IsNode (t ++ x ∷ [])) a.1 (lift x node)

pub grows-itself : {t : List Node} → IsTable t → Grows t t
grows-itself table = record { table = table; more = omega arith; same = λ n l. refl }

-- a set is its two halves
module _ {t : List Node} (table : IsTable t) where
  is_place : (n : ℕ) (x : Node) → node_at t n ≡ Some x → (2 ≤ n) × (slice_get t (n - 2) ≡ Some x)
  is_place n x e = by (nat_lt n 2) refl e
    where
      by : (b : Bool) → nat_lt n 2 ≡ b → (if b then None else slice_get t (n - 2)) ≡ Some x → (2 ≤ n) × (slice_get t (n - 2) ≡ Some x)
      by true l h = absurd (cc)
      by false l h = (ltb-false _ _ l, h)

  abbrev IsLow : ℕ → ℕ → Type 0
  IsLow d n = (left_half t d n ≡ n) × (right_half t d n ≡ 0)

  abbrev IsTop : ℕ → ℕ → Type 0
  IsTop d n = (x : Node) × (node_at t n ≡ Some x) × (x.level ≡ d) × (left_half t d n ≡ x.left) × (right_half t d n ≡ x.right)

  low_or_top : (d n : ℕ) → IsLow d n ⊎ IsTop d n
  low_or_top d n = by (node_at t n) refl
    where
      by : (o : Option Node) → node_at t n ≡ o → IsLow d n ⊎ IsTop d n
      by None e = inl (ap (left_of d n) e, ap (right_of d) e)
      by (Some x) e = there (nat_eq x.level d) refl
        where
          there : (b : Bool) → nat_eq x.level d ≡ b → IsLow d n ⊎ IsTop d n
          there true h = inr (x, e, eqb-true _ _ h, ap (left_of d n) e ∙ cond-true _ _ _ h, ap (right_of d) e ∙ cond-true _ _ _ h)
          there false h = inl (ap (left_of d n) e ∙ cond-false _ _ _ h, ap (right_of d) e ∙ cond-false _ _ _ h)

  same_node : (x y : Node) → x.level ≡ y.level → x.left ≡ y.left → x.right ≡ y.right → x ≡ y
  same_node x y p q r = λ i. record { level = p i; left = q i; right = r i }

  pub same-halves : (d n m : ℕ) → left_half t d n ≡ left_half t d m → right_half t d n ≡ right_half t d m → n ≡ m
  same-halves d n m left right = by (low_or_top d n) (low_or_top d m)
    where
      by : IsLow d n ⊎ IsTop d n → IsLow d m ⊎ IsTop d m → n ≡ m
      by (inl a) (inl b) = sym a.0 ∙ left ∙ b.0
      by (inl a) (inr b) = let no : 0 < b.0.right = (node-is table m b.0 b.1).filled in let z : b.0.right ≡ 0 = sym b.4 ∙ sym right ∙ a.1 in absurd (omega (arith, no, z))
      by (inr a) (inl b) = let no : 0 < a.0.right = (node-is table n a.0 a.1).filled in let z : a.0.right ≡ 0 = sym a.4 ∙ right ∙ b.1 in absurd (omega (arith, no, z))
      by (inr a) (inr b) =
          let same : a.0 ≡ b.0 = same_node a.0 b.0 (a.2 ∙ sym b.2) (sym a.3 ∙ left ∙ b.3) (sym a.4 ∙ right ∙ b.4) in
          let p = is_place n a.0 a.1 in
          let q = is_place m b.0 b.1 in
          let place : n - 2 ≡ m - 2 = table.distinct (n - 2) (m - 2) b.0 (p.1 ∙ ap Some same) q.1 in
          let p0 : 2 ≤ n = p.0 in
          let q0 : 2 ≤ m = q.0 in
          omega (arith, place, p0, q0)

  low_number : (n : ℕ) → IsSet t 0 n → n < 2
  low_number n s = by (cases_lt n 2)
    where
      by : (n < 2) ⊎ (2 ≤ n) → n < 2
      by (inl l) = l
      by (inr l) =
          let place : n - 2 < length t = omega (arith, l, s.known) in
          there (slice_get t (n - 2)) (cond-false _ _ _ (le-ltb _ _ l)) refl place
        where
          there : (o : Option Node) → node_at t n ≡ slice_get t (n - 2) → slice_get t (n - 2) ≡ o → n - 2 < length t → n < 2
          there None e f place = absurd (is-some t (n - 2) place f)
            where
              is-some : (xs : List Node) (i : ℕ) → i < length xs → slice_get xs i ≡ None → ⊥
              is-some [] i l none = absurd (omega (arith, l))
              is-some (y ∷ ys) i l none = let e = slice_get-get_or (y ∷ ys) i y l in let z : None ≡ Some (get_or (y ∷ ys) i y) = sym none ∙ e in cc
          there (Some x) e f place = let deep : suc x.level ≤ 0 = subst (λ o. depth_of o ≤ 0) (e ∙ f) s.depth in absurd (omega (arith, deep))

  -- equal sets have one number
  pub one_number : (d n m : ℕ) → IsSet t d n → IsSet t d m → ((k : ℕ) → has t d n k ≡ has t d m k) → n ≡ m
  one_number zero n m a b same = both n m (low_number n a) (low_number m b) (same 0)
    where
      both : (n m : ℕ) → n < 2 → m < 2 → (nat_lt 0 n && nat_eq 0 0) ≡ (nat_lt 0 m && nat_eq 0 0) → n ≡ m
      both zero zero l r e = refl
      both zero (suc m) l r e = absurd (true≢false (sym (e ∙ ap (λ b. b && nat_eq 0 0) (lt-ltb 0 (suc m) (omega arith)))))
      both (suc n) zero l r e = absurd (true≢false (sym (ap (λ b. b && nat_eq 0 0) (lt-ltb 0 (suc n) (omega arith))) ∙ e))
      both (suc n) (suc m) l r e = omega (arith, l, r)
  one_number (suc d) n m a b same =
      same-halves d n m
      (one_number d (left_half t d n) (left_half t d m) (left-set table d n a) (left-set table d m b) (λ k. low k (nat_lt k (2 ^ d)) refl (same k)))
      (one_number d (right_half t d n) (right_half t d m) (right-set table d n a) (right-set table d m b)
      (λ k.
      let far : nat_lt (k + 2 ^ d) (2 ^ d) ≡ false = le-ltb _ _ (omega arith) in
      let back : k + 2 ^ d - 2 ^ d ≡ k = omega arith in
      let h = same (k + 2 ^ d) in
      ap (has t d (right_half t d n)) (sym back) ∙ sym (cond-false _ _ _ far) ∙ h ∙ cond-false _ _ _ far ∙ ap (has t d (right_half t d m)) back))
    where
      low : (k : ℕ) (c : Bool) → nat_lt k (2 ^ d) ≡ c → has t (suc d) n k ≡ has t (suc d) m k → has t d (left_half t d n) k ≡ has t d (left_half t d m) k
      low k true e h = sym (cond-true _ _ _ e) ∙ h ∙ cond-true _ _ _ e
      low k false e h = let far : 2 ^ d ≤ k = ltb-false _ _ e in has-beyond t d _ k far ∙ sym (has-beyond t d _ k far)

-- the table after an insertion
module _ (eq : Node → Node → Bool) (exact : (x y : Node) → eq x y ≡ true → x ≡ y) (itself : (x : Node) → eq x x ≡ true) {t : List Node} (table : IsTable t) (x : Node) (node : IsNode t x) where
  fresh : list_any (eq x) t ≡ false → (i : ℕ) → slice_get t i ≡ Some x → ⊥
  fresh none i h =
      true≢false (sym (list_any_at (eq x) t i x (slice_get_within t i x h) (ap (eq x) (get_or_from_slice_get t i x x h) ∙ itself x)) ∙ none)

  pub grows-insert : Grows t (insert_key eq t x)
  grows-insert = by (list_any (eq x) t) refl
    where
      by : (b : Bool) → list_any (eq x) t ≡ b → Grows t (if b then t else t ++ x ∷ [])
      by true e = grows-itself table
      by false e = grows-push t x table node (fresh e)

  new_node : node_at (t ++ x ∷ []) (length t + 2) ≡ Some x
  new_node =
      let more : length (t ++ x ∷ []) ≡ length t + 1 = length-append t (x ∷ []) in
      let place : length t + 2 - 2 ≡ length t = omega arith in
      cond-false _ _ _ (le-ltb (length t + 2) 2 (omega arith)) ∙ ap (slice_get (t ++ x ∷ [])) place
      ∙ slice_get-get_or (t ++ x ∷ []) (length t) x (omega (arith, more)) ∙ ap Some (get_or_push t x x (length t) refl)

  below-push : Grows t (t ++ x ∷ []) → (top : ℕ) → AllBelow top t → ((k : ℕ) → has_in t x.level x.left x.right k ≡ true → k < top) → AllBelow top (t ++ x ∷ [])
  below-push g top below new d n k s h = by (cases_lt n (length t + 2))
    where
      by : (n < length t + 2) ⊎ (length t + 2 ≤ n) → k < top
      by (inl l) =
          let old : IsSet t d n = record { known = l; depth = subst (λ o. depth_of o ≤ d) (g.same n l) s.depth } in
          below d n k old (sym (keep-has g table d n k old) ∙ h)
      by (inr l) =
          let more : length (t ++ x ∷ []) ≡ length t + 1 = length-append t (x ∷ []) in
          let last : length t + 2 ≡ n = omega (arith, l, more, s.known) in
          let at : node_at (t ++ x ∷ []) n ≡ Some x = ap (node_at (t ++ x ∷ [])) (sym last) ∙ new_node in
          let deep : suc x.level ≤ d = subst (λ o. depth_of o ≤ d) at s.depth in
          let here : IsSet (t ++ x ∷ []) (suc x.level) n = record { known = s.known; depth = rw at (omega arith) } in
          let same : nat_eq x.level x.level ≡ true = eq-eqb _ _ refl in
          let left : left_half (t ++ x ∷ []) x.level n ≡ x.left = ap (left_of x.level n) at ∙ cond-true _ _ _ same in
          let right : right_half (t ++ x ∷ []) x.level n ≡ x.right = ap (right_of x.level) at ∙ cond-true _ _ _ same in
          new k
          (ap₂ (λ (a b : Bool). if nat_lt k (2 ^ x.level) then a else b)
          (sym (keep-has g table x.level x.left k node.left) ∙ ap (λ m. has (t ++ x ∷ []) x.level m k) (sym left))
          (sym (keep-has g table x.level x.right (k - 2 ^ x.level) node.right) ∙ ap (λ m. has (t ++ x ∷ []) x.level m (k - 2 ^ x.level)) (sym right))
          ∙ sym (raise g.table (suc x.level) d n k deep here) ∙ h)

  pub below-insert : (top : ℕ) → AllBelow top t → ((k : ℕ) → has_in t x.level x.left x.right k ≡ true → k < top) → AllBelow top (insert_key eq t x)
  below-insert top below new = by (list_any (eq x) t) refl
    where
      by : (b : Bool) → list_any (eq x) t ≡ b → AllBelow top (if b then t else t ++ x ∷ [])
      by true e = below
      by false e = below-push (grows-push t x table node (fresh e)) top below new

-- what `==` answers at two nodes
abbrev pub node_eq : Node → Node → Bool
node_eq x y = nat_eq x.level y.level && (nat_eq x.left y.left && nat_eq x.right y.right)

pub node_eq-exact : (x y : Node) → node_eq x y ≡ true → x ≡ y
node_eq-exact x y e =
    let p : nat_eq x.level y.level ≡ true = first_so (nat_eq x.level y.level) (nat_eq x.left y.left && nat_eq x.right y.right) e in
    let q : (nat_eq x.left y.left && nat_eq x.right y.right) ≡ true = second_so (nat_eq x.level y.level) (nat_eq x.left y.left && nat_eq x.right y.right) e in
    let l : x.left ≡ y.left = eqb-true x.left y.left (first_so (nat_eq x.left y.left) (nat_eq x.right y.right) q) in
    let r : x.right ≡ y.right = eqb-true x.right y.right (second_so (nat_eq x.left y.left) (nat_eq x.right y.right) q) in
    λ i. record { level = eqb-true x.level y.level p i; left = l i; right = r i }

pub node_eq-itself : (x : Node) → node_eq x x ≡ true
node_eq-itself x = both_true (eq-eqb x.level _ refl) (both_true (eq-eqb x.left _ refl) (eq-eqb x.right _ refl))
