-- What each call leaves of a table of sets.
use Rattle.std.proofs.Common.{◌≡◌, ℕ, suc, ◌+◌, ◌-◌, ◌*◌, ◌/◌, ◌%◌, ◌^◌, ◌<◌, ◌≤◌, Bool, true, false, cond, not, ◌||◌, ◌&&◌, if◌then◌else◌, nat_lt, nat_eq, eqb, List, [], ◌∷◌, ◌++◌, map, length, length-append, get_or, set, replicate, refl, sym, ap, ap₂, subst, ◌∙◌, arith, ltb-false, ltb-true, lt-ltb, le-ltb, true≢false, eqb-true, eq-eqb, bytes_eq, ◌⊎◌, inl, inr, position, Some, None}
use Rattle.std.specs.Int.{bit_at}
use Rattle.std.specs.Int.Bits.{bit_or}
use Rattle.std.proofs.Math.Nat.{pow-le-pow_right}
use Rattle.std.proofs.lemmas.Nat.{or_lt, pow_below}
use Rattle.std.proofs.lemmas.Bool.{cond-true, cond-false, cases_lt, false_from_ne_true}
use Rattle.std.proofs.lemmas.List.{map-append, get_or_push, length-map, length-set}
use Rattle.std.proofs.lemmas.List.Elements.{All-replicate, All-set}
use Rattle.std.proofs.Math.ListN.{get_or-append}
use Rattle.std.proofs.lemmas.List.Sums.{prefix_len-le-length}
use Rattle.std.proofs.lemmas.List.Folds.{position_or_len_push}
use Rattle.std.specs.List.{All, list_any, position_or_len}
use Rattle.indexmap.specs.IndexSet.{insert_key}
use Rattle.std.proofs.lemmas.Option.{slice_get_within, cond_some}
use Rattle.inc_expand.specs.declared.hide_sets.Hint.{Hint}
use Rattle.inc_expand.specs.declared.hide_sets.Join.{Join}
use Rattle.inc_expand.specs.declared.name_keys.Name.{Name}
use Rattle.inc_expand.specs.declared.shared_sets.Node.{Node}
use Rattle.inc_expand.specs.Nodes.{node_at, has, IsSet, IsTable, Grows, Gives, AllBelow}
use Rattle.inc_expand.specs.Sets.{Sets, full_depth, in_set, number_of, names_in, names_after, holds, size, HaveHints, IsHint, IsJoin, IsNumber, IsSound, Keeps}
use Rattle.inc_expand.proofs.Depths.{gives-full}
use Rattle.inc_expand.proofs.LowNames.{bit-upper, in-high, in-low, low-bit, made-high, made-low, same-number, Fits, IsLow}
use Rattle.inc_expand.proofs.Sets.{has-empty, raise, keep-has, keep-set, one_number}
use Rattle.inc_expand.proofs.NameNumbers.{all-set, few-known, few-upper, known-set, within-node, has-past, any_or_len, names_with, name-stays, name-within, answers-stay, tells-name}

-- the upper half of a number that stands for a set is that of a node
pub within-nodes : (s : Sets) (set : ℕ) → IsSound s → set < size s → set / 4294967296 < length s.nodes + 2
within-nodes s set sound known = within-node s sound set known

within : (b : Bool) (m n p : ℕ) → m ≤ n → (if b then (m + 2) * 4294967296 else p) ≤ (if b then (n + 2) * 4294967296 else p)
within true m n p l = omega (arith, l)
within false m n p l = omega arith

wider : (top more : ℕ) (t : List Node) → top ≤ more → AllBelow top t → AllBelow more t
wider top more t l below d n k s h = let low : k < top = below d n k s h in omega (arith, l, low)

module _ (names : List (List ℕ)) (t u : List Node) (sound : IsSound (record { names = names; nodes = t })) (g : Grows t u) where
  abbrev before : Sets
  before = record { names = names; nodes = t }

  abbrev after : Sets
  after = record { names = names; nodes = u }

  -- a set has what it had
  in-kept : (set : ℕ) → set < size before → (k : ℕ) → in_set u set k ≡ in_set t set k
  in-kept set l k =
      ap (λ b. if nat_lt k 32 then nat_eq (bit_at set k) 1 else b) (keep-has g sound.table full_depth (set / 4294967296) (k - 32) (known-set before sound set l))

  pub keeps-nodes : Keeps before after
  keeps-nodes = record {
    more = within (nat_lt 32 (length names)) (length t) (length u) (2 ^ length names) g.more;
    same = λ set l x. ap (λ b. nat_lt (number_of names x) (length names) && b) (in-kept set l (number_of names x));
  }

  pub sound-nodes : ((top : ℕ) → AllBelow top t → AllBelow top u) → IsSound after
  sound-nodes below = record { table = g.table; below = below _ sound.below; own = sound.own; few = sound.few }

  module _ (op : Bool → Bool → Bool) (none : op false false ≡ false) (a b an bn node low r d : ℕ) (e : d ≡ full_depth) (an-is : an ≡ a / 4294967296) (bn-is : bn ≡ b / 4294967296)
      (r-is : r ≡ node * 4294967296 + low) (gives : Gives (λ k. op (has t d an k) (has t d bn k)) u d node) (l : low < 4294967296) (bits : IsLow op a b low) where
    at-full : Gives (λ k. op (has t full_depth (a / 4294967296) k) (has t full_depth (b / 4294967296) k)) u full_depth node
    at-full =
        subst (λ m. Gives (λ k. op (has t full_depth m k) (has t full_depth (b / 4294967296) k)) u full_depth node) an-is
        (subst (λ m. Gives (λ k. op (has t full_depth an k) (has t full_depth m k)) u full_depth node) bn-is
        (subst (λ f. Gives (λ k. op (has t f an k) (has t f bn k)) u f node) e gives))

    in-made : (k : ℕ) → in_set u (node * 4294967296 + low) k ≡ op (in_set t a k) (in_set t b k)
    in-made k = by (cases_lt k 32)
      where
        by : (k < 32) ⊎ (32 ≤ k) → in_set u (node * 4294967296 + low) k ≡ op (in_set t a k) (in_set t b k)
        by (inl m) = made-low u node low l k m ∙ bits k m ∙ sym (ap₂ op (in-low t a k m) (in-low t b k m))
        by (inr m) = made-high u node low l k m ∙ at-full.members (k - 32) ∙ sym (ap₂ op (in-high t a k m) (in-high t b k m))

    pub members-nodes : (x : List ℕ) → holds after r x ≡ op (holds before a x) (holds before b x)
    members-nodes x = ap (λ n. holds after n x) r-is ∙ by (nat_lt (number_of names x) (length names))
      where
        by : (c : Bool) → (c && in_set u (node * 4294967296 + low) (number_of names x)) ≡ op (c && in_set t a (number_of names x)) (c && in_set t b (number_of names x))
        by true = in-made (number_of names x)
        by false = sym none

    pub known-nodes : Fits a b low → a < size before → b < size before → r < size after
    known-nodes fits a-known b-known = subst (λ n. n < size after) (sym r-is) (by (nat_lt 32 (length names)) refl)
      where
        by : (c : Bool) → nat_lt 32 (length names) ≡ c → node * 4294967296 + low < (if c then (length u + 2) * 4294967296 else 2 ^ length names)
        by true h = let m = at-full.set.known in omega (arith, m, l)
        by false h =
            let zero-set : IsSet u full_depth 0 = all-set g.table 0 (omega arith) in
            let z : node ≡ 0 = one_number g.table full_depth node 0 at-full.set zero-set (λ k.
            at-full.members k
            ∙ ap₂ op (ap (λ n. has t full_depth n k) (few-upper before a a-known h) ∙ has-empty t full_depth k) (ap (λ n. has t full_depth n k) (few-upper before b b-known h) ∙ has-empty t full_depth k)
            ∙ none ∙ sym (has-empty u full_depth k)) in
            let m : low < 2 ^ length names = fits (length names) (few-known before a a-known h) (few-known before b b-known h) in
            omega (arith, z, m)

or-spread : (c p q : Bool) → (c && (p || q)) ≡ ((c && p) || (c && q))
or-spread true p q = refl
or-spread false p q = refl

-- after a name is seen
module _ (names : List (List ℕ)) (name : List ℕ) (t u : List Node) (sound : IsSound (record { names = names; nodes = t })) (g : Grows t u) (there : Bool) (seen : nat_lt (number_of names name) (length names) ≡ there) where
  abbrev old : Sets
  old = record { names = names; nodes = t }

  abbrev new : Sets
  new = record { names = names_with names name there; nodes = u }

  more-names : length names ≤ length (names_with names name there)
  more-names = by there
    where
      by : (b : Bool) → length names ≤ length (names_with names name b)
      by true = omega arith
      by false = let pushed : length (names ++ name ∷ []) ≡ length names + 1 = length-append names (name ∷ []) in omega (arith, pushed)

  more-sets : size old ≤ size new
  more-sets = by (nat_lt 32 (length names)) (nat_lt 32 (length (names_with names name there))) refl refl
    where
      by : (a b : Bool) → nat_lt 32 (length names) ≡ a → nat_lt 32 (length (names_with names name there)) ≡ b →
          (if a then (length t + 2) * 4294967296 else 2 ^ length names) ≤ (if b then (length u + 2) * 4294967296 else 2 ^ length (names_with names name there))
      by true true p q = omega (arith, g.more)
      by true false p q = let l : 32 < length names = ltb-true _ _ p in let m : length (names_with names name there) ≤ 32 = ltb-false _ _ q in let n = more-names in absurd (omega (arith, l, m, n))
      by false true p q =
          let few : length names ≤ 32 = ltb-false _ _ p in
          let most : 2 ^ length names ≤ 2 ^ 32 = pow-le-pow_right {n = 2} (omega arith) {i = length names} {j = 32} few in
          omega (arith, most)
      by false false p q = let n = more-names in pow-le-pow_right {n = 2} (omega arith) {i = length names} {j = length (names_with names name there)} n

  pub keeps-with : Keeps old new
  keeps-with = record {
    more = more-sets;
    same = λ set l x.
        ap (λ b. nat_lt (number_of (names_with names name there) x) (length (names_with names name there)) && b) (in-kept names t u sound g set l (number_of (names_with names name there) x))
        ∙ answers-stay names name there x (λ k. in_set t set k) (has-past old sound set l);
  }

  -- a set that has one number more has one name more
  module _ (set r number : ℕ) (is : number ≡ number_of names name) (has-more : (k : ℕ) → in_set u r k ≡ (in_set t set k || nat_eq k number)) where
    pub members-with : set < size old → (x : List ℕ) → holds new r x ≡ (holds old set x || bytes_eq x name)
    members-with known x =
        let low : number < length (names_with names name there) = subst (λ n. n < length (names_with names name there)) (sym is) (name-within names name there seen) in
        ap (λ b. nat_lt (number_of (names_with names name there) x) (length (names_with names name there)) && b) (has-more (number_of (names_with names name there) x))
        ∙ or-spread (nat_lt (number_of (names_with names name there) x) (length (names_with names name there))) (in_set t set (number_of (names_with names name there) x)) (nat_eq (number_of (names_with names name there) x) number)
        ∙ ap₂ (λ (p q : Bool). p || q)
        (answers-stay names name there x (λ k. in_set t set k) (has-past old sound set known))
        (tells-name (names_with names name there) name x number (name-stays names name there seen ∙ sym is) low)

  -- the number of one of the first names is a bit
  module _ (set number : ℕ) (is : number ≡ number_of names name) (l : number < 32) (known : set < size old) where
    pub known-bit : bit_or set (2 ^ number) < size new
    known-bit = by (nat_lt 32 (length (names_with names name there))) refl
      where
        low : number < length (names_with names name there)
        low = subst (λ n. n < length (names_with names name there)) (sym is) (name-within names name there seen)

        by : (b : Bool) → nat_lt 32 (length (names_with names name there)) ≡ b →
            bit_or set (2 ^ number) < (if b then (length u + 2) * 4294967296 else 2 ^ length (names_with names name there))
        by true e =
            let upper = bit-upper set number l in
            let m = within-nodes old set sound known in
            omega (arith, upper, m, g.more)
        by false e =
            let few : length (names_with names name there) ≤ 32 = ltb-false _ _ e in
            let n = more-names in
            let old-few : nat_lt 32 (length names) ≡ false = le-ltb _ _ (omega (arith, few, n)) in
            let small = few-known old set known old-few in
            let more : 2 ^ length names ≤ 2 ^ length (names_with names name there) = pow-le-pow_right {n = 2} (omega arith) {i = length names} {j = length (names_with names name there)} n in
            or_lt (length (names_with names name there)) set (2 ^ number) (omega (arith, small, more)) (pow_below number (length (names_with names name there)) low)

  -- that of another one is in the node
  module _ (set sn node low r d number : ℕ) (e : d ≡ full_depth) (is : number ≡ number_of names name) (l : 32 ≤ number) (sn-is : sn ≡ set / 4294967296) (low-is : low ≡ set % 4294967296)
      (r-is : r ≡ node * 4294967296 + low) (gives : Gives (λ k. has t d sn k || nat_eq k (number - 32)) u d node) where
    node-full : Gives (λ k. has t full_depth (set / 4294967296) k || nat_eq k (number - 32)) u full_depth node
    node-full =
        subst (λ m. Gives (λ k. has t full_depth m k || nat_eq k (number - 32)) u full_depth node) sn-is
        (subst (λ f. Gives (λ k. has t f sn k || nat_eq k (number - 32)) u f node) e gives)

    all-is : r ≡ node * 4294967296 + set % 4294967296
    all-is = r-is ∙ ap (λ m. node * 4294967296 + m) low-is

    pub known-node : r < size new
    known-node =
        let low : number < length (names_with names name there) = subst (λ n. n < length (names_with names name there)) (sym is) (name-within names name there seen) in
        let many : nat_lt 32 (length (names_with names name there)) ≡ true = lt-ltb _ _ (omega (arith, low, l)) in
        let m = node-full.set.known in
        let fits : r < (length u + 2) * 4294967296 = omega (arith, m, all-is) in
        subst (λ n. r < n) (sym (cond-true (nat_lt 32 (length (names_with names name there))) _ _ many)) fits

    pub node-members : (k : ℕ) → in_set u r k ≡ (in_set t set k || nat_eq k number)
    node-members k = ap (λ n. in_set u n k) all-is ∙ by (cases_lt k 32)
      where
        or-no : (a b : Bool) → b ≡ false → a ≡ (a || b)
        or-no true b h = refl
        or-no false b h = sym h

        moved : 32 ≤ k → (c : Bool) → nat_eq k number ≡ c → nat_eq (k - 32) (number - 32) ≡ c
        moved far true h = eq-eqb _ _ (ap (λ m. m - 32) (eqb-true _ _ h))
        moved far false h = false_from_ne_true _ (λ yes. let same : k - 32 ≡ number - 32 = eqb-true _ _ yes in let back : k ≡ number = omega (arith, same, far, l) in true≢false (sym (eq-eqb _ _ back) ∙ h))

        by : (k < 32) ⊎ (32 ≤ k) → in_set u (node * 4294967296 + set % 4294967296) k ≡ (in_set t set k || nat_eq k number)
        by (inl m) =
            let no : nat_eq k number ≡ false = false_from_ne_true _ (λ yes. let same : k ≡ number = eqb-true _ _ yes in absurd (omega (arith, same, l, m))) in
            made-low u node (set % 4294967296) (omega arith) k m ∙ ap (λ n. nat_eq n 1) (low-bit set k m) ∙ sym (in-low t set k m) ∙ or-no (in_set t set k) (nat_eq k number) no
        by (inr m) =
            made-high u node (set % 4294967296) (omega arith) k m ∙ node-full.members (k - 32)
            ∙ ap₂ (λ (p q : Bool). p || q) (sym (in-high t set k m)) (moved m (nat_eq k number) refl)

  own-with : (k : ℕ) → k < length (names_with names name there) → number_of (names_with names name there) (get_or (names_with names name there) k []) ≡ k
  own-with = by there seen
    where
      by : (b : Bool) → nat_lt (number_of names name) (length names) ≡ b → (k : ℕ) → k < length (names_with names name b) → number_of (names_with names name b) (get_or (names_with names name b) k []) ≡ k
      by true e k l = sound.own k l
      by false e k l = last (cases_lt k (length names))
        where
          last : (k < length names) ⊎ (length names ≤ k) → number_of (names ++ name ∷ []) (get_or (names ++ name ∷ []) k []) ≡ k
          last (inl low) =
              let own = sound.own k low in
              ap (number_of (names ++ name ∷ [])) (get_or-append names (name ∷ []) [] k low)
              ∙ position_or_len_push (λ n. bytes_eq (get_or names k []) n) names name
              ∙ cond-false _ _ _ (false_from_ne_true (eqb (number_of names (get_or names k [])) (length names)) (λ same. let z : number_of names (get_or names k []) ≡ length names = eqb-true _ _ same in absurd (omega (arith, z, own, low))))
              ∙ own
          last (inr high) =
              let pushed : length (names ++ name ∷ []) ≡ length names + 1 = length-append names (name ∷ []) in
              let z : length names ≡ k = omega (arith, high, l, pushed) in
              let past : length names ≤ number_of names name = ltb-false _ _ e in
              let most = prefix_len-le-length (λ n. not (bytes_eq name n)) names in
              let place : number_of names name ≡ k = omega (arith, past, most, z) in
              ap (number_of (names ++ name ∷ [])) (get_or_push names name [] k z) ∙ name-stays names name false e ∙ place

  few-with : length (names_with names name there) ≤ length names + 1
  few-with = by there
    where
      by : (b : Bool) → length (names_with names name b) ≤ length names + 1
      by true = omega arith
      by false = let pushed : length (names ++ name ∷ []) ≡ length names + 1 = length-append names (name ∷ []) in omega (arith, pushed)

  pub sound-with : (number : ℕ) → number ≡ number_of names name → length names < 4294901760 → ((top : ℕ) → AllBelow top t → number - 32 < top → AllBelow top u) → IsSound new
  sound-with number is room below =
      let some = name-within names name there seen in
      let more = more-names in
      let few = few-with in
      record {
        table = g.table;
        below = below (suc (length (names_with names name there) - 33)) (wider (suc (length names - 33)) (suc (length (names_with names name there) - 33)) t (omega (arith, more)) sound.below) (omega (arith, is, some));
        own = own-with;
        few = omega (arith, few, room);
      }

-- the names after their references
module _ (x : List ℕ) where
  any-map : (ks : List Name) → list_any (λ (r : Name). bytes_eq x r.bytes.now) ks ≡ list_any (bytes_eq x) (map (λ (r : Name). r.bytes.now) ks)
  any-map [] = refl
  any-map (r ∷ ks) = ap (λ b. bytes_eq x r.bytes.now || b) (any-map ks)

  pub place-map : (ks : List Name) → position_or_len (λ (r : Name). bytes_eq x r.bytes.now) ks ≡ number_of (map (λ (r : Name). r.bytes.now) ks) x
  place-map [] = refl
  place-map (r ∷ ks) = ap (λ m. cond (not (bytes_eq x r.bytes.now)) (1 + m) 0) (place-map ks)

pub position-map : (x : List ℕ) (ks : List Name) → position (λ (r : Name). bytes_eq x r.bytes.now) ks ≡ position (bytes_eq x) (names_in ks)
position-map x ks = ap₂ (λ (p l : ℕ). cond (nat_lt p l) (Some p) None) (place-map x ks) (sym (length-map ks (λ (r : Name). r.bytes.now)))

pub names-inserted : (ks : List Name) (k : Name)
    → map (λ (r : Name). r.bytes.now) (insert_key (λ (a b : Name). bytes_eq a.bytes.now b.bytes.now) ks k)
    ≡ names_with (map (λ (r : Name). r.bytes.now) ks) k.bytes.now (nat_lt (number_of (map (λ (r : Name). r.bytes.now) ks) k.bytes.now) (length (map (λ (r : Name). r.bytes.now) ks)))
names-inserted ks k =
    ap (λ b. map (λ (r : Name). r.bytes.now) (if b then ks else ks ++ k ∷ [])) (any-map k.bytes.now ks ∙ any_or_len (bytes_eq k.bytes.now) (map (λ (r : Name). r.bytes.now) ks))
    ∙ push (nat_lt (number_of (map (λ (r : Name). r.bytes.now) ks) k.bytes.now) (length (map (λ (r : Name). r.bytes.now) ks)))
  where
    push : (b : Bool) → map (λ (r : Name). r.bytes.now) (if b then ks else ks ++ k ∷ []) ≡ names_with (map (λ (r : Name). r.bytes.now) ks) k.bytes.now b
    push true = refl
    push false = map-append (λ (r : Name). r.bytes.now) ks (k ∷ [])

pub keeps-itself : (s : Sets) → Keeps s s
keeps-itself s = record { more = omega arith; same = λ set l x. refl }

-- the table of no names
empty-table : IsTable []
empty-table = record {
  distinct = λ i j x a b. let l = slice_get_within [] i x a in absurd (omega (arith, l));
  each = λ i x a. let l = slice_get_within [] i x a in absurd (omega (arith, l));
}

first-below : AllBelow 1 []
first-below d n k s h =
    let low : n < 2 = omega (arith, s.known) in
    let none : node_at [] n ≡ None = cond-true _ _ _ (lt-ltb n 2 low) in
    let bottom : IsSet [] 0 n = record { known = s.known; depth = rw none (omega arith) } in
    by (nat_lt 0 n) (nat_eq k 0) refl (sym (raise empty-table 0 d n k (omega arith) bottom) ∙ h)
  where
    by : (a b : Bool) → nat_eq k 0 ≡ b → (a && b) ≡ true → k < 1
    by true true e q = let z : k ≡ 0 = eqb-true _ _ e in omega (arith, z)
    by true false e q = absurd (true≢false (sym q))
    by false b e q = absurd (true≢false (sym q))

pub sound-empty : (names : List (List ℕ)) (nodes : List Node) → names ≡ [] → nodes ≡ [] → IsSound (record { names = names; nodes = nodes })
sound-empty names nodes p q = subst (λ ns. IsSound (record { names = ns; nodes = nodes })) (sym p) (subst (λ ts. IsSound (record { names = []; nodes = ts })) (sym q) (record {
  table = empty-table;
  below = first-below;
  own = λ k l. absurd (omega (arith, l));
  few = omega arith;
}))

-- sets that were made last
pub hint-first : {t : List Node} → IsTable t → IsHint t (record { number = 0; set = 0; all = 1 })
hint-first {t} table = record {
  first = all-set table 0 (omega arith);
  gives = gives-full table (λ k. nat_eq k 0) (λ k. has t full_depth 0 k || nat_eq k 0) 0 1 (omega arith) (λ k. sym (ap (λ b. b || nat_eq k 0) (has-empty t full_depth k)))
      (record { set = record { known = omega arith; depth = omega arith }; members = λ k. refl });
}

pub hint-kept : {t u : List Node} → IsTable t → Grows t u → (h : Hint) → IsHint t h → IsHint u h
hint-kept table g h p = record {
  first = keep-set g _ _ p.first;
  gives = record {
    set = keep-set g _ _ p.gives.set;
    members = λ k.
        keep-has g table full_depth h.all k p.gives.set ∙ p.gives.members k
        ∙ sym (ap (λ b. b || nat_eq k h.number) (keep-has g table full_depth h.set k p.first));
  };
}

pub hints-kept : {t u : List Node} → IsTable t → Grows t u → (hs : List Hint) → HaveHints t hs → HaveHints u hs
hints-kept table g hs h = (h.0, λ k d l. hint-kept table g _ (h.1 k d l))

pub hints-set : (t : List Node) (hs : List Hint) (i : ℕ) (x : Hint) → IsHint t x → HaveHints t hs → HaveHints t (set hs i x)
hints-set t hs i x new h = (length-set hs i x ∙ h.0, All-set (IsHint t) hs i x new h.1)

pub hint-at : (t : List Node) (hs : List Hint) (i : ℕ) (d : Hint) → i < 32 → HaveHints t hs → IsHint t (get_or hs i d)
hint-at t hs i d l h = let long = h.0 in h.1 i d (omega (arith, l, long))

pub hints-first : {t : List Node} → IsTable t → HaveHints t (replicate 32 (record { number = 0; set = 0; all = 1 }))
hints-first {t} table = (refl, All-replicate (IsHint t) 32 _ (hint-first table))

pub made-now : {t u : List Node} → IsTable t → Grows t u → (set number n : ℕ) → set < length t + 2 →
    Gives (λ k. has t full_depth set k || nat_eq k number) u full_depth n → IsHint u (record { number = number; set = set; all = n })
made-now {t} {u} table g set number n l gives = record {
  first = keep-set g _ _ (all-set table set l);
  gives = record {
    set = gives.set;
    members = λ k. gives.members k ∙ sym (ap (λ b. b || nat_eq k number) (keep-has g table full_depth set k (all-set table set l)));
  };
}

-- joins that are kept
pub join-empty : {t : List Node} → IsTable t → IsJoin t (record { a = 0; b = 0; all = 0 })
join-empty {t} table = record {
  first = all-set table 0 (omega arith);
  second = all-set table 0 (omega arith);
  gives = record { set = all-set table 0 (omega arith); members = λ k. has-empty t full_depth k ∙ sym (ap₂ (λ (p q : Bool). p || q) (has-empty t full_depth k) (has-empty t full_depth k)) };
}

pub join-kept : {t u : List Node} → IsTable t → Grows t u → (j : Join) → IsJoin t j → IsJoin u j
join-kept {t} {u} table g j h = record {
  first = keep-set g _ _ h.first;
  second = keep-set g _ _ h.second;
  gives = record {
    set = keep-set g _ _ h.gives.set;
    members = λ k.
        keep-has g table full_depth j.all k h.gives.set ∙ h.gives.members k
        ∙ sym (ap₂ (λ (p q : Bool). p || q) (keep-has g table full_depth j.a k h.first) (keep-has g table full_depth j.b k h.second));
  };
}

pub joins-kept : {t u : List Node} → IsTable t → Grows t u → (js : List Join) → All (IsJoin t) js → All (IsJoin u) js
joins-kept table g js h k d l = join-kept table g _ (h k d l)

-- what was joined last serves for these sets
pub last-serves : {t : List Node} (j : Join) (a b : ℕ) → j.a ≡ a → j.b ≡ b → IsJoin t j → Gives (λ k. has t full_depth a k || has t full_depth b k) t full_depth j.all
last-serves {t} j a b e f h = subst (λ n. Gives (λ k. has t full_depth n k || has t full_depth b k) t full_depth j.all) e (subst (λ n. Gives (λ k. has t full_depth j.a k || has t full_depth n k) t full_depth j.all) f h.gives)

-- and so do those that were joined now
pub joined-now : {t u : List Node} → IsTable t → Grows t u → (a b n : ℕ) → a < length t + 2 → b < length t + 2 →
    Gives (λ k. has t full_depth a k || has t full_depth b k) u full_depth n → IsJoin u (record { a = a; b = b; all = n })
joined-now {t} {u} table g a b n l m gives = record {
  first = keep-set g _ _ (all-set table a l);
  second = keep-set g _ _ (all-set table b m);
  gives = record {
    set = gives.set;
    members = λ k. gives.members k ∙ sym (ap₂ (λ (p q : Bool). p || q) (keep-has g table full_depth a k (all-set table a l)) (keep-has g table full_depth b k (all-set table b m)));
  };
}

-- equal sets of names have one number
pub same-set : (s : Sets) (a b : ℕ) → IsSound s → a < size s → b < size s → ((n : List ℕ) → holds s a n ≡ holds s b n) → a ≡ b
same-set s a b sound a-known b-known same =
    same-number a b (λ k l. sym (in-low s.nodes a k l) ∙ at k (cases_lt k (length s.names)) ∙ in-low s.nodes b k l)
    (one_number sound.table full_depth (a / 4294967296) (b / 4294967296) (known-set s sound a a-known) (known-set s sound b b-known) upper)
  where
    at : (k : ℕ) → (k < length s.names) ⊎ (length s.names ≤ k) → in_set s.nodes a k ≡ in_set s.nodes b k
    at k (inl low) =
        let there = lt-ltb k (length s.names) low in
        let here : (nat_lt k (length s.names) && in_set s.nodes a k) ≡ (nat_lt k (length s.names) && in_set s.nodes b k)
        = subst (λ p. (nat_lt p (length s.names) && in_set s.nodes a p) ≡ (nat_lt p (length s.names) && in_set s.nodes b p)) (sound.own k low) (same (get_or s.names k [])) in
        sym (ap (λ c. c && in_set s.nodes a k) there) ∙ here ∙ ap (λ c. c && in_set s.nodes b k) there
    at k (inr high) = has-past s sound a a-known k high ∙ sym (has-past s sound b b-known k high)

    upper : (k : ℕ) → has s.nodes full_depth (a / 4294967296) k ≡ has s.nodes full_depth (b / 4294967296) k
    upper k =
        let far : 32 ≤ k + 32 = omega arith in
        let back : k + 32 - 32 ≡ k = omega arith in
        sym (in-high s.nodes a (k + 32) far ∙ ap (has s.nodes full_depth (a / 4294967296)) back)
        ∙ at (k + 32) (cases_lt (k + 32) (length s.names))
        ∙ in-high s.nodes b (k + 32) far ∙ ap (has s.nodes full_depth (b / 4294967296)) back

-- a name that has a number is there
pub names-stay : (names : List (List ℕ)) (k : ℕ) (x : List ℕ) → IsNumber names k x → names ≡ names_after names x
names-stay names k x h = let at = h.1 in sym (cond-true (nat_lt (number_of names x) (length names)) names (names ++ x ∷ []) (lt-ltb _ _ (omega (arith, h.0, at))))

-- a look-up of a name
module _ (names : List (List ℕ)) (x : List ℕ) (t : List Node) (set : ℕ) where
  pub holds-some : (number : ℕ) (answer : Bool) → Some number ≡ position (bytes_eq x) names → answer ≡ in_set t set number → answer ≡ holds (record { names = names; nodes = t }) set x
  holds-some number answer at is =
      let p = cond_some _ _ number (sym at) in
      is ∙ ap (in_set t set) (sym p.1) ∙ sym (ap (λ c. c && in_set t set (number_of names x)) p.0)

  pub holds-none : None ≡ position (bytes_eq x) names → false ≡ holds (record { names = names; nodes = t }) set x
  holds-none at = by (nat_lt (number_of names x) (length names)) at
    where
      by : (b : Bool) → None ≡ cond b (Some (number_of names x)) None → false ≡ (b && in_set t set (number_of names x))
      by true h = cc
      by false h = refl
