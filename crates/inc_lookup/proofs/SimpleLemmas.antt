-- Simple names, a vector at a time, and that they are plain.
use Rattle.std.proofs.Common.{◌≡◌, ℕ, zero, suc, ◌+◌, ◌-◌, ◌%◌, ◌^◌, ◌<◌, ◌≤◌, Bool, true, false, ◌||◌, ◌&&◌, cond, List, [], ◌∷◌, length, drop, get_or, map, replicate, bit_and, bit_or, inl, inr, refl, sym, ap, ap₂, ◌∙◌, arith}
use Rattle.std.specs.Prelude.{◌==◌, not}
use Rattle.std.specs.List.{list_all, onto_first}
use Rattle.std.proofs.lemmas.Bool.{and_from, or_parts, or_from, true≢false, false≢true, cases_Bool, not_from_false, eqb-true}
use Rattle.std.proofs.lemmas.List.Splits.{slice_split-cons_yes, slice_split-cons_no}
use Rattle.std.proofs.lemmas.Simd.{length-zip2, get_or-zip2, zip2_splat, mask_l-mod, length-chunk, get_or-chunk}
use lib.Lanes.{chunk, zip2, mask_l, top}
use Rattle.inc_lookup.specs.Paths.{components, is_absolute}
use Rattle.inc_lookup.specs.PathParts.{is_kept}
use Rattle.inc_lookup.specs.SimpleNames.{breaks, has_end, is_simple, is_simple_after}
use Rattle.inc_lookup.proofs.PathLemmas.{has_slash}

---- the lanes of two vectors

-- a lane of a comparison
abbrev lane : Bool → ℕ
lane b = cond b 255 0

lane_or : (a b : Bool) → bit_or (lane a) (lane b) ≡ lane (a || b)
lane_or true true = refl
lane_or true false = refl
lane_or false true = refl
lane_or false false = refl

lane_bit : (a b c : Bool) → top 7 (bit_or (lane a) (bit_and (lane b) (lane c))) ≡ (a || (b && c))
lane_bit true true true = refl
lane_bit true true false = refl
lane_bit true false true = refl
lane_bit true false false = refl
lane_bit false true true = refl
lane_bit false true false = refl
lane_bit false false true = refl
lane_bit false false false = refl

-- a byte that is one of two
abbrev one_of : ℕ → ℕ → ℕ → Bool
one_of x y b = (b == x) || (b == y)

abbrev equals : ℕ → ℕ → ℕ
equals b x = lane (b == x)

either : (x y : ℕ) (v : List ℕ) → length v ≡ 16 → zip2 bit_or (zip2 equals v (replicate 16 x)) (zip2 equals v (replicate 16 y)) ≡ map (λ b. lane (one_of x y b)) v
either x y v long = ap₂ (zip2 bit_or) (zip2_splat equals v 16 x long) (zip2_splat equals v 16 y long) ∙ both v
  where
    both : (v : List ℕ) → zip2 bit_or (map (λ b. equals b x) v) (map (λ b. equals b y) v) ≡ map (λ b. lane (one_of x y b)) v
    both [] = refl
    both (b ∷ v) = ap₂ (λ a r. a ∷ r) (lane_or (b == x) (b == y)) (both v)

bits : (v w : List ℕ) → map (top 7) (zip2 bit_or (map (λ b. lane (one_of 0 10 b)) w) (zip2 bit_and (map (λ b. equals b 47) v) (map (λ b. lane (one_of 47 46 b)) w))) ≡ zip2 breaks v w
bits [] [] = refl
bits [] (y ∷ w) = refl
bits (x ∷ v) [] = refl
bits (x ∷ v) (y ∷ w) = ap₂ (λ a r. a ∷ r) (lane_bit (one_of 0 10 y) (x == 47) (one_of 47 46 y)) (bits v w)

pub breaks_mask : (v w : List ℕ) → length v ≡ 16 → length w ≡ 16
    → mask_l (map (top 7) (zip2 bit_or (zip2 bit_or (zip2 equals w (replicate 16 0)) (zip2 equals w (replicate 16 10))) (zip2 bit_and (zip2 equals v (replicate 16 47)) (zip2 bit_or (zip2 equals w (replicate 16 47)) (zip2 equals w (replicate 16 46)))))) % 2 ^ 64
    ≡ mask_l (zip2 breaks v w)
breaks_mask v w long other =
    let size : length (zip2 breaks v w) ≡ 16 = length-zip2 breaks v w (long ∙ sym other) ∙ long in
    ap (λ l. mask_l (map (top 7) l) % 2 ^ 64) (ap₂ (zip2 bit_or) (either 0 10 w other) (ap₂ (zip2 bit_and) (zip2_splat equals v 16 47 long) (either 47 46 w other)))
    ∙ ap (λ l. mask_l l % 2 ^ 64) (bits v w)
    ∙ mask_l-mod (zip2 breaks v w) 64 (omega arith)

pub none_set : (ms : List Bool) (i : ℕ) → mask_l ms ≡ 0 → get_or ms i false ≡ false
none_set [] i none = refl
none_set (true ∷ ms) i none = absurd (omega arith)
none_set (false ∷ ms) zero none = refl
none_set (false ∷ ms) (suc i) none = none_set ms i (omega arith)

-- no byte of a vector breaks
pub none_breaks : (name : List ℕ) (at : ℕ) → at + 17 ≤ length name → mask_l (zip2 breaks (chunk at 16 name) (chunk (at + 1) 16 name)) ≡ 0
    → (k : ℕ) → at ≤ k → k < at + 16 → breaks (get_or name k 0) (get_or name (k + 1) 0) ≡ false
none_breaks name at room none k from to =
    let low : k - at < 16 = omega arith in
    let here : at + (k - at) ≡ k = omega arith in
    let next : at + 1 + (k - at) ≡ k + 1 = omega arith in
    let long = length-chunk at 16 name (omega arith) in
    let other = length-chunk (at + 1) 16 name (omega arith) in
    let first = get_or-chunk at 16 name (k - at) 0 low ∙ ap (λ i. get_or name i 0) here in
    let second = get_or-chunk (at + 1) 16 name (k - at) 0 low ∙ ap (λ i. get_or name i 0) next in
    ap₂ breaks (sym first) (sym second)
    ∙ sym (get_or-zip2 breaks (chunk at 16 name) (chunk (at + 1) 16 name) (k - at) 0 0 false (omega arith) (omega arith))
    ∙ none_set (zip2 breaks (chunk at 16 name) (chunk (at + 1) 16 name)) (k - at) none

---- the whole, by its places

pub simple_rest : (before : ℕ) (xs : List ℕ) → ((k : ℕ) → k < length xs → breaks (get_or (before ∷ xs) k 0) (get_or xs k 0) ≡ false) → (get_or (before ∷ xs) (length xs) 0 == 47) ≡ false
    → is_simple_after before xs ≡ true
simple_rest before [] none last = not_from_false _ last
simple_rest before (b ∷ bs) none last = rw (none 0 (omega arith)) (simple_rest b bs (λ k low. none (suc k) (omega arith)) last)

-- no byte breaks, and the last is no /
pub simple_from : (name : List ℕ) → 0 < length name → breaks 47 (get_or name 0 0) ≡ false → ((k : ℕ) → k + 1 < length name → breaks (get_or name k 0) (get_or name (k + 1) 0) ≡ false)
    → (get_or name (length name - 1) 0 == 47) ≡ false → is_simple name ≡ true
simple_from [] some first pairs last = absurd (omega arith)
simple_from (b ∷ bs) some first pairs last =
    let end : suc (length bs) - 1 ≡ length bs = omega arith in
    rw first (
    simple_rest b bs
    (λ k low. let one : k + 1 ≡ suc k = omega arith in rw one at (pairs k (omega arith)))
    (ap (λ i. get_or (b ∷ bs) i 0 == 47) (sym end) ∙ last))

---- simple names are plain

-- what is after a byte of a simple name: the rest of its component, and plain ones
record IsSimpleRest (before : ℕ) (xs : List ℕ) : Type 0 where
  first : List ℕ
  others : List (List ℕ)
  are : components xs ≡ first ∷ others
  bare : has_slash first ≡ false
  kept : list_all is_kept others ≡ true
  here : (before == 47) ≡ true → is_kept first ≡ true
  one_line : has_end xs ≡ false

pub simple_cut : (b : Bool) (rest : Bool) → cond b false rest ≡ true → (b ≡ false) × (rest ≡ true)
simple_cut true rest e = absurd (false≢true e)
simple_cut false rest e = (refl, e)

-- a component that does not begin with .
kept_name : (x : ℕ) (p : List ℕ) → (x == 47) ≡ false → (x == 46) ≡ false → has_slash p ≡ false → is_kept (x ∷ p) ≡ true
kept_name x p other dot bare = rw (other, bare, dot) refl

simple_plain : (before : ℕ) (xs : List ℕ) → is_simple_after before xs ≡ true → IsSimpleRest before xs
simple_plain before [] simple = record {
  first = [];
  others = [];
  are = refl;
  bare = refl;
  kept = refl;
  here = λ slash. absurd (false≢true (sym (ap not slash) ∙ simple));
  one_line = refl;
}
simple_plain before (x ∷ xs) simple =
    let cut = simple_cut (breaks before x) (is_simple_after x xs) simple in
    let parts = or_parts (one_of 0 10 x) ((before == 47) && one_of 47 46 x) cut.0 in
    let rest = simple_plain x xs cut.1 in
    let line : has_end (x ∷ xs) ≡ false = or_from (one_of 0 10 x) (has_end xs) parts.0 rest.one_line in
    let start : (before == 47) ≡ true → one_of 47 46 x ≡ false = λ slash. sym (ap (λ b. b && one_of 47 46 x) slash) ∙ parts.1 in
    elim (cases_Bool (x == 47)) [
      | inl is ↦ record {
        first = [];
        others = components xs;
        are = slice_split-cons_yes (λ b. b == 47) x xs is;
        bare = refl;
        kept = ap (list_all is_kept) rest.are ∙ and_from _ _ (rest.here is) rest.kept;
        here = λ slash. absurd (true≢false (sym is ∙ (or_parts (x == 47) (x == 46) (start slash)).0));
        one_line = line;
      }
      | inr isnt ↦ record {
        first = x ∷ rest.first;
        others = rest.others;
        are = slice_split-cons_no (λ b. b == 47) x xs isnt ∙ ap (onto_first x) rest.are;
        bare = or_from (x == 47) (has_slash rest.first) isnt rest.bare;
        kept = rest.kept;
        here = λ slash. kept_name x rest.first isnt (or_parts (x == 47) (x == 46) (start slash)).1 rest.bare;
        one_line = line;
      }
    ]

pub simple-plain : (name : List ℕ) → is_simple name ≡ true → list_all is_kept (components name) ≡ true
simple-plain name simple =
    let r = simple_plain 47 name simple in ap (list_all is_kept) r.are ∙ and_from _ _ (r.here refl) r.kept

pub simple-one_line : (name : List ℕ) → is_simple name ≡ true → has_end name ≡ false
simple-one_line name simple = (simple_plain 47 name simple).one_line

-- after a / too
pub rooted-one_line : (path : List ℕ) → is_absolute path ≡ true → is_simple (drop 1 path) ≡ true → has_end path ≡ false
rooted-one_line [] root simple = absurd (false≢true root)
rooted-one_line (b ∷ bs) root simple = or_from (one_of 0 10 b) (has_end bs) (ap (one_of 0 10) (eqb-true b 47 root)) (simple-one_line bs simple)
