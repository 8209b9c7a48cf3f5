-- How many LFs are before a place, by blocks.
use Rattle.std.proofs.Common.{◌≡◌, ℕ, zero, suc, ◌+◌, ◌-◌, ◌*◌, ◌/◌, ◌%◌, ◌^◌, ◌<◌, ◌≤◌, Bool, true, false, not, cond, map, List, [], ◌∷◌, ◌++◌, length, take, drop, get_or, count_by, refl, sym, ap, ◌∙◌, arith, below_more}
use Rattle.std.proofs.lemmas.List.{length-drop, length-take, take-map, take-take, take_all, take_rest, take-append-drop, get_or_append_left, get_or_push}
use Rattle.std.specs.Simd.Lanes.{chunk, mask_l}
use Rattle.std.specs.Int.RustNames.{count_ones}
use Rattle.std.proofs.Math.Nat.{mod-one, zero-mod}
use Rattle.std.proofs.lemmas.Nat.{mod-pow-add}
use Rattle.std.proofs.lemmas.Simd.{ones-mask_l}
use Rattle.std.proofs.Math.Nat.{min-le_left}
use Rattle.std.proofs.lemmas.List.Sums.{count_by-le-length, count_by_more_no, count_by_more_yes}
use Rattle.std.specs.List.{prefix_len}
use Rattle.std.proofs.lemmas.List.Sums.{prefix_len-le-length, prefix_len_passes, prefix_len_stops}
use Rattle.inc_text.specs.LineFeeds.{is_inside}
use Rattle.inc_text.specs.Origins.{IsMapped}
use Rattle.inc_text.specs.declared.origins.Origin.{Origin}
use Rattle.inc_text.proofs.PhaseLemmas.{lf, count_cons, count_append}
use Rattle.inc_text.specs.declared.devices.TheConstants.{LONGEST_FILE}

false_from_not : (b : Bool) → not b ≡ true → b ≡ false
false_from_not true e = sym e
false_from_not false e = refl

true_from_not : (b : Bool) → not b ≡ false → b ≡ true
true_from_not true e = refl
true_from_not false e = sym e

-- LFs up to a place, and from there on
take_none : (n : ℕ) → take {A = ℕ} n [] ≡ []
take_none zero = refl
take_none (suc n) = refl

pub count_more : (bytes : List ℕ) (at n : ℕ) → count_by lf (take (at + n) bytes) ≡ count_by lf (take at bytes) + count_by lf (take n (drop at bytes))
count_more bytes zero n =
    let none : count_by lf [] ≡ 0 = refl in
    let e : 0 + n ≡ n = omega arith in
    ap (λ k. count_by lf (take k bytes)) e ∙ (omega (arith, none))
count_more [] (suc at) n =
    let first : count_by lf (take (suc at + n) []) ≡ 0 = ap (count_by lf) (take_none (suc at + n)) in
    let before : count_by lf (take (suc at) []) ≡ 0 = refl in
    let after : count_by lf (take n (drop (suc at) [])) ≡ 0 = ap (count_by lf) (take_none n) in
    omega (arith, first, before, after)
count_more (b ∷ bs) (suc at) n =
    let e : suc at + n ≡ suc (at + n) = omega arith in
    ap (λ k. count_by lf (take k (b ∷ bs))) e
    ∙ omega (arith, count_cons b (take (at + n) bs), count_cons b (take at bs), count_more bs at n)

-- the LFs before a place, from those before another
pub count_on : (bytes : List ℕ) (from at before n : ℕ) → from ≤ at → before ≡ count_by lf (take from bytes) → n ≡ count_by lf (take (at - from) (drop from bytes))
    → before + n ≡ count_by lf (take at bytes)
count_on bytes from at before n le is more =
    let e : from + (at - from) ≡ at = omega arith in
    ap (λ m. m + n) is ∙ ap (λ m. count_by lf (take from bytes) + m) more
    ∙ sym (count_more bytes from (at - from)) ∙ ap (λ m. count_by lf (take m bytes)) e

-- one block more, the last of which may be short
block_by : (bytes : List ℕ) (start end left : ℕ) → start ≤ end → end ≤ length bytes → (end < start + 512 → end ≡ length bytes) → start + 512 - end ≡ left → end ≤ start + 512
    → take (end - start) (drop start bytes) ≡ take 512 (drop start bytes)
block_by bytes start end zero le within short is long = let e : end - start ≡ 512 = omega arith in ap (λ k. take k (drop start bytes)) e
block_by bytes start end (suc left) le within short is long =
    let all : end ≡ length bytes = short (omega arith) in
    let size = length-drop start bytes in
    take_all (end - start) (drop start bytes) (omega (arith, size)) ∙ sym (take_all 512 (drop start bytes) (omega (arith, size)))

pub whole_block : (bytes : List ℕ) (start end : ℕ) → start ≤ end → end ≤ length bytes → (end < start + 512 → end ≡ length bytes) → end ≤ start + 512
    → take (end - start) (drop start bytes) ≡ take 512 (drop start bytes)
whole_block bytes start end le within short long = block_by bytes start end (start + 512 - end) le within short refl long

pub next_block : (bytes : List ℕ) (k passed n : ℕ) → passed ≡ count_by lf (take (k * 512) bytes) → n ≡ count_by lf (take 512 (drop (k * 512) bytes))
    → passed + n ≡ count_by lf (take ((k + 1) * 512) bytes)
next_block bytes k passed n is more =
    let size : 512 ≡ (k + 1) * 512 - k * 512 = omega arith in
    count_on bytes (k * 512) ((k + 1) * 512) passed n (omega arith) is (more ∙ ap (λ m. count_by lf (take m (drop (k * 512) bytes))) size)

count_part : (n : ℕ) (bytes : List ℕ) → count_by lf (take n bytes) ≤ count_by lf bytes
count_part zero bytes = let none : count_by lf [] ≡ 0 = refl in omega (arith, none)
count_part (suc n) [] = omega arith
count_part (suc n) (b ∷ bs) = omega (arith, count_cons b (take n bs), count_cons b bs, count_part n bs)

pub count_short : (n : ℕ) (bytes : List ℕ) → count_by lf (take n bytes) ≤ length bytes
count_short n bytes = omega (arith, count_part n bytes, count_by-le-length lf bytes)

-- a line is a number of 32 bits
pub lines_few : (origins : List Origin) (splices bytes : List ℕ) (at lines k : ℕ) → IsMapped origins splices bytes → lines ≡ count_by lf (take at bytes)
    → k ≤ length splices → lines + k ≤ LONGEST_FILE + 1
lines_few origins splices bytes at lines k h is le = omega (arith, h.few, is, le, count_part at bytes)

pub pushed_count : (bytes counts after : List ℕ) (k passed : ℕ) → length counts ≡ k → after ≡ counts ++ passed ∷ []
    → ((i : ℕ) → i < k → get_or counts i 0 ≡ count_by lf (take (i * 512) bytes)) → passed ≡ count_by lf (take (k * 512) bytes)
    → (i : ℕ) → i < k + 1 → get_or after i 0 ≡ count_by lf (take (i * 512) bytes)
pushed_count bytes counts after k passed all is each next =
    below_more _ _
    (λ i lt. ap (λ xs. get_or xs i 0) is ∙ get_or_append_left counts (passed ∷ []) 0 i (omega arith) ∙ each i lt)
    (ap (λ xs. get_or xs k 0) is ∙ get_or_push counts passed 0 k all ∙ next)

-- one vector more, and the bytes after the last
pub vector_count : (bytes : List ℕ) (at before n : ℕ) → at + 16 ≤ length bytes → before ≡ count_by lf (take at bytes)
    → n ≡ count_by lf (chunk at 16 bytes) → before + n ≡ count_by lf (take (at + 16) bytes)
vector_count bytes at before n le is more =
    let size : 16 ≡ at + 16 - at = omega arith in
    let lanes : chunk at 16 bytes ≡ take 16 (drop at bytes) = refl in
    count_on bytes at (at + 16) before n (omega arith) is (more ∙ ap (count_by lf) (lanes ∙ ap (λ k. take k (drop at bytes)) size))

pub rest_count : (bytes : List ℕ) (at before n : ℕ) → before ≡ count_by lf (take at bytes) → n ≡ count_by lf (take (length bytes - at) (drop at bytes))
    → before + n ≡ count_by lf bytes
rest_count bytes at before n is more =
    ap (λ m. m + n) is ∙ ap (λ m. count_by lf (take at bytes) + m) (more ∙ ap (count_by lf) (take_rest bytes at))
    ∙ sym (count_append (take at bytes) (drop at bytes)) ∙ ap (count_by lf) (take-append-drop at bytes)

-- no LF is before the first one, and up to its end it is the only one
pub none_before : (bytes : List ℕ) (n : ℕ) → n ≤ prefix_len is_inside bytes → (i : ℕ) → i ≤ n → count_by lf (take i bytes) ≡ 0
none_before bytes n le zero h = refl
none_before bytes n le (suc i) h =
    let e : suc i ≡ i + 1 = omega arith in
    let most = prefix_len-le-length is_inside bytes in
    ap (λ k. count_by lf (take k bytes)) e
    ∙ (count_by_more_no lf bytes i 0 (omega (arith, most)) (false_from_not (lf (get_or bytes i 0)) (prefix_len_passes is_inside bytes i 0 (omega arith)))
    ∙ none_before bytes n le i (omega arith))

pub one_at : (bytes : List ℕ) (n : ℕ) → n ≡ prefix_len is_inside bytes → n < length bytes → 1 ≡ count_by lf (take (n + 1) bytes)
one_at bytes n is lt =
    let stops = ap (λ k. is_inside (get_or bytes k 0)) is ∙ prefix_len_stops is_inside bytes 0 (omega (arith, is)) in
    sym (count_by_more_yes lf bytes n 0 lt (true_from_not (lf (get_or bytes n 0)) stops) ∙ ap (λ k. k + 1) (none_before bytes n (omega (arith, is)) n (omega arith)))

-- the LFs before a place of a stretch, of which those up to there are counted
pub count_up : (bytes : List ℕ) (from len end before n : ℕ) → len ≤ length (take (end - from) (drop from bytes)) → before ≡ count_by lf (take from bytes)
    → n ≡ count_by lf (take len (take (end - from) (drop from bytes))) → before + n ≡ count_by lf (take (from + len) bytes)
count_up bytes from len end before n le is more =
    let size : len ≡ from + len - from = omega arith in
    let short : len ≤ end - from = omega (arith, le, length-take (end - from) (drop from bytes), min-le_left (end - from) (length (drop from bytes))) in
    count_on bytes from (from + len) before n (omega arith) is
    (more ∙ ap (count_by lf) (take-take len (end - from) (drop from bytes) short) ∙ ap (λ k. count_by lf (take k (drop from bytes))) size)

-- a place before the end of the line that a stretch begins on
pub count_within : (bytes : List ℕ) (from place len end before : ℕ) → from ≤ place → place < from + len → len ≤ length (take (end - from) (drop from bytes))
    → before ≡ count_by lf (take from bytes) → ((i : ℕ) → i < len → count_by lf (take i (take (end - from) (drop from bytes))) ≡ 0) → count_by lf (take place bytes) ≡ before
count_within bytes from place len end before low high le is none =
    let short : place - from ≤ end - from = omega (arith, low, high, le, length-take (end - from) (drop from bytes), min-le_left (end - from) (length (drop from bytes))) in
    let no : 0 ≡ count_by lf (take (place - from) (drop from bytes)) =
    sym (none (place - from) (omega (arith, low, high))) ∙ ap (count_by lf) (take-take (place - from) (end - from) (drop from bytes) short) in
    sym (count_on bytes from place before 0 low is no) ∙ omega arith

-- the LFs among the first lanes of a vector
lowest : (b : Bool) (n : ℕ) → ((cond b 1 0 + 2 * n) % 2 ≡ cond b 1 0) × ((cond b 1 0 + 2 * n) / 2 ≡ n)
lowest true n = omega arith
lowest false n = omega arith

mask_l-take : (k : ℕ) (ms : List Bool) → mask_l ms % 2 ^ k ≡ mask_l (take k ms)
mask_l-take zero ms = mod-one (mask_l ms)
mask_l-take (suc k) [] = zero-mod (2 ^ suc k)
mask_l-take (suc k) (m ∷ ms) =
    let n = mask_l (m ∷ ms) in
    let rest = mask_l (take k ms) in
    let e : suc k ≡ k + 1 = omega arith in
    ap (λ j. n % 2 ^ j) e ∙ mod-pow-add n k 1
    ∙ ap (λ h. (h % 2 ^ k) * 2 + n % 2) (lowest m (mask_l ms)).1
    ∙ ap (λ l. (mask_l ms % 2 ^ k) * 2 + l) (lowest m (mask_l ms)).0
    ∙ ap (λ h. h * 2 + cond m 1 0) (mask_l-take k ms)
    ∙ omega arith

pub ones_of_first : (p : ℕ → Bool) (k : ℕ) (xs : List ℕ) → count_ones (mask_l (map p xs) % 2 ^ k) ≡ count_by p (take k xs)
ones_of_first p k xs =
    ap count_ones (mask_l-take k (map p xs) ∙ ap mask_l (take-map p k xs)) ∙ ones-mask_l p (take k xs)

-- those from a place on, by the vector there
pub count_between : (bytes : List ℕ) (from len n : ℕ) → len ≤ 16 → n ≡ count_by lf (take len (chunk from 16 bytes)) → n ≡ count_by lf (take len (drop from bytes))
count_between bytes from len n le is = is ∙ ap (count_by lf) (take-take len 16 (drop from bytes) le)

-- those from one place up to another, of which those up to a place between are counted
pub vector_between : (bytes : List ℕ) (from at count n : ℕ) → at + 16 ≤ length bytes → count_by lf (take from bytes) + count ≡ count_by lf (take at bytes)
    → n ≡ count_by lf (chunk at 16 bytes) → count_by lf (take from bytes) + (count + n) ≡ count_by lf (take (at + 16) bytes)
vector_between bytes from at count n le is more =
    omega (arith, vector_count bytes at (count_by lf (take from bytes) + count) n le is more)

pub all_between : (bytes : List ℕ) (from at to count n : ℕ) → from ≤ at → at ≤ to → count_by lf (take from bytes) + count ≡ count_by lf (take at bytes)
    → n ≡ count_by lf (take (to - at) (drop at bytes)) → count + n ≡ count_by lf (take (to - from) (drop from bytes))
all_between bytes from at to count n low high is more =
    let parts = count_on bytes at to (count_by lf (take from bytes) + count) n high is more in
    let whole = count_on bytes from to (count_by lf (take from bytes)) (count_by lf (take (to - from) (drop from bytes))) (omega (arith, low, high)) refl refl in
    omega (arith, parts, whole)
