-- Bytes that are copied to an earlier place of their list, a part at a time.
use Rattle.std.proofs.Common.{◌≡◌, ℕ, ◌+◌, ◌-◌, ◌≤◌, List, ◌++◌, length, take, drop, refl, sym, ap, ◌∙◌, arith, take-add}
use Rattle.std.proofs.lemmas.List.{append_assoc, drop-drop, length-drop}
use Rattle.std.proofs.lemmas.List.Edits.{take-paste, drop-paste}
use Rattle.std.proofs.lemmas.Simd.{take_more_put_chunk, put_chunk_is, length-chunk}
use Rattle.std.proofs.lemmas.Slice.{drop-put_mid}
use Rattle.std.specs.List.{copy_within}
use lib.Lanes.{chunk, put_chunk}

-- k bytes more are at their place
front_more : (old xs new : List ℕ) (from to i k : ℕ) → take (to + i) xs ≡ take to old ++ take i (drop from old) → drop (from + i) xs ≡ drop (from + i) old → take (to + i + k) new ≡ take (to + i) xs ++ take k (drop (from + i) xs)
    → take (to + (i + k)) new ≡ take to old ++ take (i + k) (drop from old)
front_more old xs new from to i k front back put =
    let e : to + (i + k) ≡ to + i + k = omega arith in
    ap (λ n. take n new) e ∙ (put ∙ (ap (λ x. x ++ take k (drop (from + i) xs)) front ∙ (append_assoc (take to old) (take i (drop from old)) (take k (drop (from + i) xs))
    ∙ ap (λ x. take to old ++ x) (ap (λ x. take i (drop from old) ++ take k x) (back ∙ sym (drop-drop i from old)) ∙ sym (take-add i k (drop from old))))))

-- what is behind them stays
back_more : (old xs new : List ℕ) (from i k n : ℕ) → n ≡ from + i + k → drop (from + i) xs ≡ drop (from + i) old → drop n new ≡ drop n xs → drop n new ≡ drop n old
back_more old xs new from i k n e back put =
    put ∙ (ap (λ m. drop m xs) e ∙ (sym (drop-drop k (from + i) xs) ∙ (ap (drop k) back ∙ (drop-drop k (from + i) old ∙ ap (λ m. drop m old) (sym e)))))

-- a vector's bytes
pub chunk_front : (old xs : List ℕ) (from to i k : ℕ) → to ≤ from → from + i + k ≤ length xs → take (to + i) xs ≡ take to old ++ take i (drop from old) → drop (from + i) xs ≡ drop (from + i) old
    → take (to + (i + k)) (put_chunk (to + i) xs (chunk (from + i) k xs)) ≡ take to old ++ take (i + k) (drop from old)
chunk_front old xs from to i k down within front back =
    let ys : List ℕ = chunk (from + i) k xs in
    let long : length ys ≡ k = length-chunk (from + i) k xs within in
    front_more old xs (put_chunk (to + i) xs ys) from to i k front back (take_more_put_chunk (to + i) xs ys (to + i + k) (omega arith) (omega arith))

pub chunk_back : (old xs : List ℕ) (from to i k : ℕ) → to ≤ from → from + i + k ≤ length xs → drop (from + i) xs ≡ drop (from + i) old
    → drop (from + (i + k)) (put_chunk (to + i) xs (chunk (from + i) k xs)) ≡ drop (from + (i + k)) old
chunk_back old xs from to i k down within back =
    let ys : List ℕ = chunk (from + i) k xs in
    let long : length ys ≡ k = length-chunk (from + i) k xs within in
    let n : ℕ = from + (i + k) in
    let put : drop n (put_chunk (to + i) xs ys) ≡ drop n xs = ap (drop n) (put_chunk_is (to + i) xs ys (omega arith)) ∙ drop-put_mid (to + i) (length ys) xs ys n (omega arith) (omega arith) refl in
    back_more old xs (put_chunk (to + i) xs ys) from i k n (omega arith) back put

-- the last bytes
pub rest_front : (old xs new : List ℕ) (from to i n : ℕ) → to ≤ from → i ≤ n → from + n ≤ length xs → take (to + i) xs ≡ take to old ++ take i (drop from old) → drop (from + i) xs ≡ drop (from + i) old → new ≡ copy_within xs (from + i) (from + n) (to + i)
    → take (to + n) new ≡ take to old ++ take n (drop from old)
rest_front old xs new from to i n down le within front back is =
    let k : ℕ = from + n - (from + i) in
    let long : length (drop (from + i) xs) ≡ length xs - (from + i) = length-drop (from + i) xs in
    let e : i + k ≡ n = omega arith in
    rw (← e) (front_more old xs new from to i k front back (ap (take (to + i + k)) is ∙ take-paste xs (to + i) (drop (from + i) xs) k (omega arith) (omega arith)))

pub rest_back : (old xs new : List ℕ) (from to i n : ℕ) → to ≤ from → i ≤ n → from + n ≤ length xs → drop (from + i) xs ≡ drop (from + i) old → new ≡ copy_within xs (from + i) (from + n) (to + i)
    → drop (from + n) new ≡ drop (from + n) old
rest_back old xs new from to i n down le within back is =
    let k : ℕ = from + n - (from + i) in
    let long : length (drop (from + i) xs) ≡ length xs - (from + i) = length-drop (from + i) xs in
    let e : from + n ≡ (to + i + k) + (from - to) = omega arith in
    let pasted : List ℕ = copy_within xs (from + i) (from + n) (to + i) in
    let put : drop (from + n) new ≡ drop (from + n) xs = ap (drop (from + n)) is ∙ (ap (λ m. drop m pasted) e ∙ (sym (drop-drop (from - to) (to + i + k) pasted)
    ∙ (ap (drop (from - to)) (drop-paste xs (to + i) (drop (from + i) xs) k (omega arith) (omega arith)) ∙ (drop-drop (from - to) (to + i + k) xs ∙ ap (λ m. drop m xs) (sym e))))) in
    back_more old xs new from i k (from + n) (omega arith) back put
