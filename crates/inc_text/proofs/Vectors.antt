-- Bytes that are tested a vector at a time.
use Rattle.std.proofs.Common.{◌≡◌, ℕ, ◌+◌, ◌*◌, ◌%◌, ◌^◌, ◌<◌, ◌≤◌, Bool, true, false, not, cond, eqb, List, [], ◌∷◌, map, length, drop, replicate, refl, sym, ap, ap₂, ◌∙◌, arith, Fits, w8}
use Rattle.std.specs.List.{prefix_len}
use Rattle.std.proofs.lemmas.Bool.{agree_below, agree_below_at, eq-eqb, ne_eqb}
use Rattle.std.proofs.lemmas.List.{length-map}
use Rattle.std.proofs.lemmas.List.Folds.{prefix_len-append}
use Rattle.std.proofs.lemmas.List.Sums.{prefix_len-le-length}
use Rattle.std.proofs.lemmas.Simd.{map-map, mask_l-mod, chunk-drop, length-chunk, leading_from_mask_l, trailing_mask_l}
use lib.Count.{count_trailing_zeros}
use lib.Lanes.{chunk, zip2, mask_l, top, Each1}

-- an operation on two vectors that were computed from v lane by lane
zip2-map : (h : ℕ → ℕ → ℕ) (f g : ℕ → ℕ) (v : List ℕ) → zip2 h (map f v) (map g v) ≡ map (λ x. h (f x) (g x)) v
zip2-map h f g [] = refl
zip2-map h f g (x ∷ xs) = ap (λ r. h (f x) (g x) ∷ r) (zip2-map h f g xs)

pub joined : (h : ℕ → ℕ → ℕ) (f g : ℕ → ℕ) (v : List ℕ) {a b : List ℕ} → a ≡ map f v → b ≡ map g v → zip2 h a b ≡ map (λ x. h (f x) (g x)) v
joined h f g v p q = ap₂ (zip2 h) p q ∙ zip2-map h f g v

pub one_byte : (v : List ℕ) (n y : ℕ) → length v ≡ n → replicate n y ≡ map (λ _. y) v
one_byte [] n y e = ap (λ k. replicate k y) (sym e)
one_byte (x ∷ xs) n y e = ap (λ k. replicate k y) (sym e) ∙ ap (λ r. y ∷ r) (one_byte xs (length xs) y refl)

-- what is computed lane by lane is held to a test at each of the 256 bytes
same_tests : (f g : ℕ → Bool) (v : List ℕ) → Each1 (Fits w8) v → agree_below f g 256 ≡ true → map f v ≡ map g v
same_tests f g [] fits all = refl
same_tests f g (x ∷ xs) fits all = ap₂ (λ b r. b ∷ r) (agree_below_at f g 256 x all fits.0.fits) (same_tests f g xs fits.1 all)

pub masked : (f : ℕ → ℕ) (test : ℕ → Bool) (v z : List ℕ) → length v ≤ 64 → Each1 (Fits w8) v → z ≡ map f v → agree_below (λ x. top 7 (f x)) test 256 ≡ true
    → mask_l (map (top 7) z) % 2 ^ 64 ≡ mask_l (map test v)
masked f test v z short fits lanes all =
    ap (λ l. mask_l l % 2 ^ 64) (ap (map (top 7)) lanes ∙ map-map (top 7) f v ∙ same_tests (λ x. top 7 (f x)) test v fits all)
    ∙ mask_l-mod (map test v) 64 (omega (arith, length-map v test))

pub twice : (b : Bool) → b ≡ not (not b)
twice true = refl
twice false = refl

-- the bytes at the front of a list that pass, by the mask of those of its first n that fail
module _ (pass fail : ℕ → Bool) (opposite : (x : ℕ) → pass x ≡ not (fail x)) where
  same_run : (xs : List ℕ) → prefix_len pass xs ≡ prefix_len (λ x. not (fail x)) xs
  same_run [] = refl
  same_run (x ∷ xs) = ap₂ (λ b n. cond b (1 + n) 0) (opposite x) (same_run xs)

  none_fails : (b : Bool) (n l m : ℕ) → n ≤ l → cond (not b) (1 + n) 0 ≡ 1 + l → (n ≡ l → m ≡ 0) → cond b 1 0 + 2 * m ≡ 0
  none_fails true n l m le e rest = absurd (omega arith)
  none_fails false n l m le e rest = let none = rest (omega arith) in omega arith

  all_pass : (xs : List ℕ) → prefix_len (λ x. not (fail x)) xs ≡ length xs → mask_l (map fail xs) ≡ 0
  all_pass [] e = refl
  all_pass (x ∷ xs) e = none_fails (fail x) _ (length xs) _ (prefix_len-le-length (λ y. not (fail y)) xs) (omega arith) (all_pass xs)

  module _ (text : List ℕ) (at n : ℕ) (room : at + n ≤ length text) where
    split : prefix_len pass (drop at text)
        ≡ cond (eqb (prefix_len pass (chunk at n text)) (length (chunk at n text))) (length (chunk at n text) + prefix_len pass (drop (at + n) text)) (prefix_len pass (chunk at n text))
    split = ap (prefix_len pass) (chunk-drop at n text) ∙ prefix_len-append pass (chunk at n text) (drop (at + n) text)

    pub run_through : mask_l (map fail (chunk at n text)) ≡ 0 → prefix_len pass (drop at text) ≡ n + prefix_len pass (drop (at + n) text)
    run_through none =
        let c = chunk at n text in
        let rest = prefix_len pass (drop (at + n) text) in
        split ∙ ap (λ b. cond b (length c + rest) (prefix_len pass c)) (eq-eqb _ _ (same_run c ∙ leading_from_mask_l fail c none))
        ∙ ap (λ k. k + rest) (length-chunk at n text room)

    pub run_stops : n ≤ 64 → 0 < mask_l (map fail (chunk at n text)) → prefix_len pass (drop at text) ≡ count_trailing_zeros 64 (mask_l (map fail (chunk at n text)))
    run_stops short some =
        let c = chunk at n text in
        let rest = prefix_len pass (drop (at + n) text) in
        split
        ∙ ap (λ b. cond b (length c + rest) (prefix_len pass c)) (ne_eqb _ _ (λ (e : prefix_len pass c ≡ length c). omega (arith, all_pass c (sym (same_run c) ∙ e))))
        ∙ same_run c ∙ sym (trailing_mask_l fail 64 c (omega (arith, length-chunk at n text room)) some)
