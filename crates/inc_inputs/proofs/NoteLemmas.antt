-- Notes, a line more at a time.
use Rattle.std.proofs.Common.{◌≡◌, ℕ, zero, suc, ◌+◌, ◌≤◌, ◌<◌, true, false, List, [], ◌∷◌, ◌++◌, drop, get_or, length, map, take, inl, inr, refl, sym, ap, ◌∙◌, arith}
use Rattle.std.proofs.lemmas.Bool.{cases_Bool, ltb-true, ltb-false}
use Rattle.std.proofs.lemmas.Grind.{flat_map-append}
use Rattle.std.proofs.lemmas.List.{append-nil, append_assoc, drop_more, length-append, take-append-le}
use Rattle.std.specs.Prelude.{cond, flat_map, nat_lt}
use Rattle.inc_inputs.specs.BuildNotes.{Kept, none, whole, with_line, with_lines}
use Rattle.inc_inputs.specs.BuildReports.{some_lines}
use Rattle.inc_inputs.specs.Reports.{note_line}

pub with_lines-append : (k : Kept) (xs ys : List (List ℕ)) → with_lines k (xs ++ ys) ≡ with_lines (with_lines k xs) ys
with_lines-append k [] ys = refl
with_lines-append k (x ∷ xs) ys = with_lines-append (with_line k x) xs ys

take_all : {X : Type 0} (n : ℕ) (xs : List X) → length xs ≤ n → take n xs ≡ xs
take_all n [] low = take_none n
  where
    take_none : {X : Type 0} (k : ℕ) → take {A = X} k [] ≡ []
    take_none zero = refl
    take_none (suc k) = refl
take_all zero (x ∷ xs) low = absurd (omega (arith, low))
take_all (suc n) (x ∷ xs) low = ap (λ ys. x ∷ ys) (take_all n xs (omega (arith, low)))

-- what is kept of these lines
abbrev of : List (List ℕ) → Kept
of lines = record { text = flat_map note_line (take 10 lines); count = length lines }

one_longer : (done : List (List ℕ)) (line : List ℕ) → length (done ++ line ∷ []) ≡ suc (length done)
one_longer done line = let e = length-append done (line ∷ []) in omega (arith, e)

longer : (done : List (List ℕ)) (line : List ℕ) → with_line (of done) line ≡ of (done ++ line ∷ [])
longer done line =
    elim (cases_Bool (nat_lt (length done) 10)) [
      | inl few ↦
          let low : length done < 10 = ltb-true _ _ few in
          let all : length (done ++ line ∷ []) ≤ 10 = omega (arith, low, one_longer done line) in
          let text : flat_map note_line (take 10 done) ++ note_line line ≡ flat_map note_line (take 10 (done ++ line ∷ [])) =
          ap (λ ls. flat_map note_line ls ++ note_line line) (take_all 10 done (omega (arith, low)))
          ∙ ap (λ (t : List ℕ). flat_map note_line done ++ t) (sym (append-nil (note_line line)))
          ∙ sym (flat_map-append note_line done (line ∷ []))
          ∙ ap (λ ls. flat_map note_line ls) (sym (take_all 10 (done ++ line ∷ []) all)) in
          made (nat_lt (length done) 10) few text (sym (one_longer done line))
      | inr many ↦
          let high : 10 ≤ length done = ltb-false _ _ many in
          skipped (nat_lt (length done) 10) many (ap (λ ls. flat_map note_line ls) (sym (take-append-le 10 done (line ∷ []) high))) (sym (one_longer done line))
    ]
  where
    both : {t u : List ℕ} {m n : ℕ} → t ≡ u → m ≡ n → record { text = t; count = m } ≡ (let k : Kept = record { text = u; count = n } in k)
    both e f = rw (e, f) refl

    made : (b : _) → b ≡ true → flat_map note_line (take 10 done) ++ note_line line ≡ flat_map note_line (take 10 (done ++ line ∷ []))
        → suc (length done) ≡ length (done ++ line ∷ [])
        → record { text = cond b (flat_map note_line (take 10 done) ++ note_line line) (flat_map note_line (take 10 done)); count = suc (length done) } ≡ of (done ++ line ∷ [])
    made true is e f = both e f
    made false is e f = cc

    skipped : (b : _) → b ≡ false → flat_map note_line (take 10 done) ≡ flat_map note_line (take 10 (done ++ line ∷ []))
        → suc (length done) ≡ length (done ++ line ∷ [])
        → record { text = cond b (flat_map note_line (take 10 done) ++ note_line line) (flat_map note_line (take 10 done)); count = suc (length done) } ≡ of (done ++ line ∷ [])
    skipped false is e f = both e f
    skipped true is e f = cc

kept_of : (done lines : List (List ℕ)) → with_lines (of done) lines ≡ of (done ++ lines)
kept_of done [] = ap of (sym (append-nil done))
kept_of done (l ∷ ls) =
    ap (λ k. with_lines k ls) (longer done l) ∙ kept_of (done ++ l ∷ []) ls ∙ ap of (append_assoc done (l ∷ []) ls)

-- all of them are some lines
pub whole_some : (lines : List (List ℕ)) → whole (with_lines none lines) ≡ some_lines lines
whole_some lines = ap whole (kept_of [] lines)

-- a note after a text, piece by piece
pub note_put : (old front line end : List ℕ) → ((old ++ front) ++ line) ++ end ≡ old ++ ((front ++ line) ++ end)
note_put old front line end =
    append_assoc (old ++ front) line end ∙ append_assoc old front (line ++ end) ∙ ap (λ t. old ++ t) (sym (append_assoc front line end))

-- the line of one more element of a list
pub line_more : {X : Type 0} (f : X → List ℕ) (xs : List X) (at : ℕ) (d : X) (k l : Kept) → at < length xs → l ≡ with_line k (f (get_or xs at d))
    → with_lines l (map f (drop (at + 1) xs)) ≡ with_lines k (map f (drop at xs))
line_more f xs at d k l low is =
    ap (λ (n : Kept). with_lines n (map f (drop (at + 1) xs))) is ∙ ap (λ (ys : List _). with_lines k (map f ys)) (sym (drop_more xs at d low))
