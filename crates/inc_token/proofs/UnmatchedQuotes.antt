-- Quotes that begin no literal: where one does not close on its line, none of that kind does that begins after it on the line. A backslash
-- takes the next byte with it in both alike, since after a quote no byte is escaped.
use Rattle.std.proofs.Common.{◌≡◌, ℕ, zero, suc, ◌+◌, ◌-◌, ◌<◌, ◌≤◌, ◌==◌, Bool, true, false, not, cond, List, [], ◌∷◌, length, drop, get_or, refl, sym, ap, ◌∙◌, subst, arith}
use Rattle.std.specs.List.{prefix_len}
use Rattle.std.proofs.lemmas.Bool.{eq-eqb, false≢true}
use Rattle.std.proofs.lemmas.List.{drop_more, drop-drop}
use Rattle.inc_token.specs.declared.pieces.literals.Unmatched.{Unmatched}
use Rattle.inc_token.specs.Scanning.{closed_at}
use Rattle.inc_token.specs.UnmatchedQuotes.{NoneCloses, AreUnmatched, nothing_known}

line_by : (x : Bool) (r s : ℕ) → cond x 0 r ≡ 0 → (r ≡ 0 → s ≡ 0) → cond x 0 s ≡ 0
line_by true r s h f = refl
line_by false r s h f = f h

quote_by : (y : Bool) (n m r s : ℕ) → cond y (suc n) r ≡ 0 → (r ≡ 0 → s ≡ 0) → cond y (suc m) s ≡ 0
quote_by true n m r s h f = absurd (omega (arith, h))
quote_by false n m r s h f = f h

-- that it does not close does not hang on what its length is counted from
pub same_none : (quote : ℕ) (escaped : Bool) (n m : ℕ) (text : List ℕ) → closed_at quote escaped n text ≡ 0 → closed_at quote escaped m text ≡ 0
same_none quote escaped n m [] h = refl
same_none quote true n m (b ∷ bs) h = line_by (b == 10) _ _ h (same_none quote false (suc n) (suc m) bs)
same_none quote false n m (b ∷ bs) h =
    quote_by (b == quote) n m _ _ h (λ more. line_by (b == 10) _ _ more (same_none quote (b == 92) (suc n) (suc m) bs))

-- one byte more
byte_by : (quote b : ℕ) (bs : List ℕ) (x : Bool) (k r : ℕ) → cond x 0 r ≡ 0 → (r ≡ 0 → (b ≡ quote → closed_at quote false 1 bs ≡ 0) × NoneCloses quote k bs)
    → NoneCloses quote (cond (not x) (1 + k) 0) (b ∷ bs)
byte_by quote b bs true k r h f = tt
byte_by quote b bs false k r h f =
    let next : suc k ≡ 1 + k = omega arith in
    subst (λ j. NoneCloses quote j (b ∷ bs)) next (f h)

no_quote : (y : Bool) (n r : ℕ) → cond y (suc n) r ≡ 0 → (y ≡ false) × (r ≡ 0)
no_quote true n r h = absurd (omega (arith, h))
no_quote false n r h = (refl, h)

none_after : (quote : ℕ) (escaped : Bool) (n : ℕ) (text : List ℕ) → closed_at quote escaped n text ≡ 0 → NoneCloses quote (prefix_len (λ b. not (b == 10)) text) text
none_after quote escaped n [] h = tt
none_after quote true n (b ∷ bs) h =
    byte_by quote b bs (b == 10) _ _ h (λ more. (λ is. same_none quote false (suc n) 1 bs more, none_after quote false (suc n) bs more))
none_after quote false n (b ∷ bs) h =
    let other = no_quote (b == quote) n _ h in
    byte_by quote b bs (b == 10) _ _ other.1 (λ more. (λ is. absurd (false≢true (sym other.0 ∙ eq-eqb b quote is)), none_after quote (b == 92) (suc n) bs more))

zero_by : (x : Bool) → cond {A = ℕ} x 0 0 ≡ 0
zero_by true = refl
zero_by false = refl

-- from a quote on whose literal does not close
none_from : (quote b : ℕ) (bs : List ℕ) → closed_at quote false 1 bs ≡ 0 → NoneCloses quote (prefix_len (λ c. not (c == 10)) (b ∷ bs)) (b ∷ bs)
none_from quote b bs h = byte_by quote b bs (b == 10) _ 0 (zero_by (b == 10)) (λ _. (λ _. h, none_after quote false 1 bs h))

none_nil : (quote k : ℕ) → NoneCloses quote k []
none_nil quote zero = tt
none_nil quote (suc k) = tt

none_drop : (quote k n : ℕ) (text : List ℕ) → NoneCloses quote k text → NoneCloses quote (k - n) (drop n text)
none_drop quote k zero text h = let e : k ≡ k - 0 = omega arith in subst (λ j. NoneCloses quote j text) e h
none_drop quote zero (suc n) text h = let e : zero ≡ zero - suc n = omega arith in subst (λ j. NoneCloses quote j (drop (suc n) text)) e tt
none_drop quote (suc k) (suc n) [] h = none_nil quote (suc k - suc n)
none_drop quote (suc k) (suc n) (b ∷ bs) h =
    let e : k - n ≡ suc k - suc n = omega arith in
    subst (λ j. NoneCloses quote j (drop n bs)) e (none_drop quote k n bs h.1)

-- the same at a place, with the place up to which it holds
pub unmatched_here : (quote at until : ℕ) (text : List ℕ) → at < length text → get_or text at 0 ≡ quote → at < until → NoneCloses quote (until - at) (drop at text)
    → closed_at quote false 1 (drop (at + 1) text) ≡ 0
unmatched_here quote at until text lt is low none =
    let some : until - at ≡ suc (until - (at + 1)) = omega arith in
    let here = subst (λ k. NoneCloses quote k (drop at text)) some none in
    let both = subst (λ xs. NoneCloses quote (suc (until - (at + 1))) xs) (drop_more text at 0 lt) here in
    both.0 is

pub unmatched_to_end : (quote at : ℕ) (text : List ℕ) → at < length text → closed_at quote false 1 (drop (at + 1) text) ≡ 0
    → NoneCloses quote (at + prefix_len (λ b. not (b == 10)) (drop at text) - at) (drop at text)
unmatched_to_end quote at text lt none =
    let n = prefix_len (λ b. not (b == 10)) (drop at text) in
    let e : n ≡ at + n - at = omega arith in
    let P : List ℕ → Type 0 = λ xs. NoneCloses quote (prefix_len (λ b. not (b == 10)) xs) xs in
    subst (λ k. NoneCloses quote k (drop at text)) e
    (subst P (sym (drop_more text at 0 lt)) (none_from quote (get_or text at 0) (drop (at + 1) text) none))

unmatched_on : (quote until at to : ℕ) (text : List ℕ) → at ≤ to → NoneCloses quote (until - at) (drop at text) → NoneCloses quote (until - to) (drop to text)
unmatched_on quote until at to text le none =
    let count : until - at - (to - at) ≡ until - to = omega arith in
    let place : drop (to - at) (drop at text) ≡ drop to text = drop-drop (to - at) at text ∙ ap (λ n. drop n text) (let e : at + (to - at) ≡ to = omega arith in e) in
    subst (λ k. NoneCloses quote k (drop to text)) count
    (subst (λ xs. NoneCloses quote (until - at - (to - at)) xs) place (none_drop quote (until - at) (to - at) (drop at text) none))

pub unmatched_moved : (l : Unmatched) (at to : ℕ) (text : List ℕ) → at ≤ to → AreUnmatched l at text → AreUnmatched l to text
unmatched_moved l at to text le unmatched = (unmatched_on 39 l.single at to text le unmatched.0, unmatched_on 34 l.double at to text le unmatched.1)

-- where nothing is known, it holds at each place
pub unmatched_first : (l : Unmatched) (at : ℕ) (text : List ℕ) → l ≡ nothing_known → AreUnmatched l at text
unmatched_first l at text is =
    let none : 0 ≡ 0 - at = omega arith in
    let P : ℕ → Type 0 = λ k. NoneCloses 39 k (drop at text) × NoneCloses 34 k (drop at text) in
    subst (λ (m : Unmatched). AreUnmatched m at text) (sym is) (subst P none (tt, tt))
