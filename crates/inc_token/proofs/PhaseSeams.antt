-- Phases 1 and 2 of two texts that follow one another: either they give what they give of each, or no cell begins or
-- ends between the two.
use Rattle.std.proofs.Common.{◌≡◌, ◌≢◌, ℕ, zero, suc, ◌+◌, ◌<◌, ◌≤◌, ◌&&◌, ◌⊎◌, inl, inr, Bool, true, false, cond, List, [], ◌∷◌, ◌++◌, length, drop, append-nil, eqb, ◌||◌, nat_lt, refl, sym, ap, ◌∙◌, subst, arith}
use Rattle.std.proofs.lemmas.Bool.{cond_both, cond-true, cond-false, and_left, and_right, and_parts, eqb-true, ltb-true}
use Rattle.inc_text.specs.PhaseText.{Cell, bytes_of, end_cells, is_passed, joined, one_more, with_new_lines, with_trigraphs, spliced, trigraph, is_trigraph}
use Rattle.inc_text.proofs.PhaseLemmas.{head_of, tail_of, trigraph-blank}
use Rattle.inc_token.proofs.ClosedText.{ArePassed, AreClosed, passed_other}
use Rattle.inc_token.proofs.Rows.{differs}
use Rattle.inc_text.specs.declared.languages.Language.{Language}
use Rattle.inc_text.specs.declared.languages.Language.TheVariants.{Gnu}

-- the cells stand for the source bytes from n up to m, one after the other
abbrev pub Row : ℕ → List Cell → ℕ → Type 0
Row n [] m = n ≡ m
Row n (c ∷ cs) m = (c.first ≡ n) × (n < c.last) × Row c.last cs m

-- the cells stand for some of the source bytes from n up to m, in order
abbrev pub Rise : ℕ → List Cell → ℕ → Type 0
Rise n [] m = n ≤ m
Rise n (c ∷ cs) m = (n ≤ c.first) × (c.first < c.last) × Rise c.last cs m

-- no cell begins or ends at the place
abbrev pub Away : ℕ → List Cell → Type 0
Away p [] = Unit {0}
Away p (c ∷ cs) = (c.first ≢ p) × (c.last ≢ p) × Away p cs

-- phases 1 and 2 of cells
abbrev pub phases : Language → List Cell → List Cell
phases language cells = spliced language (with_trigraphs language (with_new_lines cells))

---- what the phases keep

away_new_lines : (p : ℕ) (cells : List Cell) → Away p cells → Away p (with_new_lines cells)
away_new_lines p [] h = h
away_new_lines p (a ∷ []) h = h
away_new_lines p (a ∷ b ∷ r) h =
    cond_both (eqb a.byte 13 && eqb b.byte 10) (joined 10 a b ∷ with_new_lines r) (a ∷ with_new_lines (b ∷ r))
    (Away p)
    (λ _. (h.0, h.2.1, away_new_lines p r h.2.2)) (λ _. (h.0, h.1, away_new_lines p (b ∷ r) h.2))

away_trigraphs : (language : Language) (p : ℕ) (cells : List Cell) → Away p cells → Away p (with_trigraphs language cells)
away_trigraphs language p [] h = h
away_trigraphs language p (a ∷ []) h = h
away_trigraphs language p (a ∷ b ∷ []) h = h
away_trigraphs language p (a ∷ b ∷ c ∷ r) h =
    cond_both (is_trigraph language a.byte b.byte c.byte) (joined (trigraph language c.byte) a c ∷ with_trigraphs language r)
    (a ∷ with_trigraphs language (b ∷ c ∷ r)) (Away p)
    (λ _. (h.0, h.2.2.1, away_trigraphs language p r h.2.2.2)) (λ _. (h.0, h.1, away_trigraphs language p (b ∷ c ∷ r) h.2))

away_drop : (p k : ℕ) (cells : List Cell) → Away p cells → Away p (drop k cells)
away_drop p zero cells h = h
away_drop p (suc k) [] h = h
away_drop p (suc k) (c ∷ cs) h = away_drop p k cs h.2

away_spliced : (language : Language) (p : ℕ) (cells : List Cell) → Away p cells → Away p (spliced language cells)
away_spliced language p [] h = h
away_spliced language p (a ∷ r) h =
    let rest = away_spliced language p r h.2 in
    cond_both (eqb a.byte 92 && nat_lt 0 (end_cells language r)) (drop (end_cells language r) (spliced language r))
    (a ∷ spliced language r) (Away p)
    (λ _. away_drop p (end_cells language r) (spliced language r) rest) (λ _. (h.0, h.1, rest))

row_new_lines : (n m : ℕ) (cells : List Cell) → Row n cells m → Row n (with_new_lines cells) m
row_new_lines n m [] h = h
row_new_lines n m (a ∷ []) h = h
row_new_lines n m (a ∷ b ∷ r) h =
    cond_both (eqb a.byte 13 && eqb b.byte 10) (joined 10 a b ∷ with_new_lines r) (a ∷ with_new_lines (b ∷ r))
    (λ cs. Row n cs m)
    (λ _. (h.0, omega (arith, h.1, h.2.1), row_new_lines b.last m r h.2.2))
    (λ _. (h.0, h.1, row_new_lines a.last m (b ∷ r) h.2))

row_trigraphs : (language : Language) (n m : ℕ) (cells : List Cell) → Row n cells m → Row n (with_trigraphs language cells) m
row_trigraphs language n m [] h = h
row_trigraphs language n m (a ∷ []) h = h
row_trigraphs language n m (a ∷ b ∷ []) h = h
row_trigraphs language n m (a ∷ b ∷ c ∷ r) h =
    cond_both (is_trigraph language a.byte b.byte c.byte) (joined (trigraph language c.byte) a c ∷ with_trigraphs language r)
    (a ∷ with_trigraphs language (b ∷ c ∷ r)) (λ cs. Row n cs m)
    (λ _. (h.0, omega (arith, h.1, h.2.1, h.2.2.1), row_trigraphs language c.last m r h.2.2.2))
    (λ _. (h.0, h.1, row_trigraphs language a.last m (b ∷ c ∷ r) h.2))

pub rise_lower : (k n m : ℕ) (cells : List Cell) → k ≤ n → Rise n cells m → Rise k cells m
rise_lower k n m [] le h = omega (arith, le, h)
rise_lower k n m (c ∷ cs) le h = (omega (arith, le, h.0), h.1, h.2)

pub rise_row : (n m : ℕ) (cells : List Cell) → Row n cells m → Rise n cells m
rise_row n m [] h = omega (arith, h)
rise_row n m (c ∷ cs) h = (omega (arith, h.0), omega (arith, h.0, h.1), rise_row c.last m cs h.2)

rise_drop : (k n m : ℕ) (cells : List Cell) → Rise n cells m → Rise n (drop k cells) m
rise_drop zero n m cells h = h
rise_drop (suc k) n m [] h = h
rise_drop (suc k) n m (c ∷ cs) h = rise_drop k n m cs (rise_lower n c.last m cs (omega (arith, h.0, h.1)) h.2)

rise_spliced : (language : Language) (n m : ℕ) (cells : List Cell) → Rise n cells m → Rise n (spliced language cells) m
rise_spliced language n m [] h = h
rise_spliced language n m (a ∷ r) h =
    let rest = rise_spliced language a.last m r h.2 in
    cond_both (eqb a.byte 92 && nat_lt 0 (end_cells language r)) (drop (end_cells language r) (spliced language r))
    (a ∷ spliced language r) (λ cs. Rise n cs m)
    (λ _. rise_drop (end_cells language r) n m (spliced language r)
    (rise_lower n a.last m (spliced language r) (omega (arith, h.0, h.1)) rest))
    (λ _. (h.0, h.1, rest))

pub rise_phases : (language : Language) (n m : ℕ) (cells : List Cell) → Row n cells m → Rise n (phases language cells) m
rise_phases language n m cells h = rise_spliced language n m _ (rise_row n m _ (row_trigraphs language n m _ (row_new_lines n m cells h)))

-- cells that begin later are away
away_later : (p q m : ℕ) (cells : List Cell) → p < q → Row q cells m → Away p cells
away_later p q m [] lt h = tt
away_later p q m (c ∷ cs) lt h = (
  omega (arith, lt, h.0),
  omega (arith, lt, h.1),
  away_later p c.last m cs
      (omega (arith, lt, h.1)) h.2,
)

---- a new-line with white space before it

none_else : (language : Language) (k b : ℕ) (t : Bool) → eqb b k ≡ t → is_passed Gnu k ≡ false → is_passed language b ≡ true → eqb b k ≡ false
none_else language k b true is fails passes = absurd (passed_other language k b fails passes (eqb-true b k is))
none_else language k b false is fails passes = is

passed_no_lf : (language : Language) (b : ℕ) → is_passed language b ≡ true → eqb b 10 ≡ false
passed_no_lf language b passes = none_else language 10 b (eqb b 10) refl refl passes

passed_no_backslash : (language : Language) (b : ℕ) → is_passed language b ≡ true → eqb b 92 ≡ false
passed_no_backslash language b passes = none_else language 92 b (eqb b 92) refl refl passes

one_more-le : (n k : ℕ) → n ≤ k → one_more n ≤ suc k
one_more-le zero k le = omega arith
one_more-le (suc n) k le = omega (arith, le)

-- the cells of it are left over where lines are spliced
end_short : (language : Language) (cells : List Cell) → end_cells language cells ≤ length (spliced language cells)
end_short language [] = omega arith
end_short language (a ∷ r) = by (end_short language r) (eqb a.byte 10) (is_passed language a.byte) refl refl where
  stays : eqb a.byte 92 ≡ false → spliced language (a ∷ r) ≡ a ∷ spliced language r
  stays other = cond-false _ _ _ (and_left _ (nat_lt 0 (end_cells language r)) other)

  by : end_cells language r ≤ length (spliced language r) → (s t : Bool) → eqb a.byte 10 ≡ s → is_passed language a.byte ≡ t
      → cond s 1 (cond t (one_more (end_cells language r)) 0) ≤ length (spliced language (a ∷ r))
  by short true t lf passes = subst (λ cs. 1 ≤ length cs) (sym (stays (ap (λ b. eqb b 92) (eqb-true a.byte 10 lf)))) (omega arith)
  by short false true lf passes =
      subst (λ cs. one_more (end_cells language r) ≤ length cs) (sym (stays (passed_no_backslash language a.byte passes)))
      (one_more-le (end_cells language r) (length (spliced language r)) short)
  by short false false lf passes = omega arith

none_passed : (language : Language) (cells : List Cell) → ArePassed language (bytes_of cells) → end_cells language cells ≡ 0
none_passed language [] h = refl
none_passed language (a ∷ r) h =
    cond-false _ _ _ (passed_no_lf language a.byte h.0) ∙ cond-true _ _ _ h.0 ∙ ap one_more (none_passed language r h.1)

spliced_passed : (language : Language) (x y : List Cell) → ArePassed language (bytes_of x)
    → spliced language (x ++ y) ≡ x ++ spliced language y
spliced_passed language [] y h = refl
spliced_passed language (a ∷ x) y h =
    cond-false _ _ _ (and_left _ (nat_lt 0 (end_cells language (x ++ y))) (passed_no_backslash language a.byte h.0))
    ∙ ap (λ cs. a ∷ cs) (spliced_passed language x y h.1)

-- such a new-line at the front of two texts is in the first, or goes up to its end and on in the second
abbrev EndOver : Language → List Cell → List Cell → Type 0
EndOver language x y = (k : ℕ) × ArePassed language (bytes_of x) × (end_cells language y ≡ suc k)
    × (end_cells language (x ++ y) ≡ length x + suc k)

one_more_suc : (n k : ℕ) → one_more (n + suc k) ≡ suc n + suc k
one_more_suc n k = let e : n + suc k ≡ suc (n + k) = omega arith in ap one_more e ∙ omega arith

end_append : (language : Language) (x y : List Cell) → (end_cells language (x ++ y) ≡ end_cells language x) ⊎ EndOver language x y
end_append language [] y = by (end_cells language y) refl where
  by : (k : ℕ) → end_cells language y ≡ k → (end_cells language y ≡ 0) ⊎ EndOver language [] y
  by zero is = inl is
  by (suc k) is = inr (k, tt, is, is ∙ omega arith)
end_append language (a ∷ x) y = by (eqb a.byte 10) (is_passed language a.byte) refl (end_append language x y) where
  by : (s t : Bool) → is_passed language a.byte ≡ t → (end_cells language (x ++ y) ≡ end_cells language x) ⊎ EndOver language x y
      → (cond s 1 (cond t (one_more (end_cells language (x ++ y))) 0) ≡ cond s 1 (cond t (one_more (end_cells language x)) 0))
      ⊎ ((k : ℕ) × ArePassed language (bytes_of (a ∷ x)) × (end_cells language y ≡ suc k)
      × (cond s 1 (cond t (one_more (end_cells language (x ++ y))) 0) ≡ length (a ∷ x) + suc k))
  by true t passes rest = inl refl
  by false false passes rest = inl refl
  by false true passes (inl same) = inl (ap one_more same)
  by false true passes (inr (k, all, behind, size)) =
      inr (k, (passes, all), behind, ap one_more size ∙ one_more_suc (length x) k)

drop_front : (k : ℕ) (x y : List Cell) → k ≤ length x → drop k (x ++ y) ≡ drop k x ++ y
drop_front zero x y le = refl
drop_front (suc k) [] y le = absurd (omega (arith, le))
drop_front (suc k) (c ∷ x) y le = drop_front k x y (omega (arith, le))

drop_over : (k : ℕ) (x y : List Cell) → drop (length x + k) (x ++ y) ≡ drop k y
drop_over k [] y = let e : 0 + k ≡ k = omega arith in ap (λ n. drop n y) e
drop_over k (c ∷ x) y =
    let e : length (c ∷ x) + k ≡ suc (length x + k) = omega arith in
    ap (λ n. drop n (c ∷ (x ++ y))) e ∙ drop_over k x y

---- a seam

-- the texts are apart, or no cell begins or ends between them
abbrev pub Parts : ℕ → ℕ → List Cell → List Cell → List Cell → Type 0
Parts n p whole x y = (whole ≡ x ++ y) ⊎ ((n < p) × Away p whole)

parts_by : (n p : ℕ) (t : Bool) (u v x z y : List Cell) → Parts n p u x y → Parts n p v z y
    → Parts n p (cond t u v) (cond t x z) y
parts_by n p true u v x z y h k = h
parts_by n p false u v x z y h k = k

parts_cons : (n k p : ℕ) (c : Cell) (whole x y : List Cell) → c.first ≡ n → n < c.last → c.last ≤ k
    → Parts k p whole x y → Parts n p (c ∷ whole) (c ∷ x) y
parts_cons n k p c whole x y first later le (inl is) = inl (ap (λ cs. c ∷ cs) is)
parts_cons n k p c whole x y first later le (inr h) =
    inr (omega (arith, later, le, h.0), (omega (arith, first, later, le, h.0), omega (arith, le, h.0), h.1))

parts_lower : (n k p : ℕ) (whole x y : List Cell) → n ≤ k → Parts k p whole x y → Parts n p whole x y
parts_lower n k p whole x y le (inl is) = inl is
parts_lower n k p whole x y le (inr h) = inr (omega (arith, le, h.0), h.1)

seam_new_lines : (n p m : ℕ) (x y : List Cell) → Row n x p → Row p y m
    → Parts n p (with_new_lines (x ++ y)) (with_new_lines x) (with_new_lines y)
seam_new_lines n p m [] y h k = inl refl
seam_new_lines n p m (a ∷ []) [] h k = inl refl
seam_new_lines n p m (a ∷ []) (b ∷ y) h k =
    cond_both (eqb a.byte 13 && eqb b.byte 10) (joined 10 a b ∷ with_new_lines y) (a ∷ with_new_lines (b ∷ y))
    (λ whole. Parts n p whole (a ∷ []) (with_new_lines (b ∷ y)))
    (λ _. inr (
      omega (arith, h.1, h.2),
      (
        omega (arith, h.0, h.1, h.2),
        omega (arith, k.1),
        away_new_lines p y
            (away_later p b.last m y k.1 k.2),
      ),
    ))
    (λ _. inl refl)
seam_new_lines n p m (a ∷ b ∷ x) y h k =
    parts_by n p (eqb a.byte 13 && eqb b.byte 10) _ _ _ _ (with_new_lines y)
    (parts_cons n b.last p (joined 10 a b) _ (with_new_lines x) (with_new_lines y) h.0 (omega (arith, h.1, h.2.1))
    (omega arith) (seam_new_lines b.last p m x y h.2.2 k))
    (parts_cons n a.last p a _ (with_new_lines (b ∷ x)) (with_new_lines y) h.0 h.1 (omega arith)
    (seam_new_lines a.last p m (b ∷ x) y h.2 k))

seam_trigraphs : (language : Language) (n p m : ℕ) (x y : List Cell) → Row n x p → Row p y m
    → Parts n p (with_trigraphs language (x ++ y)) (with_trigraphs language x) (with_trigraphs language y)
seam_trigraphs language n p m [] y h k = inl refl
seam_trigraphs language n p m (a ∷ []) [] h k = inl refl
seam_trigraphs language n p m (a ∷ []) (b ∷ []) h k = inl refl
seam_trigraphs language n p m (a ∷ []) (b ∷ c ∷ y) h k =
    cond_both (is_trigraph language a.byte b.byte c.byte) (joined (trigraph language c.byte) a c ∷ with_trigraphs language y)
    (a ∷ with_trigraphs language (b ∷ c ∷ y))
    (λ whole. Parts n p whole (a ∷ []) (with_trigraphs language (b ∷ c ∷ y)))
    (λ _. inr (
      omega (arith, h.1, h.2),
      (
        omega (arith, h.0, h.1, h.2),
        omega (arith, k.1, k.2.1),
        away_trigraphs language p y
            (away_later p c.last m y (omega (arith, k.1, k.2.1)) k.2.2),
      ),
    ))
    (λ _. inl refl)
seam_trigraphs language n p m (a ∷ b ∷ []) [] h k = inl refl
seam_trigraphs language n p m (a ∷ b ∷ []) (c ∷ y) h k =
    cond_both (is_trigraph language a.byte b.byte c.byte) (joined (trigraph language c.byte) a c ∷ with_trigraphs language y)
    (a ∷ with_trigraphs language (b ∷ c ∷ y))
    (λ whole. Parts n p whole (a ∷ b ∷ []) (with_trigraphs language (c ∷ y)))
    (λ _. inr (
      omega (arith, h.1, h.2.1, h.2.2),
      (
        omega (arith, h.0, h.1, h.2.1, h.2.2),
        omega (arith, k.1),
        away_trigraphs language p y
            (away_later p c.last m y k.1 k.2),
      ),
    ))
    (λ _. parts_cons n a.last p a _ (b ∷ []) (with_trigraphs language (c ∷ y)) h.0 h.1 (omega arith)
    (seam_trigraphs language a.last p m (b ∷ []) (c ∷ y) h.2 k))
seam_trigraphs language n p m (a ∷ b ∷ c ∷ x) y h k =
    parts_by n p (is_trigraph language a.byte b.byte c.byte) _ _ _ _ (with_trigraphs language y)
    (parts_cons n c.last p (joined (trigraph language c.byte) a c) _ (with_trigraphs language x) (with_trigraphs language y) h.0
    (omega (arith, h.1, h.2.1, h.2.2.1)) (omega arith) (seam_trigraphs language c.last p m x y h.2.2.2 k))
    (parts_cons n a.last p a _ (with_trigraphs language (b ∷ c ∷ x)) (with_trigraphs language y) h.0 h.1 (omega arith)
    (seam_trigraphs language a.last p m (b ∷ c ∷ x) y h.2 k))

parts_drop : (n p k : ℕ) (whole x y : List Cell) → k ≤ length x → Parts n p whole x y
    → Parts n p (drop k whole) (drop k x) y
parts_drop n p k whole x y le (inl is) = inl (ap (drop k) is ∙ drop_front k x y le)
parts_drop n p k whole x y le (inr h) = inr (h.0, away_drop p k whole h.1)

row_le : (n p : ℕ) (x : List Cell) → Row n x p → n ≤ p
row_le n p [] h = omega (arith, h)
row_le n p (c ∷ x) h = let r = row_le c.last p x h.2 in omega (arith, h.1, r)

-- what is left of a text behind a new-line at its front
away_behind : (language : Language) (p m k : ℕ) (y : List Cell) → Row p y m → end_cells language y ≡ suc k
    → Away p (drop (suc k) (spliced language y))
away_behind language p m k [] h is = cc
away_behind language p m k (b ∷ y) h is =
    subst (λ cs. Away p (drop (suc k) cs)) (sym (by (eqb b.byte 10) (is_passed language b.byte) refl refl is))
    (away_drop p k (spliced language y) (away_spliced language p y (away_later p b.last m y h.1 h.2)))
  where
    stays : eqb b.byte 92 ≡ false → spliced language (b ∷ y) ≡ b ∷ spliced language y
    stays other = cond-false _ _ _ (and_left _ (nat_lt 0 (end_cells language y)) other)

    by : (s t : Bool) → eqb b.byte 10 ≡ s → is_passed language b.byte ≡ t
        → cond s 1 (cond t (one_more (end_cells language y)) 0) ≡ suc k → spliced language (b ∷ y) ≡ b ∷ spliced language y
    by true t lf passes is = stays (ap (λ c. eqb c 92) (eqb-true b.byte 10 lf))
    by false true lf passes is = stays (passed_no_backslash language b.byte passes)
    by false false lf passes is = cc

-- the cells of the first text of which a splice goes on in the second
seam_over : (language : Language) (n p m : ℕ) (a : Cell) (x y : List Cell) → Row n (a ∷ x) p → Row p y m
    → EndOver language x y → Parts a.last p (spliced language (x ++ y)) (spliced language x) (spliced language y)
    → Parts n p (spliced language (a ∷ (x ++ y))) (spliced language (a ∷ x)) (spliced language y)
seam_over language n p m a x y h k (j, all, behind, size) rest =
    subst (λ cs. Parts n p (spliced language (a ∷ (x ++ y))) cs (spliced language y)) (sym alone)
    (cond_both (eqb a.byte 92 && nat_lt 0 (end_cells language (x ++ y)))
    (drop (end_cells language (x ++ y)) (spliced language (x ++ y))) (a ∷ spliced language (x ++ y))
    (λ whole. Parts n p whole (a ∷ spliced language x) (spliced language y))
    (λ _. inr (omega (arith, h.1, row_le a.last p x h.2), subst (Away p) (sym left) (away_behind language p m j y k behind)))
    (λ _. parts_cons n a.last p a _ (spliced language x) (spliced language y) h.0 h.1 (omega arith) rest))
  where
    alone : spliced language (a ∷ x) ≡ a ∷ spliced language x
    alone = cond-false _ _ _ (and_right (eqb a.byte 92) _ (ap (nat_lt 0) (none_passed language x all)))

    left : drop (end_cells language (x ++ y)) (spliced language (x ++ y)) ≡ drop (suc j) (spliced language y)
    left = ap (λ n. drop n (spliced language (x ++ y))) size
        ∙ ap (drop (length x + suc j)) (spliced_passed language x y all) ∙ drop_over (suc j) x (spliced language y)

seam_spliced : (language : Language) (n p m : ℕ) (x y : List Cell) → Row n x p → Row p y m
    → Parts n p (spliced language (x ++ y)) (spliced language x) (spliced language y)
seam_spliced language n p m [] y h k = inl refl
seam_spliced language n p m (a ∷ x) y h k = by (end_append language x y) (seam_spliced language a.last p m x y h.2 k) where
  by : (end_cells language (x ++ y) ≡ end_cells language x) ⊎ EndOver language x y
      → Parts a.last p (spliced language (x ++ y)) (spliced language x) (spliced language y)
      → Parts n p (spliced language (a ∷ (x ++ y))) (spliced language (a ∷ x)) (spliced language y)
  by (inl same) rest =
      subst (λ e. Parts n p (cond (eqb a.byte 92 && nat_lt 0 e) (drop e (spliced language (x ++ y))) (a ∷ spliced language (x ++ y)))
      (spliced language (a ∷ x)) (spliced language y)) (sym same)
      (parts_by n p (eqb a.byte 92 && nat_lt 0 (end_cells language x)) _ _ _ _ (spliced language y)
      (parts_lower n a.last p _ _ (spliced language y) (omega (arith, h.1))
      (parts_drop a.last p (end_cells language x) _ (spliced language x) (spliced language y) (end_short language x) rest))
      (parts_cons n a.last p a _ (spliced language x) (spliced language y) h.0 h.1 (omega arith) rest))
  by (inr over) rest = seam_over language n p m a x y h k over rest

spliced_seam : (language : Language) (n p m : ℕ) (t u v : List Cell) → Row n u p → Row p v m → Parts n p t u v
    → Parts n p (spliced language t) (spliced language u) (spliced language v)
spliced_seam language n p m t u v h k (inl is) =
    subst (λ w. Parts n p (spliced language w) (spliced language u) (spliced language v)) (sym is)
    (seam_spliced language n p m u v h k)
spliced_seam language n p m t u v h k (inr away) = inr (away.0, away_spliced language p t away.1)

trigraphs_seam : (language : Language) (n p m : ℕ) (t u v : List Cell) → Row n u p → Row p v m → Parts n p t u v
    → Parts n p (with_trigraphs language t) (with_trigraphs language u) (with_trigraphs language v)
trigraphs_seam language n p m t u v h k (inl is) =
    subst (λ w. Parts n p (with_trigraphs language w) (with_trigraphs language u) (with_trigraphs language v)) (sym is)
    (seam_trigraphs language n p m u v h k)
trigraphs_seam language n p m t u v h k (inr away) = inr (away.0, away_trigraphs language p t away.1)

pub seam : (language : Language) (n p m : ℕ) (x y : List Cell) → Row n x p → Row p y m → Parts n p (phases language (x ++ y)) (phases language x) (phases language y)
seam language n p m x y h k =
    let h1 = row_new_lines n p x h in
    let k1 = row_new_lines p m y k in
    spliced_seam language n p m _ _ _ (row_trigraphs language n p _ h1) (row_trigraphs language p m _ k1)
    (trigraphs_seam language n p m _ _ _ h1 k1 (seam_new_lines n p m x y h k))

---- a space

new_lines_pass : (a : Cell) (r : List Cell) → (eqb a.byte 13 && eqb (head_of r) 10) ≡ false
    → with_new_lines (a ∷ r) ≡ a ∷ with_new_lines r
new_lines_pass a [] h = refl
new_lines_pass a (b ∷ r) h = cond-false _ _ _ h

trigraphs_pass : (language : Language) (a : Cell) (r : List Cell) → is_trigraph language a.byte (head_of r) (head_of (tail_of r)) ≡ false
    → with_trigraphs language (a ∷ r) ≡ a ∷ with_trigraphs language r
trigraphs_pass language a [] h = refl
trigraphs_pass language a (b ∷ []) h = refl
trigraphs_pass language a (b ∷ c ∷ r) h = cond-false _ _ _ h

spliced_pass : (language : Language) (a : Cell) (r : List Cell) → eqb a.byte 92 ≡ false
    → spliced language (a ∷ r) ≡ a ∷ spliced language r
spliced_pass language a r h = cond-false _ _ _ (and_left _ (nat_lt 0 (end_cells language r)) h)

-- LF or a space, which begins no sequence
abbrev pub is_gone : ℕ → Bool
is_gone b = eqb b 10 || eqb b 32

module _ (c : Cell) (gone : is_gone c.byte ≡ true) where
  no_return : eqb c.byte 13 ≡ false
  no_return = differs is_gone 13 c.byte refl gone

  no_question : eqb c.byte 63 ≡ false
  no_question = differs is_gone 63 c.byte refl gone

  no_backslash : eqb c.byte 92 ≡ false
  no_backslash = differs is_gone 92 c.byte refl gone

  -- at the front
  pub gone_first : (language : Language) (w : List Cell) → phases language (c ∷ w) ≡ c ∷ phases language w
  gone_first language w =
      ap (λ cs. spliced language (with_trigraphs language cs)) (new_lines_pass c w (and_left _ _ no_return))
      ∙ ap (spliced language) (trigraphs_pass language c (with_new_lines w) (and_left _ _ (and_left _ _ no_question)))
      ∙ spliced_pass language c (with_trigraphs language (with_new_lines w)) no_backslash

---- text that does not end within a splice

-- the cells at the front of which a new-line has such white space before it have no `\`
closed_front : (language : Language) (r : List Cell) → 0 < end_cells language r
    → AreClosed language (bytes_of (drop (end_cells language r) (spliced language r))) → AreClosed language (bytes_of (spliced language r))
closed_front language [] some h = tt
closed_front language (a ∷ r) some h =
    by (closed_front language r) (eqb a.byte 10) (is_passed language a.byte) refl refl some h
  where
    Rest : Type 0
    Rest = 0 < end_cells language r → AreClosed language (bytes_of (drop (end_cells language r) (spliced language r)))
        → AreClosed language (bytes_of (spliced language r))

    front : eqb a.byte 92 ≡ false → AreClosed language (bytes_of (spliced language r)) → AreClosed language (bytes_of (spliced language (a ∷ r)))
    front other rest = subst (λ cs. AreClosed language (bytes_of cs)) (sym (spliced_pass language a r other))
        ((λ back all. let clash : true ≡ false = sym (ap (λ b. eqb b 92) back) ∙ other in cc), rest)

    by : Rest → (s t : Bool) → eqb a.byte 10 ≡ s → is_passed language a.byte ≡ t → 0 < cond s 1 (cond t (one_more (end_cells language r)) 0)
        → AreClosed language (bytes_of (drop (cond s 1 (cond t (one_more (end_cells language r)) 0)) (spliced language (a ∷ r))))
        → AreClosed language (bytes_of (spliced language (a ∷ r)))
    by rest true t lf passes some h =
        let other : eqb a.byte 92 ≡ false = ap (λ b. eqb b 92) (eqb-true a.byte 10 lf) in
        front other (subst (λ cs. AreClosed language (bytes_of (drop 1 cs))) (spliced_pass language a r other) h)
    by rest false true lf passes some h = more (end_cells language r) refl some h where
      other : eqb a.byte 92 ≡ false
      other = passed_no_backslash language a.byte passes

      more : (k : ℕ) → end_cells language r ≡ k → 0 < one_more k
          → AreClosed language (bytes_of (drop (one_more k) (spliced language (a ∷ r))))
          → AreClosed language (bytes_of (spliced language (a ∷ r)))
      more zero is some h = absurd (omega (arith, some))
      more (suc k) is some h =
          front other (rest (omega (arith, is))
          (subst (λ j. AreClosed language (bytes_of (drop j (spliced language r)))) (sym is)
          (subst (λ cs. AreClosed language (bytes_of (drop (suc (suc k)) cs))) (spliced_pass language a r other) h)))
    by rest false false lf passes some h = absurd (omega (arith, some))

-- cells of which the lines are spliced
closed_spliced : (language : Language) (cells : List Cell) → AreClosed language (bytes_of (spliced language cells))
    → AreClosed language (bytes_of cells)
closed_spliced language [] h = tt
closed_spliced language (a ∷ r) h = by (closed_spliced language r) (eqb a.byte 92 && nat_lt 0 (end_cells language r)) refl h where
  by : (AreClosed language (bytes_of (spliced language r)) → AreClosed language (bytes_of r)) → (t : Bool) → (eqb a.byte 92 && nat_lt 0 (end_cells language r)) ≡ t
      → AreClosed language (bytes_of (cond t (drop (end_cells language r) (spliced language r)) (a ∷ spliced language r)))
      → AreClosed language (bytes_of (a ∷ r))
  by rest true is h =
      let some : 0 < end_cells language r = ltb-true 0 (end_cells language r)
      ((and_parts (eqb a.byte 92) (nat_lt 0 (end_cells language r)) is).1) in (
        (λ back all. absurd (omega (arith, some, none_passed language r all))),
        rest (closed_front language r some h),
      )
  by rest false is h = (
    (λ back all. h.0 back (subst (λ cs. ArePassed language (bytes_of cs))
        (sym (ap (spliced language) (sym (append-nil r)) ∙ spliced_passed language r [] all ∙ append-nil r)) all)),
    rest h.1,
  )

seam_by : (t : Bool) (u v x z w : List Cell) → u ≡ x ++ w → v ≡ z ++ w → cond t u v ≡ cond t x z ++ w
seam_by true u v x z w is other = is
seam_by false u v x z w is other = other

module _ (s : Cell) (space : s.byte ≡ 32) where
  no_byte : (k : ℕ) (p : Bool) → eqb 32 k ≡ false → (p && eqb s.byte k) ≡ false
  no_byte k p other = ap (λ b. p && eqb b k) space ∙ and_right p _ other

  new_lines_at : (x w : List Cell) → with_new_lines (x ++ s ∷ w) ≡ with_new_lines x ++ with_new_lines (s ∷ w)
  new_lines_at [] w = refl
  new_lines_at (a ∷ []) w = cond-false (eqb a.byte 13 && eqb s.byte 10) _ _ (no_byte 10 (eqb a.byte 13) refl)
  new_lines_at (a ∷ b ∷ x) w =
      seam_by (eqb a.byte 13 && eqb b.byte 10) _ _ _ _ (with_new_lines (s ∷ w))
      (ap (λ cs. joined 10 a b ∷ cs) (new_lines_at x w)) (ap (λ cs. a ∷ cs) (new_lines_at (b ∷ x) w))

  trigraphs_at : (language : Language) (x w : List Cell) → with_trigraphs language (x ++ s ∷ w) ≡ with_trigraphs language x ++ with_trigraphs language (s ∷ w)
  trigraphs_at language [] w = refl
  trigraphs_at language (a ∷ []) [] = refl
  trigraphs_at language (a ∷ []) (b ∷ w) =
      cond-false (is_trigraph language a.byte s.byte b.byte) _ _
      (and_left (eqb a.byte 63 && eqb s.byte 63) _ (no_byte 63 (eqb a.byte 63) refl))
  trigraphs_at language (a ∷ b ∷ []) w =
      cond-false (is_trigraph language a.byte b.byte s.byte) _ _
      (ap (λ k. (eqb a.byte 63 && eqb b.byte 63) && nat_lt 0 (trigraph language k)) space
      ∙ ap (λ k. (eqb a.byte 63 && eqb b.byte 63) && nat_lt 0 k) (trigraph-blank language)
      ∙ and_right (eqb a.byte 63 && eqb b.byte 63) _ refl)
      ∙ ap (λ cs. a ∷ cs) (trigraphs_at language (b ∷ []) w)
  trigraphs_at language (a ∷ b ∷ c ∷ x) w =
      seam_by (is_trigraph language a.byte b.byte c.byte) _ _ _ _ (with_trigraphs language (s ∷ w))
      (ap (λ cs. joined (trigraph language c.byte) a c ∷ cs) (trigraphs_at language x w))
      (ap (λ cs. a ∷ cs) (trigraphs_at language (b ∷ c ∷ x) w))

  spliced_at : (language : Language) (x w : List Cell) → AreClosed language (bytes_of x)
      → spliced language (x ++ s ∷ w) ≡ spliced language x ++ spliced language (s ∷ w)
  spliced_at language [] w closed = refl
  spliced_at language (a ∷ x) w closed = by (end_append language x (s ∷ w)) (spliced_at language x w closed.1) where
    by : (end_cells language (x ++ s ∷ w) ≡ end_cells language x) ⊎ EndOver language x (s ∷ w)
        → spliced language (x ++ s ∷ w) ≡ spliced language x ++ spliced language (s ∷ w)
        → spliced language (a ∷ (x ++ s ∷ w)) ≡ spliced language (a ∷ x) ++ spliced language (s ∷ w)
    by (inl same) rest =
        ap (λ e. cond (eqb a.byte 92 && nat_lt 0 e) (drop e (spliced language (x ++ s ∷ w))) (a ∷ spliced language (x ++ s ∷ w))) same
        ∙ seam_by (eqb a.byte 92 && nat_lt 0 (end_cells language x)) _ _ _ _ (spliced language (s ∷ w))
        (ap (drop (end_cells language x)) rest
        ∙ drop_front (end_cells language x) (spliced language x) (spliced language (s ∷ w)) (end_short language x))
        (ap (λ cs. a ∷ cs) rest)
    by (inr (j, all, behind, size)) rest = other (eqb a.byte 92) refl where
      other : (t : Bool) → eqb a.byte 92 ≡ t → spliced language (a ∷ (x ++ s ∷ w)) ≡ spliced language (a ∷ x) ++ spliced language (s ∷ w)
      other true is = absurd (closed.0 (eqb-true a.byte 92 is) all)
      other false is = spliced_pass language a (x ++ s ∷ w) is ∙ ap (λ cs. a ∷ cs) rest
          ∙ ap (λ cs. cs ++ spliced language (s ∷ w)) (sym (spliced_pass language a x is))

  -- behind others, which do not end within a splice
  pub space_between : (language : Language) (x w : List Cell) → AreClosed language (bytes_of (phases language x))
      → phases language (x ++ s ∷ w) ≡ phases language x ++ s ∷ phases language w
  space_between language x w closed =
      let gone : is_gone s.byte ≡ true = ap is_gone space in
      let one : (cs : List Cell) → with_new_lines (s ∷ cs) ≡ s ∷ with_new_lines cs =
      λ cs. new_lines_pass s cs (and_left _ _ (no_return s gone)) in
      let two : (cs : List Cell) → with_trigraphs language (s ∷ cs) ≡ s ∷ with_trigraphs language cs =
      λ cs. trigraphs_pass language s cs (and_left _ _ (and_left _ _ (no_question s gone))) in
      ap (λ cs. spliced language (with_trigraphs language cs)) (new_lines_at x w ∙ ap (λ cs. with_new_lines x ++ cs) (one w))
      ∙ ap (spliced language) (trigraphs_at language (with_new_lines x) (with_new_lines w)
      ∙ ap (λ cs. with_trigraphs language (with_new_lines x) ++ cs) (two (with_new_lines w)))
      ∙ spliced_at language (with_trigraphs language (with_new_lines x)) (with_trigraphs language (with_new_lines w))
      (closed_spliced language (with_trigraphs language (with_new_lines x)) closed)
      ∙ ap (λ cs. phases language x ++ cs) (spliced_pass language s (with_trigraphs language (with_new_lines w))
      (no_backslash s gone))
