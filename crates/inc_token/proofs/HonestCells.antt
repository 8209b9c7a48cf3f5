-- A byte of the text that begins or ends with an LF of the source is an LF.
use Rattle.std.proofs.Common.{◌≡◌, ℕ, zero, suc, ◌+◌, ◌-◌, ◌<◌, ◌&&◌, cond, List, [], ◌∷◌, length, drop, get_or, eqb, nat_lt, refl, sym, ap, ◌∙◌, subst, arith}
use Rattle.std.proofs.lemmas.Bool.{cond_both, and_parts, eqb-true, ltb-true}
use Rattle.inc_text.specs.PhaseText.{Cell, cells_from, end_cells, joined, without_mark, with_new_lines, with_trigraphs, spliced, trigraph, is_trigraph}
use Rattle.inc_text.proofs.PhaseLemmas.{trigraph-line_feed}
use Rattle.inc_token.proofs.PhaseSeams.{phases}
use Rattle.inc_text.specs.declared.languages.Language.{Language}

module _ (source : List ℕ) where
  -- where the first or the last source byte is LF, so is the byte
  abbrev pub IsHonest : Cell → Type 0
  IsHonest c = (get_or source c.first 0 ≡ 10 → c.byte ≡ 10) × (get_or source (c.last - 1) 0 ≡ 10 → c.byte ≡ 10)

  abbrev pub AreHonest : List Cell → Type 0
  AreHonest [] = Unit {0}
  AreHonest (c ∷ cs) = IsHonest c × AreHonest cs

  honest_new_lines : (cells : List Cell) → AreHonest cells → AreHonest (with_new_lines cells)
  honest_new_lines [] h = h
  honest_new_lines (a ∷ []) h = h
  honest_new_lines (a ∷ b ∷ r) h =
      cond_both (eqb a.byte 13 && eqb b.byte 10) (joined 10 a b ∷ with_new_lines r)
      (a ∷ with_new_lines (b ∷ r)) AreHonest
      (λ _. (((λ _. refl), (λ _. refl)), honest_new_lines r h.1.1)) (λ _. (h.0, honest_new_lines (b ∷ r) h.1))

  honest_trigraphs : (language : Language) (cells : List Cell) → AreHonest cells → AreHonest (with_trigraphs language cells)
  honest_trigraphs language [] h = h
  honest_trigraphs language (a ∷ []) h = h
  honest_trigraphs language (a ∷ b ∷ []) h = h
  honest_trigraphs language (a ∷ b ∷ c ∷ r) h =
      cond_both (is_trigraph language a.byte b.byte c.byte) (joined (trigraph language c.byte) a c ∷ with_trigraphs language r)
      (a ∷ with_trigraphs language (b ∷ c ∷ r)) AreHonest
      (λ is.
      let parts = and_parts (eqb a.byte 63 && eqb b.byte 63) (nat_lt 0 (trigraph language c.byte)) is in
      let question : a.byte ≡ 63 = eqb-true a.byte 63 ((and_parts (eqb a.byte 63) (eqb b.byte 63) parts.0).0) in
      let some : 0 < trigraph language c.byte = ltb-true 0 (trigraph language c.byte) parts.1 in (
        (
          (λ at. absurd (omega (arith, question, h.0.0 at))),
          (λ at. absurd (omega (arith, subst (λ b'. 0 < trigraph language b') (h.1.1.0.1 at) some, trigraph-line_feed language))),
        ),
        honest_trigraphs language r h.1.1.1,
      ))
      (λ _. (h.0, honest_trigraphs language (b ∷ c ∷ r) h.1))

  honest_drop : (k : ℕ) (cells : List Cell) → AreHonest cells → AreHonest (drop k cells)
  honest_drop zero cells h = h
  honest_drop (suc k) [] h = h
  honest_drop (suc k) (c ∷ cs) h = honest_drop k cs h.1

  honest_spliced : (language : Language) (cells : List Cell) → AreHonest cells → AreHonest (spliced language cells)
  honest_spliced language [] h = h
  honest_spliced language (a ∷ r) h =
      let rest = honest_spliced language r h.1 in
      cond_both (eqb a.byte 92 && nat_lt 0 (end_cells language r)) (drop (end_cells language r) (spliced language r))
      (a ∷ spliced language r) AreHonest
      (λ _. honest_drop (end_cells language r) (spliced language r) rest) (λ _. (h.0, rest))

  pub honest_without_mark : (cells : List Cell) → AreHonest cells → AreHonest (without_mark cells)
  honest_without_mark [] h = h
  honest_without_mark (a ∷ []) h = h
  honest_without_mark (a ∷ b ∷ []) h = h
  honest_without_mark (a ∷ b ∷ c ∷ r) h =
      cond_both ((eqb a.byte 0xef && eqb b.byte 0xbb) && eqb c.byte 0xbf) r (a ∷ b ∷ c ∷ r) AreHonest (λ _. h.1.1.1)
      (λ _. h)

  pub honest_phases : (language : Language) (cells : List Cell) → AreHonest cells → AreHonest (phases language cells)
  honest_phases language cells h = honest_spliced language _ (honest_trigraphs language _ (honest_new_lines cells h))

  -- each byte for itself
  pub honest_from : (at line : ℕ) (bs : List ℕ) → ((i d : ℕ) → i < length bs
      → get_or source (at + i) 0 ≡ get_or bs i d)
      → AreHonest (cells_from at line bs)
  honest_from at line [] same = tt
  honest_from at line (b ∷ bs) same =
      let at_first : at ≡ at + 0 = omega arith in
      let at_last : at + 1 - 1 ≡ at = omega arith in
      let next : (i : ℕ) → at + 1 + i ≡ at + suc i = λ i. omega arith in
      let here : get_or source at 0 ≡ b = ap (λ i. get_or source i 0) at_first ∙ same 0 0 (omega arith) in
      let back : get_or source (at + 1 - 1) 0 ≡ b = ap (λ i. get_or source i 0) at_last ∙ here in (
        ((λ is. sym here ∙ is), (λ is. sym back ∙ is)),
        honest_from (at + 1) (cond (eqb b 10) (line + 1) line) bs
            (λ i d lt. ap (λ j. get_or source j 0) (next i) ∙ same (suc i) d (omega (arith, lt))),
      )
