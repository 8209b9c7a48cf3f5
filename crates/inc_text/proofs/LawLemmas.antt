-- Laws of the text of every source.
use Rattle.std.proofs.Common.{◌≡◌, ℕ, suc, ◌+◌, ◌-◌, ◌≤◌, ◌&&◌, not, Bool, true, false, cond, List, [], ◌∷◌, ◌++◌, length, take, get_or, eqb, ltb, count_by, drop, zero, All, refl, sym, ap, ◌∙◌, subst, arith, le_trans}
use Rattle.std.specs.List.{AllPairs}
use Rattle.std.proofs.lemmas.Bool.{cond_both, cond-false, lt-ltb}
use Rattle.std.proofs.lemmas.List.{append_assoc, take_at, take_all, take-take, length_push, length-append}
use Rattle.std.proofs.lemmas.List.Elements.{All-nil, All-cons, All-head, All-tail}
use Rattle.std.proofs.lemmas.List.Kept.{AllPairs-cons}
use Rattle.std.proofs.lemmas.List.Sums.{sum_by-take-le, sum_by_push}
use Rattle.inc_text.specs.PhaseText.{Cell, cells_from, end_cells, joined, without_mark, with_new_lines, with_trigraphs, spliced, ended_by, added_new_line, phase_text, bytes_of, trigraph, is_trigraph}
use Rattle.inc_text.specs.Origins.{text_from, open_text, is_special, mark_len, ends_open}
use Rattle.inc_text.proofs.PhaseLemmas.{text_plain, without_mark_is, lf}
use Rattle.inc_text.specs.declared.languages.Language.{Language}

-- the line of a cell is that of its first source byte
abbrev LineOf : List ℕ → Cell → Type 0
LineOf source c = c.line ≡ 1 + count_by lf (take c.first source)

-- cells whose ranges lie in order from lo to hi, each with its line
abbrev Lie : List ℕ → ℕ → ℕ → List Cell → Type 0
Lie source lo hi [] = lo ≤ hi
Lie source lo hi (c ∷ r) = (lo ≤ c.first) × (c.first ≤ c.last) × LineOf source c × Lie source c.last hi r

line_after : (l : ℕ) (t : Bool) → 1 + (l + cond t 1 0) ≡ cond t (1 + l + 1) (1 + l)
line_after l true = omega arith
line_after l false = omega arith

module _ (language : Language) (source : List ℕ) where
  lower : (lo mid hi : ℕ) (cells : List Cell) → lo ≤ mid → Lie source mid hi cells → Lie source lo hi cells
  lower lo mid hi [] le h = omega arith
  lower lo mid hi (c ∷ r) le h = (omega (arith, h.0), h.1, h.2, h.3)

  lie_from : (front bs : List ℕ) → source ≡ front ++ bs → Lie source (length front) (length source) (cells_from (length front) (1 + count_by lf front) bs)
  lie_from front [] is = omega (arith, ap length is, length-append front [])
  lie_from front (b ∷ bs) is =
      let n : ℕ = length front in
      let hi : ℕ = length source in
      let longer : List ℕ = front ++ b ∷ [] in
      let here : take n source ≡ front = ap (take n) is ∙ take_at front (b ∷ bs) n refl in
      let rest : Lie source (length longer) hi (cells_from (length longer) (1 + count_by lf longer) bs) = lie_from longer bs (is ∙ sym (append_assoc front (b ∷ []) bs)) in
      let line : 1 + count_by lf longer ≡ cond (eqb b 10) (1 + count_by lf front + 1) (1 + count_by lf front) = ap (λ k. 1 + k) (sum_by_push (λ x. cond (lf x) 1 0) front b) ∙ line_after (count_by lf front) (eqb b 10) in
      let P : ℕ → Type 0 = λ p. Lie source p hi (cells_from p (1 + count_by lf longer) bs) in
      let Q : ℕ → Type 0 = λ l. Lie source (n + 1) hi (cells_from (n + 1) l bs) in
      (omega arith, omega arith, ap (λ l. 1 + count_by lf l) (sym here), subst Q line (subst P (length_push front b) rest))

  lie_without_mark : (hi : ℕ) (cells : List Cell) → Lie source 0 hi cells → Lie source 0 hi (without_mark cells)
  lie_without_mark hi [] h = h
  lie_without_mark hi (a ∷ []) h = h
  lie_without_mark hi (a ∷ b ∷ []) h = h
  lie_without_mark hi (a ∷ b ∷ c ∷ r) h =
      cond_both ((eqb a.byte 0xef && eqb b.byte 0xbb) && eqb c.byte 0xbf) r (a ∷ b ∷ c ∷ r) (Lie source 0 hi) (λ _. lower 0 c.last hi r (omega arith) h.3.3.3) (λ _. h)

  lie_new_lines : (lo hi : ℕ) (cells : List Cell) → Lie source lo hi cells → Lie source lo hi (with_new_lines cells)
  lie_new_lines lo hi [] h = h
  lie_new_lines lo hi (a ∷ []) h = h
  lie_new_lines lo hi (a ∷ b ∷ r) h =
      cond_both (eqb a.byte 13 && eqb b.byte 10) (joined 10 a b ∷ with_new_lines r) (a ∷ with_new_lines (b ∷ r)) (Lie source lo hi) (λ _. (h.0, omega (arith, h.1, h.3.0, h.3.1), h.2, lie_new_lines b.last hi r h.3.3)) (λ _. (h.0, h.1, h.2, lie_new_lines a.last hi (b ∷ r) h.3))

  lie_trigraphs : (lo hi : ℕ) (cells : List Cell) → Lie source lo hi cells → Lie source lo hi (with_trigraphs language cells)
  lie_trigraphs lo hi [] h = h
  lie_trigraphs lo hi (a ∷ []) h = h
  lie_trigraphs lo hi (a ∷ b ∷ []) h = h
  lie_trigraphs lo hi (a ∷ b ∷ c ∷ r) h =
      cond_both (is_trigraph language a.byte b.byte c.byte) (joined (trigraph language c.byte) a c ∷ with_trigraphs language r) (a ∷ with_trigraphs language (b ∷ c ∷ r)) (Lie source lo hi) (λ _. (h.0, omega (arith, h.1, h.3.0, h.3.1, h.3.3.0, h.3.3.1), h.2, lie_trigraphs c.last hi r h.3.3.3)) (λ _. (h.0, h.1, h.2, lie_trigraphs a.last hi (b ∷ c ∷ r) h.3))

  lie_drop : (n lo hi : ℕ) (cells : List Cell) → Lie source lo hi cells → Lie source lo hi (drop n cells)
  lie_drop zero lo hi cells h = h
  lie_drop (suc n) lo hi [] h = h
  lie_drop (suc n) lo hi (c ∷ cs) h = lie_drop n lo hi cs (lower lo c.last hi cs (omega (arith, h.0, h.1)) h.3)

  lie_spliced : (lo hi : ℕ) (cells : List Cell) → Lie source lo hi cells → Lie source lo hi (spliced language cells)
  lie_spliced lo hi [] h = h
  lie_spliced lo hi (a ∷ r) h =
      cond_both (eqb a.byte 92 && ltb 0 (end_cells language r)) (drop (end_cells language r) (spliced language r)) (a ∷ spliced language r) (Lie source lo hi)
      (λ _. lie_drop (end_cells language r) lo hi (spliced language r) (lower lo a.last hi (spliced language r) (omega (arith, h.0, h.1)) (lie_spliced a.last hi r h.3)))
      (λ _. (h.0, h.1, h.2, lie_spliced a.last hi r h.3))

  lie_ended : (end : Cell) (lo hi : ℕ) (cells : List Cell) → end.first ≡ hi → end.last ≡ hi → LineOf source end → Lie source lo hi cells → Lie source lo hi (ended_by end cells)
  lie_ended end lo hi [] f l n h = h
  lie_ended end lo hi (a ∷ []) f l n h =
      cond_both (eqb a.byte 10) (a ∷ []) (a ∷ end ∷ []) (Lie source lo hi) (λ _. h) (λ _. (h.0, h.1, h.2, (omega (arith, h.3), omega arith, n, omega arith)))
  lie_ended end lo hi (a ∷ b ∷ r) f l n h = (h.0, h.1, h.2, lie_ended end a.last hi (b ∷ r) f l n h.3)

  lie_open_text : Lie source 0 (length source) (open_text language source)
  lie_open_text =
      let hi : ℕ = length source in
      lie_spliced 0 hi _ (lie_trigraphs 0 hi _ (lie_new_lines 0 hi _ (lie_without_mark hi _ (lie_from [] source refl))))

  lie_text : Lie source 0 (length source) (phase_text language source)
  lie_text =
      let hi : ℕ = length source in
      let line : LineOf source (added_new_line source) = ap (λ l. 1 + count_by lf l) (sym (take_all (length source) source (omega arith))) in
      lie_ended (added_new_line source) 0 hi (open_text language source) refl refl line lie_open_text

  starts_above : (lo hi : ℕ) (cells : List Cell) → Lie source lo hi cells → All (λ (c : Cell). lo ≤ c.first) cells
  starts_above lo hi [] h = All-nil (λ (c : Cell). lo ≤ c.first)
  starts_above lo hi (c ∷ r) h =
      All-cons (λ (c : Cell). lo ≤ c.first) c r h.0 (starts_above lo hi r (lower lo c.last hi r (omega (arith, h.0, h.1)) h.3))

  ends_below : (lo hi : ℕ) (cells : List Cell) → Lie source lo hi cells → lo ≤ hi
  ends_below lo hi [] h = h
  ends_below lo hi (c ∷ r) h = omega (arith, h.0, h.1, ends_below c.last hi r h.3)

  within : (lo hi : ℕ) (cells : List Cell) → Lie source lo hi cells → All (λ (c : Cell). (c.first ≤ c.last) × (c.last ≤ hi)) cells
  within lo hi [] h = All-nil (λ (c : Cell). (c.first ≤ c.last) × (c.last ≤ hi))
  within lo hi (c ∷ r) h =
      All-cons (λ (c : Cell). (c.first ≤ c.last) × (c.last ≤ hi)) c r (h.1, ends_below c.last hi r h.3) (within c.last hi r h.3)

  lines : (lo hi : ℕ) (cells : List Cell) → Lie source lo hi cells → All (LineOf source) cells
  lines lo hi [] h = All-nil (LineOf source)
  lines lo hi (c ∷ r) h = All-cons (LineOf source) c r h.2 (lines c.last hi r h.3)

  apart : (lo hi : ℕ) (cells : List Cell) → Lie source lo hi cells → AllPairs (λ (a b : Cell). a.last ≤ b.first) cells
  apart lo hi [] h = λ i j d lt k. absurd (omega arith)
  apart lo hi (c ∷ r) h = AllPairs-cons (λ (a b : Cell). a.last ≤ b.first) c r (starts_above c.last hi r h.3) (apart c.last hi r h.3)

  pub text_within : All (λ (c : Cell). (c.first ≤ c.last) × (c.last ≤ length source)) (phase_text language source)
  text_within = within 0 (length source) (phase_text language source) lie_text

  pub text_apart : AllPairs (λ (a b : Cell). a.last ≤ b.first) (phase_text language source)
  text_apart = apart 0 (length source) (phase_text language source) lie_text

  pub text_lines : All (λ (c : Cell). c.line ≡ 1 + count_by lf (take c.first source)) (phase_text language source)
  text_lines = lines 0 (length source) (phase_text language source) lie_text

  pub open_text-within : All (λ (c : Cell). c.line ≤ (added_new_line source).line) (open_text language source)
  open_text-within i d lt =
      let is = lines 0 (length source) (open_text language source) lie_open_text i d lt in
      omega (arith, is, sum_by-take-le (λ b. cond (lf b) 1 0) source (get_or (open_text language source) i d).first)

  -- fewer line feeds are before an earlier place
  count_rises : (m n : ℕ) → m ≤ n → count_by lf (take m source) ≤ count_by lf (take n source)
  count_rises m n le =
      subst (λ (l : List ℕ). count_by lf l ≤ count_by lf (take n source)) (take-take m n source le) (sum_by-take-le (λ b. cond (lf b) 1 0) (take n source) m)

  pub text_rises : AllPairs (λ (a b : Cell). a.line ≤ b.line) (phase_text language source)
  text_rises i j d lt below =
      let one = text_lines i d (omega arith) in
      let two = text_lines j d below in
      let order = text_apart i j d lt below in
      let inner = text_within i d (omega arith) in
      omega (arith, one, two, count_rises _ _ (le_trans inner.0 order))

-- a source with nothing special
plain_cells : (language : Language) (at line : ℕ) (bs : List ℕ) → All (λ b. is_special b ≡ false) bs → text_from language at line bs ≡ cells_from at line bs
plain_cells language at line [] h = refl
plain_cells language at line (b ∷ bs) h =
    text_plain language at line b bs (All-head (λ b. is_special b ≡ false) b bs h) ∙ ap (λ r. record { byte = b; first = at; last = at + 1; line = line } ∷ r) (plain_cells language (at + 1) (cond (eqb b 10) (line + 1) line) bs (All-tail (λ b. is_special b ≡ false) b bs h))

no_mark : (t : Bool) → cond {A = ℕ} t 3 0 ≡ 0 → t ≡ false
no_mark true e = absurd (omega arith)
no_mark false e = refl

pub text_stays : (language : Language) (source : List ℕ) → All (λ b. is_special b ≡ false) source → mark_len source ≡ 0 → phase_text language source ≡ ended_by (added_new_line source) (cells_from 0 1 source)
text_stays language source h none =
    ap (λ l. ended_by (added_new_line source) (spliced language (with_trigraphs language (with_new_lines l)))) (without_mark_is source ∙ cond-false _ _ _ (no_mark _ none)) ∙ ap (ended_by (added_new_line source)) (plain_cells language 0 1 source h)

bytes_of-cells_from : (at line : ℕ) (bs : List ℕ) → bytes_of (cells_from at line bs) ≡ bs
bytes_of-cells_from at line [] = refl
bytes_of-cells_from at line (b ∷ bs) = ap (λ r. b ∷ r) (bytes_of-cells_from (at + 1) (cond (eqb b 10) (line + 1) line) bs)

ends_open-cons : (x y : ℕ) (ys : List ℕ) → ends_open (x ∷ y ∷ ys) ≡ ends_open (y ∷ ys)
ends_open-cons x y ys =
    let n : ℕ = length ys in
    let e : suc (suc n) - 1 ≡ suc n = omega arith in
    let f : n ≡ suc n - 1 = omega arith in
    let g : ltb 0 (suc (suc n)) ≡ ltb 0 (suc n) = lt-ltb 0 (suc (suc n)) (omega arith) ∙ sym (lt-ltb 0 (suc n) (omega arith)) in
    ap (λ i. ltb 0 (suc (suc n)) && not (eqb (get_or (x ∷ y ∷ ys) i 0) 10)) e ∙ (ap (λ t. t && not (eqb (get_or (y ∷ ys) n 0) 10)) g ∙ ap (λ i. ltb 0 (suc n) && not (eqb (get_or (y ∷ ys) i 0) 10)) f)

cons_cond : (x : ℕ) (t : Bool) (u v : List ℕ) → x ∷ cond t u v ≡ cond t (x ∷ u) (x ∷ v)
cons_cond x true u v = refl
cons_cond x false u v = refl

ended_one : (t : Bool) (end a : Cell) → end.byte ≡ 10 → bytes_of (cond t (a ∷ []) (a ∷ end ∷ [])) ≡ cond (not t) (a.byte ∷ 10 ∷ []) (a.byte ∷ [])
ended_one true end a e = refl
ended_one false end a e = ap (λ x. a.byte ∷ x ∷ []) e

bytes_of-ended : (end : Cell) (cells : List Cell) → end.byte ≡ 10 → bytes_of (ended_by end cells) ≡ cond (ends_open (bytes_of cells)) (bytes_of cells ++ 10 ∷ []) (bytes_of cells)
bytes_of-ended end [] e = refl
bytes_of-ended end (a ∷ []) e = ended_one (eqb a.byte 10) end a e
bytes_of-ended end (a ∷ b ∷ r) e =
    ap (λ l. a.byte ∷ l) (bytes_of-ended end (b ∷ r) e) ∙ (cons_cond a.byte (ends_open (bytes_of (b ∷ r))) _ _ ∙ ap (λ t. cond t (bytes_of (a ∷ b ∷ r) ++ 10 ∷ []) (bytes_of (a ∷ b ∷ r))) (sym (ends_open-cons a.byte b.byte (bytes_of r))))

pub bytes_stay : (language : Language) (source : List ℕ) → All (λ b. is_special b ≡ false) source → mark_len source ≡ 0 → bytes_of (phase_text language source) ≡ cond (ends_open source) (source ++ 10 ∷ []) source
bytes_stay language source h none =
    ap bytes_of (text_stays language source h none) ∙ (bytes_of-ended (added_new_line source) (cells_from 0 1 source) refl ∙ ap (λ l. cond (ends_open l) (l ++ 10 ∷ []) l) (bytes_of-cells_from 0 1 source))
