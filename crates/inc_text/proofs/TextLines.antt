-- The lines of a text never fall, and rise after each LF.
use Rattle.std.proofs.Common.{◌≡◌, ℕ, zero, suc, ◌+◌, ◌≤◌, ◌&&◌, false, cond, List, [], ◌∷◌, drop, eqb, ltb, All, refl, arith}
use Rattle.std.proofs.lemmas.Bool.{cond_both, cond-true, cond-false, and_parts}
use Rattle.std.proofs.lemmas.List.Elements.{All-head, All-tail}
use Rattle.inc_text.specs.PhaseText.{Cell, cells_from, end_cells, joined, without_mark, with_new_lines, with_trigraphs, spliced, ended_by, added_new_line, phase_text, trigraph, is_trigraph}
use Rattle.inc_text.specs.Origins.{open_text}
use Rattle.inc_text.specs.TextLaws.{line_behind, AreLinesFrom}
use Rattle.inc_text.proofs.LawLemmas.{open_text-within}
use Rattle.inc_text.proofs.PhaseLemmas.{trigraph-ne_lf}
use Rattle.inc_text.specs.declared.languages.Language.{Language}

lower : (line least : ℕ) (cells : List Cell) → line ≤ least → AreLinesFrom least cells → AreLinesFrom line cells
lower line least [] le h = tt
lower line least (c ∷ cs) le h = (omega (arith, h.0), h.1)

pub line_behind-least : (c : Cell) → c.line ≤ line_behind c
line_behind-least c = cond_both (eqb c.byte 10) (c.line + 1) c.line (λ n. c.line ≤ n) (λ _. omega arith) (λ _. omega arith)

ascend_from : (at line : ℕ) (bs : List ℕ) → AreLinesFrom line (cells_from at line bs)
ascend_from at line [] = tt
ascend_from at line (b ∷ bs) = (omega arith, ascend_from (at + 1) (cond (eqb b 10) (line + 1) line) bs)

ascend_without_mark : (line : ℕ) (cells : List Cell) → AreLinesFrom line cells → AreLinesFrom line (without_mark cells)
ascend_without_mark line [] h = h
ascend_without_mark line (a ∷ []) h = h
ascend_without_mark line (a ∷ b ∷ []) h = h
ascend_without_mark line (a ∷ b ∷ c ∷ r) h =
    let least : line ≤ line_behind c = omega (arith, h.0, h.1.0, h.1.1.0, line_behind-least a, line_behind-least b, line_behind-least c) in
    cond_both ((eqb a.byte 0xef && eqb b.byte 0xbb) && eqb c.byte 0xbf) r (a ∷ b ∷ c ∷ r) (AreLinesFrom line) (λ _. lower line (line_behind c) r least h.1.1.1) (λ _. h)

ascend_new_lines : (line : ℕ) (cells : List Cell) → AreLinesFrom line cells → AreLinesFrom line (with_new_lines cells)
ascend_new_lines line [] h = h
ascend_new_lines line (a ∷ []) h = h
ascend_new_lines line (a ∷ b ∷ r) h =
    cond_both (eqb a.byte 13 && eqb b.byte 10) (joined 10 a b ∷ with_new_lines r) (a ∷ with_new_lines (b ∷ r)) (AreLinesFrom line)
    (λ yes.
    let ends : line_behind b ≡ b.line + 1 = cond-true (eqb b.byte 10) (b.line + 1) b.line (and_parts (eqb a.byte 13) (eqb b.byte 10) yes).1 in
    let least : a.line + 1 ≤ line_behind b = omega (arith, ends, h.1.0, line_behind-least a) in
    (h.0, ascend_new_lines (a.line + 1) r (lower (a.line + 1) (line_behind b) r least h.1.1)))
    (λ _. (h.0, ascend_new_lines (line_behind a) (b ∷ r) h.1))

ascend_trigraphs : (language : Language) (line : ℕ) (cells : List Cell) → AreLinesFrom line cells → AreLinesFrom line (with_trigraphs language cells)
ascend_trigraphs language line [] h = h
ascend_trigraphs language line (a ∷ []) h = h
ascend_trigraphs language line (a ∷ b ∷ []) h = h
ascend_trigraphs language line (a ∷ b ∷ c ∷ r) h =
    let whole : Cell = joined (trigraph language c.byte) a c in
    let same : line_behind whole ≡ a.line = cond-false (eqb (trigraph language c.byte) 10) (a.line + 1) a.line (trigraph-ne_lf language c.byte) in
    let least : line_behind whole ≤ line_behind c = omega (arith, same, h.1.0, h.1.1.0, line_behind-least a, line_behind-least b, line_behind-least c) in
    cond_both (is_trigraph language a.byte b.byte c.byte) (whole ∷ with_trigraphs language r) (a ∷ with_trigraphs language (b ∷ c ∷ r)) (AreLinesFrom line)
    (λ _. (h.0, ascend_trigraphs language (line_behind whole) r (lower (line_behind whole) (line_behind c) r least h.1.1.1)))
    (λ _. (h.0, ascend_trigraphs language (line_behind a) (b ∷ c ∷ r) h.1))

ascend_drop : (n line : ℕ) (cells : List Cell) → AreLinesFrom line cells → AreLinesFrom line (drop n cells)
ascend_drop zero line cells h = h
ascend_drop (suc n) line [] h = h
ascend_drop (suc n) line (c ∷ cs) h = ascend_drop n line cs (lower line (line_behind c) cs (omega (arith, h.0, line_behind-least c)) h.1)

ascend_spliced : (language : Language) (line : ℕ) (cells : List Cell) → AreLinesFrom line cells → AreLinesFrom line (spliced language cells)
ascend_spliced language line [] h = h
ascend_spliced language line (a ∷ r) h =
    let rest : AreLinesFrom (line_behind a) (spliced language r) = ascend_spliced language (line_behind a) r h.1 in
    cond_both (eqb a.byte 92 && ltb 0 (end_cells language r)) (drop (end_cells language r) (spliced language r)) (a ∷ spliced language r) (AreLinesFrom line)
    (λ _. ascend_drop (end_cells language r) line (spliced language r) (lower line (line_behind a) (spliced language r) (omega (arith, h.0, line_behind-least a)) rest))
    (λ _. (h.0, rest))

ascend_ended : (end : Cell) (line : ℕ) (cells : List Cell) → All (λ (c : Cell). c.line ≤ end.line) cells → AreLinesFrom line cells → AreLinesFrom line (ended_by end cells)
ascend_ended end line [] below h = h
ascend_ended end line (a ∷ []) below h =
    cond_both (eqb a.byte 10) (a ∷ []) (a ∷ end ∷ []) (AreLinesFrom line) (λ _. h) (λ no.
    let same : line_behind a ≡ a.line = cond-false (eqb a.byte 10) (a.line + 1) a.line no in
    let least : a.line ≤ end.line = All-head (λ (c : Cell). c.line ≤ end.line) a [] below in
    (h.0, (omega (arith, same, least), tt)))
ascend_ended end line (a ∷ b ∷ r) below h =
    (h.0, ascend_ended end (line_behind a) (b ∷ r) (All-tail (λ (c : Cell). c.line ≤ end.line) a (b ∷ r) below) h.1)

pub phase_text-ascends : (language : Language) (source : List ℕ) → AreLinesFrom 1 (phase_text language source)
phase_text-ascends language source =
    ascend_ended (added_new_line source) 1 (open_text language source) (open_text-within language source) (ascend_spliced language 1 _ (ascend_trigraphs language 1 _ (ascend_new_lines 1 _ (ascend_without_mark 1 _ (ascend_from 0 1 source)))))
