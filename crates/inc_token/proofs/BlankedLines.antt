-- The token lines of a source of which some are blanked, one of them after the other.
use Rattle.inc_text.specs.declared.languages.Language.{Language}
use Rattle.std.proofs.Common.{◌≡◌, ℕ, ◌+◌, ◌<◌, ◌≤◌, Bool, true, false, not, cond, List, [], ◌∷◌, ◌++◌, Result, Ok, Err, IfOk, map, filter, append_assoc, refl, sym, ap, ◌∙◌, subst, arith}
use Rattle.inc_text.specs.PhaseText.{Cell, phase_text}
use Rattle.inc_text.proofs.TextLines.{phase_text-ascends}
use Rattle.inc_token.specs.BlankedLines.{AreReplaced, all_done, stays, empty_before, empty_last, BlankedLines}
use Rattle.inc_token.specs.Blanking.{blanked_from, line_range, ranges_of}
use Rattle.inc_token.specs.BlankingSteps.{with_blank}
use Rattle.inc_token.specs.TokenLaws.{AreTokenLinesFrom}
use Rattle.inc_token.specs.TokenLines.{Tok, TokenLine, lines_from, token_lines}
use Rattle.inc_token.specs.declared.lines.LexFault.{LexFault}
use Rattle.inc_token.specs.declared.pieces.Progress.TheVariants.{AtStart}
use Rattle.inc_token.proofs.BlankedBytes.{blanked_again, blanked_none}
use Rattle.inc_token.proofs.BlankedCells.{blanked_text}
use Rattle.inc_token.proofs.BlankedWalks.{AreEmpty, empty_line, line, reach_line, walk_blanked}
use Rattle.inc_token.proofs.LineOrder.{token_lines-ascend}
use Rattle.inc_token.proofs.Walks.{Walk, lines_walk, walk_lines}

---- one line

-- a walk that gives a line has cells
some_cells : (language : Language) {space : Bool} {cells : List Cell} {l : TokenLine} {ls : List TokenLine}
    → Walk language AtStart space cells (l ∷ ls) → cells ≡ [] → ⊥
some_cells language {space} {cells} {l} {ls} walk is =
    let e : Ok [] ≡ Ok (l ∷ ls) = ap (lines_from language 0 AtStart space) (sym is) ∙ walk_lines language walk in cc

one_line : (language : Language) (source : List ℕ) (before : List TokenLine) (t : Tok) (ts : List Tok) (n : ℕ) (after : List TokenLine)
    → token_lines language (phase_text language source) ≡ Ok (before ++ (line (t ∷ ts) n ∷ after))
    → (es : List TokenLine) × AreEmpty es
    × (token_lines language (phase_text language (with_blank (line_range (t ∷ ts)) source))
    ≡ Ok (before ++ (es ++ (empty_line n ∷ after))))
one_line language source before t ts n after is =
    let r = reach_line language (lines_walk language AtStart false (phase_text language source)
    (before ++ (line (t ∷ ts) n ∷ after)) is) before t ts n after refl (λ _. refl) in
    let new = blanked_text language source r.before r.c r.cs r.rest r.all (some_cells language r.more) r.first_byte r.last_byte r.closed in
    let w = walk_blanked language r new.s new.gone new.space new.are in (
      w.0,
      w.1,
      ap (λ e. token_lines language (phase_text language (with_blank
          (record { first = e; last = (line_range (t ∷ ts)).last }) source))) (sym r.first)
          ∙ ap (λ e. token_lines language (phase_text language (with_blank (record { first = r.c.first; last = e }) source))) (sym r.last)
          ∙ ap (token_lines language) new.text ∙ walk_lines language w.2,
    )

---- the lines ascend

behind_some : (k : ℕ) (before rest : List TokenLine) → AreTokenLinesFrom k (before ++ rest)
    → (j : ℕ) × AreTokenLinesFrom j rest
behind_some k [] rest h = (k, h)
behind_some k (l ∷ ls) rest h = behind_some (l.last_line + 1) ls rest h.2

abbrev EndBefore : ℕ → List TokenLine → Type 0
EndBefore n [] = Unit {0}
EndBefore n (l ∷ ls) = (l.last_line < n) × EndBefore n ls

end_before : (k : ℕ) (es : List TokenLine) (l : TokenLine) (rest : List TokenLine)
    → AreTokenLinesFrom k (es ++ (l ∷ rest))
    → (k ≤ l.last_line) × EndBefore l.last_line es
end_before k [] l rest h = (h.0, tt)
end_before k (e ∷ es) l rest h =
    let r = end_before (e.last_line + 1) es l rest h.2 in
    (omega (arith, h.0, r.0), (omega (arith, r.0), r.1))

pub ascends : (language : Language) (source : List ℕ) (lines : List TokenLine) → token_lines language (phase_text language source) ≡ Ok lines
    → AreTokenLinesFrom 1 lines
ascends language source lines is = by (token_lines language (phase_text language source)) is
    (token_lines-ascend language 1 (phase_text language source) (phase_text-ascends language source)) where
      by : (r : Result (List TokenLine) LexFault) → r ≡ Ok lines → IfOk r (AreTokenLinesFrom 1)
          → AreTokenLinesFrom 1 lines
      by (Ok ls) same h = let e : ls ≡ lines = cc in subst (AreTokenLinesFrom 1) e h
      by (Err fault) same h = cc

---- all lines

module _ (language : Language) (test : List Tok → Bool) where
  replaced_by : (l : TokenLine) (ls ms es : List TokenLine) → test l.tokens ≡ true → AreEmpty es
      → EndBefore l.last_line es
      → AreReplaced test ls ms → AreReplaced test (l ∷ ls) (es ++ (empty_line l.last_line ∷ ms))
  replaced_by l ls ms [] passes are before rest = empty_last passes rest
  replaced_by l ls ms (e ∷ es) passes are before rest =
      subst (λ x. AreReplaced test (l ∷ ls) (x ∷ (es ++ (empty_line l.last_line ∷ ms)))) (sym are.0)
      (empty_before passes before.0 (replaced_by l ls ms es passes are.1 before.1 rest))

  -- what is known of a source, some lines of which are looked at
  abbrev Answer : List TokenLine → List TokenLine → List ℕ → Type 0
  Answer before ls source =
      (blank : List TokenLine) × (token_lines language (phase_text language (blanked_from 0 (ranges_of test ls) source))
      ≡ Ok (before ++ blank)) × AreReplaced test ls blank

  abbrev Known : List TokenLine → Type 0
  Known ls = (before : List TokenLine) (source : List ℕ) → token_lines language (phase_text language source) ≡ Ok (before ++ ls)
      → Answer before ls source

  passed : (l : TokenLine) (ls : List TokenLine) (ts : List Tok) → l.tokens ≡ ts → test [] ≡ false
      → test l.tokens ≡ true → Known ls → Known (l ∷ ls)
  passed l ls [] has none passes known before source is = let clash : false ≡ true = sym none ∙ ap test (sym has)
      ∙ passes in cc
  passed l ls (t ∷ ts) has none passes known before source is =
      let n : ℕ = l.last_line in
      let all : line l.tokens n ≡ line (t ∷ ts) n = ap (λ us. line us n) has in
      let o = one_line language source before t ts n ls (is ∙ ap (λ k. Ok (before ++ (k ∷ ls))) all) in
      let es : List TokenLine = o.0 in
      let new : List ℕ = with_blank (line_range (t ∷ ts)) source in
      let done : List TokenLine = before ++ (es ++ (empty_line n ∷ [])) in
      let joint : (ms : List TokenLine) → done ++ ms ≡ before ++ (es ++ (empty_line n ∷ ms)) =
      λ ms. append_assoc before (es ++ (empty_line n ∷ [])) ms
      ∙ ap (λ ks. before ++ ks) (append_assoc es (empty_line n ∷ []) ms) in
      let r = known done new (o.2 ∙ ap Ok (sym (joint ls))) in
      let tests : TokenLine → Bool = λ m. test m.tokens in
      let ranges : ranges_of test (l ∷ ls) ≡ line_range (t ∷ ts) ∷ ranges_of test ls =
      ap (λ p. map (λ (m : TokenLine). line_range m.tokens) (cond p (l ∷ filter tests ls) (filter tests ls))) passes
      ∙ ap (λ us. line_range us ∷ ranges_of test ls) has in
      let bytes : blanked_from 0 (ranges_of test (l ∷ ls)) source ≡ blanked_from 0 (ranges_of test ls) new =
      ap (λ rs. blanked_from 0 rs source) ranges ∙ sym
      (blanked_again 0 (line_range (t ∷ ts) ∷ []) (ranges_of test ls) source) in
      let order = behind_some 1 before (es ++ (empty_line n ∷ ls))
      (ascends language new (before ++ (es ++ (empty_line n ∷ ls))) o.2) in
      let ends = end_before order.0 es (empty_line n) ls order.1 in (
        es ++ (empty_line n ∷ r.0),
        ap (λ bs. token_lines language (phase_text language bs)) bytes ∙ r.1
            ∙ ap Ok (joint r.0),
        replaced_by l ls r.0 es passes o.1 ends.1 r.2,
      )

  kept : (l : TokenLine) (ls : List TokenLine) → test l.tokens ≡ false → Known ls → Known (l ∷ ls)
  kept l ls fails known before source is =
      let r = known (before ++ (l ∷ [])) source (is ∙ ap Ok (sym (append_assoc before (l ∷ []) ls))) in
      let same : ranges_of test (l ∷ ls) ≡ ranges_of test ls =
      ap (λ p. map (λ (m : TokenLine). line_range m.tokens)
      (cond p (l ∷ filter (λ (m : TokenLine). test m.tokens) ls)
      (filter (λ (m : TokenLine). test m.tokens) ls))) fails in (
        l ∷ r.0,
        ap (λ rs. token_lines language (phase_text language (blanked_from 0 rs source))) same ∙ r.1
            ∙ ap Ok (append_assoc before (l ∷ []) r.0),
        stays (ap not fails) r.2,
      )

  by_test : (l : TokenLine) (ls : List TokenLine) (t : Bool) → test l.tokens ≡ t → test [] ≡ false → Known ls
      → Known (l ∷ ls)
  by_test l ls true is none known = passed l ls l.tokens refl none is known
  by_test l ls false is none known = kept l ls is known

  all_lines : (ls : List TokenLine) → test [] ≡ false → Known ls
  all_lines [] none before source is =
      ([], ap (λ bs. token_lines language (phase_text language bs)) (blanked_none 0 source) ∙ is, all_done)
  all_lines (l ∷ ls) none before source is = by_test l ls (test l.tokens) refl none
      (all_lines ls none) before source is

pub blanked-lines : BlankedLines
blanked-lines language test source lines none is = all_lines language test lines none [] source is
