-- Skipping what is left of a line: where it ends, and the lines after it.
use Rattle.inc_text.specs.declared.languages.Language.{Language}
use Rattle.std.proofs.Common.{◌≡◌, ℕ, zero, suc, ◌+◌, ◌-◌, ◌<◌, ◌≤◌, ◌==◌, Bool, true, false, List, [], ◌∷◌, Option, None, Some, Result, Ok, Err, length, drop, refl, sym, ap, ◌∙◌, subst, arith, length-drop, slice_get, option_map}
use Rattle.std.proofs.lemmas.Bool.{cond_both}
use Rattle.std.proofs.lemmas.List.{drop-drop, drop_all}
use Rattle.inc_text.specs.PhaseText.{Cell, bytes_of, range_and_line}
use Rattle.inc_token.specs.LineFronts.{Brief, Known, FirstLine, first_from, first_with, ahead}
use Rattle.inc_token.specs.LineWalk.{lines_at}
use Rattle.inc_token.specs.Skipping.{skipped_len, further, skip_part, line_rest}
use Rattle.inc_token.specs.TokenLines.{lines_from, piece_at, piece_len, with_piece, progress_after, is_space}
use Rattle.inc_token.specs.declared.lines.LexFault.{LexFault}
use Rattle.inc_token.specs.declared.lines.LexFault.TheVariants.{OpenComment}
use Rattle.inc_token.specs.declared.pieces.Piece.{Piece}
use Rattle.inc_token.specs.declared.pieces.Piece.TheVariants.{Blank, NewLine, Lexeme, Unclosed}
use Rattle.inc_token.specs.declared.pieces.Progress.TheVariants.{AtStart, Elsewhere}
use Rattle.inc_token.specs.declared.pieces.skipping.Skipped.{Skipped}
use Rattle.inc_token.specs.declared.pieces.skipping.Skipped.TheVariants.{ToLineEnd, ToOpenComment}
use Rattle.inc_token.proofs.Cells.{with_piece-blank, with_piece-open, bytes_of-drop, cell_at, drop-one}
use Rattle.inc_token.proofs.FrontSteps.{ahead-by, first-end, skipped-token}
use Rattle.inc_token.proofs.PieceBounds.{piece_at-within}
use Rattle.inc_token.proofs.Places.{line_at}
use Rattle.inc_token.proofs.SkippedTokens.{Agrees, piece_agrees}

-- skipping stops within the text
abbrev StopsWithin : List ℕ → Skipped → Type 0
StopsWithin text (ToLineEnd n) = n ≤ length text
StopsWithin text (ToOpenComment n) = n < length text

within_further : (b : ℕ) (bs : List ℕ) (r : Skipped) → StopsWithin bs r → StopsWithin (b ∷ bs) (further 1 r)
within_further b bs (ToLineEnd n) h = omega arith
within_further b bs (ToOpenComment n) h = omega arith

within_part : (n b : ℕ) (bs : List ℕ) (r : Skipped) → StopsWithin bs r → StopsWithin (b ∷ bs) (skip_part n r)
within_part zero b bs r h = omega arith
within_part (suc n) b bs r h = within_further b bs r h

stops_within : (language : Language) (left : ℕ) (text : List ℕ) → StopsWithin text (line_rest language left text)
stops_within language zero [] = omega arith
stops_within language (suc left) [] = omega arith
stops_within language (suc left) (b ∷ bs) = within_further b bs (line_rest language left bs) (stops_within language left bs)
stops_within language zero (b ∷ bs) =
    let n = skipped_len language (b ∷ bs) in
    cond_both (b == 10) (ToLineEnd 0) (skip_part n (line_rest language (n - 1) bs)) (StopsWithin (b ∷ bs)) (λ _. omega arith)
    (λ _. within_part n b bs (line_rest language (n - 1) bs) (stops_within language (n - 1) bs))

-- the lines from there on, once this is told of the first

abbrev at_end : (language : Language) → Brief → List Cell → Result (Option FirstLine) LexFault
at_end language b [] = Ok None
at_end language b (c ∷ cs) = first_with b (lines_from language 0 AtStart false cs)

abbrev at_comment : List Cell → Result (Option FirstLine) LexFault
at_comment [] = Ok None
at_comment (c ∷ cs) = Err (OpenComment c.line)

abbrev ahead_at : (language : Language) → Brief → Skipped → List Cell → Result (Option FirstLine) LexFault
ahead_at language b (ToLineEnd n) cells = at_end language b (drop n cells)
ahead_at language b (ToOpenComment n) cells = at_comment (drop n cells)

ahead_further : (language : Language) (b : Brief) (r : Skipped) (c : Cell) (cs : List Cell) → ahead_at language b r cs ≡ ahead_at language b (further 1 r) (c ∷ cs)
ahead_further language b (ToLineEnd n) c cs = ap (at_end language b) (drop-one n c cs)
ahead_further language b (ToOpenComment n) c cs = ap at_comment (drop-one n c cs)

-- after the n bytes of a piece
over_piece : (language : Language) (b : Brief) (n : ℕ) (c : Cell) (cs : List Cell) (first : Result (Option FirstLine) LexFault) → 1 ≤ n
    → line_rest language 0 (bytes_of (c ∷ cs)) ≡ line_rest language n (bytes_of (c ∷ cs)) → first ≡ ahead_at language b (line_rest language (n - 1) (bytes_of cs)) cs
    → first ≡ ahead_at language b (line_rest language 0 (bytes_of (c ∷ cs))) (c ∷ cs)
over_piece language b zero c cs first pos over is = absurd (omega arith)
over_piece language b (suc n) c cs first pos over is =
    let e : suc n - 1 ≡ n = omega arith in
    is ∙ ap (λ k. ahead_at language b (line_rest language k (bytes_of cs)) cs) e
    ∙ ahead_further language b (line_rest language n (bytes_of cs)) c cs ∙ ap (λ r. ahead_at language b r (c ∷ cs)) (sym over)

piece_skipped : (language : Language) (b : Brief) (space : Bool) (piece : Piece) (c : Cell) (cs : List Cell) → 1 ≤ piece_len piece → Agrees language c.byte (bytes_of cs) piece
    → ((left : ℕ) (space' : Bool) → first_from language (Known b) (lines_from language left Elsewhere space' cs) ≡ ahead_at language b (line_rest language left (bytes_of cs)) cs)
    → first_from language (Known b) (with_piece space piece c cs (lines_from language (piece_len piece - 1) (progress_after language Elsewhere piece (bytes_of (c ∷ cs))) (is_space piece) cs))
    ≡ ahead_at language b (line_rest language 0 (bytes_of (c ∷ cs))) (c ∷ cs)
piece_skipped language b space (Blank n) c cs pos agrees rest =
    let lines = lines_from language (n - 1) Elsewhere true cs in
    ap (first_from language (Known b)) (with_piece-blank space n c cs lines) ∙ over_piece language b n c cs (first_from language (Known b) lines) pos agrees (rest (n - 1) true)
piece_skipped language b space (Lexeme kind n) c cs pos agrees rest =
    let lines = lines_from language (n - 1) Elsewhere false cs in
    skipped-token language b space kind n c cs lines ∙ over_piece language b n c cs (first_from language (Known b) lines) pos agrees (rest (n - 1) false)
piece_skipped language b space NewLine c cs pos agrees rest =
    first-end language (Known b) space c cs (lines_from language 0 AtStart false cs) ∙ ap (λ r. ahead_at language b r (c ∷ cs)) (sym agrees)
piece_skipped language b space Unclosed c cs pos agrees rest =
    ap (first_from language (Known b)) (with_piece-open space c cs (lines_from language 0 AtStart false cs)) ∙ ap (λ r. ahead_at language b r (c ∷ cs)) (sym agrees)

skipped : (language : Language) (b : Brief) (left : ℕ) (space : Bool) (cells : List Cell)
    → first_from language (Known b) (lines_from language left Elsewhere space cells) ≡ ahead_at language b (line_rest language left (bytes_of cells)) cells
skipped language b zero space [] = refl
skipped language b (suc left) space [] = refl
skipped language b (suc left) space (c ∷ cs) = skipped language b left space cs ∙ ahead_further language b (line_rest language left (bytes_of cs)) c cs
skipped language b zero space (c ∷ cs) =
    let text : List ℕ = bytes_of (c ∷ cs) in
    let piece : Piece = piece_at language Elsewhere text in
    piece_skipped language b space piece c cs (piece_at-within language Elsewhere text (omega arith)).0 (piece_agrees language c.byte (bytes_of cs)) (λ left space'. skipped language b left space' cs)

-- the same at a place

to_end : (at stop : ℕ) (r : Skipped) → ToLineEnd stop ≡ further at r → (n : ℕ) × (r ≡ ToLineEnd n) × (at + n ≡ stop)
to_end at stop (ToLineEnd n) is = let e : stop ≡ at + n = cc in (n, refl, sym e)
to_end at stop (ToOpenComment n) is = cc

to_comment : (at stop : ℕ) (r : Skipped) → ToOpenComment stop ≡ further at r → (n : ℕ) × (r ≡ ToOpenComment n) × (at + n ≡ stop)
to_comment at stop (ToOpenComment n) is = let e : stop ≡ at + n = cc in (n, refl, sym e)
to_comment at stop (ToLineEnd n) is = cc

at_end-lf : (language : Language) (b : Brief) (cells : List Cell) (stop : ℕ) (c : Cell) (cs : List Cell) → drop stop cells ≡ c ∷ cs
    → at_end language b (drop stop cells) ≡ first_with b (lines_at language cells (stop + 1))
at_end-lf language b cells stop c cs is =
    ap (at_end language b) is ∙ ap (λ (rest : List Cell). first_with b (lines_from language 0 AtStart false rest)) (ap (drop 1) (sym is) ∙ drop-drop 1 stop cells)

module _ (language : Language) (bytes : List ℕ) (cells : List Cell) (text : bytes ≡ bytes_of cells) where
  known_at : (at : ℕ) (b : Brief) (r : Skipped) → line_rest language 0 (drop at bytes) ≡ r → ahead language (Known b) (drop at cells) ≡ ahead_at language b r (drop at cells)
  known_at at b r is =
      let here : bytes_of (drop at cells) ≡ drop at bytes = sym (ap (drop at) text ∙ bytes_of-drop at cells) in
      ahead-by language (Known b) false (drop at cells) ∙ skipped language b 0 false (drop at cells) ∙ ap (λ r'. ahead_at language b r' (drop at cells)) (ap (line_rest language 0) here ∙ is)

  module _ (at stop : ℕ) where
    module _ (is : ToLineEnd stop ≡ further at (line_rest language 0 (drop at bytes))) where
      pub end_within : at ≤ length bytes → (at ≤ stop) × (stop ≤ length bytes)
      end_within le =
          let to = to_end at stop (line_rest language 0 (drop at bytes)) is in
          let within : to.0 ≤ length (drop at bytes) = subst (StopsWithin (drop at bytes)) to.1 (stops_within language 0 (drop at bytes)) in
          (omega (arith, to.2), omega (arith, to.2, within, length-drop at bytes))

      known_at-end : (b : Brief) → ahead language (Known b) (drop at cells) ≡ at_end language b (drop stop cells)
      known_at-end b =
          let to = to_end at stop (line_rest language 0 (drop at bytes)) is in
          known_at at b (ToLineEnd to.0) to.1 ∙ ap (at_end language b) (drop-drop to.0 at cells ∙ ap (λ k. drop k cells) to.2)

      -- after the LF
      pub line_over : (b : Brief) → stop < length cells → ahead language (Known b) (drop at cells) ≡ first_with b (lines_at language cells (stop + 1))
      line_over b lt = let cell = cell_at cells stop lt in known_at-end b ∙ at_end-lf language b cells stop cell.0 cell.1 cell.2

      -- without one
      pub text_over : (b : Brief) → length cells ≤ stop → ahead language (Known b) (drop at cells) ≡ Ok None
      text_over b le = known_at-end b ∙ ap (at_end language b) (drop_all stop cells le)

    module _ (is : ToOpenComment stop ≡ further at (line_rest language 0 (drop at bytes))) where
      pub comment_within : stop < length bytes
      comment_within =
          let to = to_comment at stop (line_rest language 0 (drop at bytes)) is in
          let within : to.0 < length (drop at bytes) = subst (StopsWithin (drop at bytes)) to.1 (stops_within language 0 (drop at bytes)) in
          omega (arith, to.2, within, length-drop at bytes)

      pub known-open : (b : Brief) (first last line : ℕ) → stop < length cells → option_map range_and_line (slice_get cells stop) ≡ Some (first, last, line)
          → ahead language (Known b) (drop at cells) ≡ Err (OpenComment line)
      known-open b first last line lt place =
          let to = to_comment at stop (line_rest language 0 (drop at bytes)) is in
          let cell = cell_at cells stop lt in
          let from = line_at cells stop cell.0 first last line cell.3 place in
          let on : cell.0.line ≡ line = ap (λ (x : ℕ × ℕ × ℕ). x.2) from in
          let there : drop to.0 (drop at cells) ≡ cell.0 ∷ cell.1 = drop-drop to.0 at cells ∙ ap (λ k. drop k cells) to.2 ∙ cell.2 in
          known_at at b (ToOpenComment to.0) to.1 ∙ ap at_comment there ∙ ap (λ n. Err (OpenComment n)) on
