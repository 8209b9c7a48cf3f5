-- Tokens are on lines that never fall, and those of each line after those of the line before.
use Rattle.inc_text.specs.declared.languages.Language.{Language}
use Rattle.std.proofs.Common.{◌≡◌, ℕ, ◌+◌, ◌≤◌, ◌==◌, Bool, true, false, List, [], ◌∷◌, ◌++◌, Result, Ok, Err, IfOk, subst, sym, arith}
use Rattle.std.specs.List.{list_all, flat_map}
use Rattle.std.proofs.lemmas.Bool.{and_parts, cond-true}
use Rattle.std.proofs.lemmas.List.Elements.{All-nil, All-cons, All-weaker}
use Rattle.inc_text.specs.PhaseText.{Cell}
use Rattle.inc_text.specs.TextLaws.{line_behind, AreLinesFrom}
use Rattle.inc_token.specs.TokenLaws.{Part, Gap, LineFeed, Word, cells_in, is_part, token_from, lines_in, AreParts, IsOnLines, AreTokenLinesFrom}
use Rattle.inc_token.specs.TokenLines.{Tok, TokenLine, token_lines, with_token}
use Rattle.inc_token.specs.declared.lines.LexFault.{LexFault}
use Rattle.inc_text.proofs.TextLines.{line_behind-least}
use Rattle.inc_token.proofs.TextParts.{token_lines-parts}

-- cells after others are on no earlier line
behind_some : (line : ℕ) (cells rest : List Cell) → AreLinesFrom line (cells ++ rest) → (least : ℕ) × (line ≤ least) × AreLinesFrom least rest
behind_some line [] rest h = (line, omega arith, h)
behind_some line (c ∷ cs) rest h =
    let r : (least : ℕ) × (line_behind c ≤ least) × AreLinesFrom least rest = behind_some (line_behind c) cs rest h.1 in
    (r.0, omega (arith, h.0, r.1, line_behind-least c), r.2)

lower : (line least : ℕ) (ls : List TokenLine) → line ≤ least → AreTokenLinesFrom least ls → AreTokenLinesFrom line ls
lower line least [] le h = tt
lower line least (l ∷ ls) le h =
    (omega (arith, h.0), All-weaker (IsOnLines least l.last_line) (IsOnLines line l.last_line) (λ t at. (omega (arith, at.0), at.1)) l.tokens h.1, h.2)

ascend_with_token : (line : ℕ) (t : Tok) (ls : List TokenLine) → line ≤ t.line → AreTokenLinesFrom t.line ls → AreTokenLinesFrom line (with_token t ls)
ascend_with_token line t [] le h = tt
ascend_with_token line t (l ∷ ls) le h =
    let whole : AreTokenLinesFrom line (l ∷ ls) = lower line t.line (l ∷ ls) le h in
    (whole.0, All-cons (IsOnLines line l.last_line) t l.tokens (le, h.0) whole.1, whole.2)

ascend_in : (language : Language) (line : ℕ) (space : Bool) (parts : List Part) → list_all (is_part language) parts ≡ true → AreLinesFrom line (flat_map cells_in parts) → AreTokenLinesFrom line (lines_in space parts)
ascend_in language line space [] each h = tt
ascend_in language line space (Gap cells ∷ parts) each h =
    let r : (least : ℕ) × (line ≤ least) × AreLinesFrom least (flat_map cells_in parts) = behind_some line cells (flat_map cells_in parts) h in
    lower line r.0 (lines_in true parts) r.1 (ascend_in language r.0 true parts (and_parts (is_part language (Gap cells)) (list_all (is_part language) parts) each).1 r.2)
ascend_in language line space (LineFeed c ∷ parts) each h =
    let is = and_parts (is_part language (LineFeed c)) (list_all (is_part language) parts) each in
    let ends : line_behind c ≡ c.line + 1 = cond-true (c.byte == 10) (c.line + 1) c.line is.0 in
    (h.0, All-nil (IsOnLines line c.line), subst (λ least. AreTokenLinesFrom least (lines_in false parts)) ends (ascend_in language (line_behind c) false parts is.1 h.1))
ascend_in language line space (Word kind c cs ∷ parts) each h =
    let r : (least : ℕ) × (line_behind c ≤ least) × AreLinesFrom least (flat_map cells_in parts) = behind_some (line_behind c) cs (flat_map cells_in parts) h.1 in
    let rest : AreTokenLinesFrom r.0 (lines_in false parts) = ascend_in language r.0 false parts (and_parts (is_part language (Word kind c cs)) (list_all (is_part language) parts) each).1 r.2 in
    ascend_with_token line (token_from space kind c cs) (lines_in false parts) h.0 (lower c.line r.0 (lines_in false parts) (omega (arith, r.1, line_behind-least c)) rest)

by_parts : (language : Language) (line : ℕ) (cells : List Cell) (r : Result (List TokenLine) LexFault) → AreLinesFrom line cells
    → IfOk r (λ lines. (parts : List Part) × AreParts language cells false lines parts) → IfOk r (AreTokenLinesFrom line)
by_parts language line cells (Err fault) h p = tt
by_parts language line cells (Ok lines) h p =
    subst (AreTokenLinesFrom line) p.1.lines (ascend_in language line false p.0 p.1.each (subst (AreLinesFrom line) (sym p.1.all) h))

pub token_lines-ascend : (language : Language) (line : ℕ) (cells : List Cell) → AreLinesFrom line cells → IfOk (token_lines language cells) (AreTokenLinesFrom line)
token_lines-ascend language line cells h = by_parts language line cells (token_lines language cells) h (token_lines-parts language cells)
