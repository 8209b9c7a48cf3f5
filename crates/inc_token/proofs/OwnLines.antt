-- A line on which no comment can begin: its tokens are those of its own bytes, whatever is on the lines around it and wherever its bytes come from.
use Rattle.inc_text.specs.declared.languages.Language.{Language}
use Rattle.std.proofs.Common.{◌≡◌, ℕ, zero, suc, ◌+◌, ◌-◌, ◌≤◌, ◌==◌, ◌||◌, Bool, true, false, not, cond, List, [], ◌∷◌, ◌++◌, Result, Ok, Err, length, map, take, nat_lt, nat_eq, refl, sym, ap, ◌∙◌, subst, arith}
use Rattle.std.specs.List.{list_all, prefix_len, starts_with}
use Rattle.std.proofs.lemmas.Bool.{and_parts, and_left, cond_both, cond-false}
use Rattle.std.proofs.lemmas.List.{length-map, map-append, take-append-le}
use Rattle.inc_text.specs.PhaseText.{Cell, bytes_of}
use Rattle.inc_token.specs.declared.kinds.Kind.{Kind}
use Rattle.inc_token.specs.declared.kinds.Kind.TheVariants.{HeaderName}
use Rattle.inc_token.specs.declared.pieces.Piece.{Piece}
use Rattle.inc_token.specs.declared.pieces.Piece.TheVariants.{Blank, NewLine, Lexeme, Unclosed}
use Rattle.inc_token.specs.declared.pieces.Progress.{Progress}
use Rattle.inc_token.specs.declared.pieces.Progress.TheVariants.{AtStart, AfterHash, AfterInclude, Elsewhere}
use Rattle.inc_token.specs.declared.lines.LexFault.{LexFault}
use Rattle.inc_token.specs.Spellings.{is_blank, is_header_name}
use Rattle.inc_token.specs.TokenLines.{Tok, TokenLine, block_comment, is_space, line_comment, line_part, lines_from, longest, longest_token, piece_at, piece_len, progress_after, progress_with, token_at, token_of, with_piece}
use Rattle.inc_token.proofs.Cells.{with_piece-blank}
use Rattle.inc_token.proofs.PieceBounds.{piece_at-within}
use Rattle.inc_token.proofs.PieceTests.{slash_and}
use Rattle.inc_token.proofs.Rows.{differs}

-- a byte that ends no line and begins no comment
abbrev pub stays_on_line : ℕ → Bool
stays_on_line b = not ((b == 10) || (b == 47))

-- a token without the place that it comes from
abbrev pub unplaced : Tok → Tok
unplaced t = record { kind = t.kind; spelling = t.spelling; first = 0; last = 0; line = 0; space = t.space }

abbrev pub unplaced_line : TokenLine → List Tok
unplaced_line l = map unplaced l.tokens

-- lines without the places of their tokens and ends
abbrev pub unplaced_lines : Result (List TokenLine) LexFault → Result (List (List Tok)) LexFault
unplaced_lines (Ok ls) = Ok (map unplaced_line ls)
unplaced_lines (Err fault) = Err fault

-- the lines with one more before them
abbrev pub before_lines : List Tok → Result (List (List Tok)) LexFault → Result (List (List Tok)) LexFault
before_lines ts (Ok ls) = Ok (ts ∷ ls)
before_lines ts (Err fault) = Err fault

-- tokens with the piece at the front of a text before them
abbrev with_own : Bool → Piece → List ℕ → List Tok → List Tok
with_own space (Lexeme kind n) text ts = record { kind = kind; spelling = take n text; first = 0; last = 0; line = 0; space = space } ∷ ts
with_own space _ text ts = ts

-- the tokens of a line by its bytes alone
abbrev pub own_tokens : (language : Language) → ℕ → Progress → Bool → List ℕ → List Tok
own_tokens language left progress space [] = []
own_tokens language (suc left) progress space (b ∷ bs) = own_tokens language left progress space bs
own_tokens language zero progress space (b ∷ bs) =
    let piece = piece_at language progress (b ∷ bs) in
    with_own space piece (b ∷ bs) (own_tokens language (piece_len piece - 1) (progress_after language progress piece (b ∷ bs)) (is_space piece) bs)

---- the piece at a place of such a line

-- up to the LF
len-line : (bs more : List ℕ) → list_all stays_on_line bs ≡ true → prefix_len (λ b. not (b == 10)) (bs ++ 10 ∷ more) ≡ length bs
len-line [] more all = refl
len-line (b ∷ bs) more all =
    let h = and_parts (stays_on_line b) (list_all stays_on_line bs) all in
    let no : (b == 10) ≡ false = differs stays_on_line 10 b refl h.0 in
    let one : 1 + length bs ≡ suc (length bs) = omega arith in
    rw (no, len-line bs more h.1) one

len-whole : (bs : List ℕ) → list_all stays_on_line bs ≡ true → prefix_len (λ b. not (b == 10)) bs ≡ length bs
len-whole [] all = refl
len-whole (b ∷ bs) all =
    let h = and_parts (stays_on_line b) (list_all stays_on_line bs) all in
    let no : (b == 10) ≡ false = differs stays_on_line 10 b refl h.0 in
    let one : 1 + length bs ≡ suc (length bs) = omega arith in
    rw (no, len-whole bs h.1) one

part-line : (bs more : List ℕ) → list_all stays_on_line bs ≡ true → line_part (bs ++ 10 ∷ more) ≡ line_part bs
part-line bs more all =
    ap (λ n. take n (bs ++ 10 ∷ more)) (len-line bs more all ∙ sym (len-whole bs all))
    ∙ take-append-le _ bs (10 ∷ more) (let e = len-whole bs all in omega (arith, e))

plain_piece : (language : Language) (progress : Progress) (b : ℕ) (bs : List ℕ) → stays_on_line b ≡ true
    → piece_at language progress (b ∷ bs) ≡ cond (is_blank b) (Blank 1) (token_at language progress (line_part (b ∷ bs)))
plain_piece language progress b bs stays =
    let text : List ℕ = b ∷ bs in
    let token : Piece = token_at language progress (line_part text) in
    let no_slash : (b == 47) ≡ false = differs stays_on_line 47 b refl stays in
    let no_end : (b == 10) ≡ false = differs stays_on_line 10 b refl stays in
    let star : starts_with nat_eq text (47 ∷ 42 ∷ []) ≡ false = slash_and 42 b bs ∙ and_left (b == 47) _ no_slash in
    let slash : starts_with nat_eq text (47 ∷ 47 ∷ []) ≡ false = slash_and 47 b bs ∙ and_left (b == 47) _ no_slash in
    ap (λ (p : Piece). cond (is_blank b) (Blank 1) p)
    (cond-false (starts_with nat_eq text (47 ∷ 42 ∷ [])) (block_comment text) _ star
    ∙ cond-false (starts_with nat_eq text (47 ∷ 47 ∷ [])) (line_comment text) _ slash
    ∙ cond-false (b == 10) NewLine token no_end)

-- whatever is on the lines after it
own_piece : (language : Language) (progress : Progress) (b : ℕ) (bs more : List ℕ) → list_all stays_on_line (b ∷ bs) ≡ true → piece_at language progress (b ∷ (bs ++ 10 ∷ more)) ≡ piece_at language progress (b ∷ bs)
own_piece language progress b bs more all =
    let h = and_parts (stays_on_line b) (list_all stays_on_line bs) all in
    plain_piece language progress b (bs ++ 10 ∷ more) h.0
    ∙ ap (λ l. cond (is_blank b) (Blank 1) (token_at language progress l)) (part-line (b ∷ bs) more all)
    ∙ sym (plain_piece language progress b bs h.0)

-- it is white space or a token
abbrev IsOnLine : Piece → Type 0
IsOnLine (Blank n) = Unit
IsOnLine (Lexeme kind n) = Unit
IsOnLine NewLine = ⊥
IsOnLine Unclosed = ⊥

token_on_line : (language : Language) (progress : Progress) (text : List ℕ) → IsOnLine (token_at language progress text)
token_on_line language AtStart text = tt
token_on_line language AfterHash text = tt
token_on_line language Elsewhere text = tt
token_on_line language AfterInclude text = cond_both (nat_lt 0 (longest is_header_name text)) (Lexeme HeaderName (longest is_header_name text)) (longest_token language text) IsOnLine (λ _. tt) (λ _. tt)

on_line : (language : Language) (progress : Progress) (b : ℕ) (bs : List ℕ) → stays_on_line b ≡ true → IsOnLine (piece_at language progress (b ∷ bs))
on_line language progress b bs stays =
    subst IsOnLine (sym (plain_piece language progress b bs stays))
    (cond_both (is_blank b) (Blank 1) (token_at language progress (line_part (b ∷ bs))) IsOnLine (λ _. tt) (λ _. token_on_line language progress (line_part (b ∷ bs))))

---- the tokens

-- with a token before those of the first line
abbrev before_first : Tok → Result (List (List Tok)) LexFault → Result (List (List Tok)) LexFault
before_first t (Ok []) = Ok []
before_first t (Ok (ts ∷ ls)) = Ok ((t ∷ ts) ∷ ls)
before_first t (Err fault) = Err fault

first_before : (t : Tok) (ts : List Tok) (rest : Result (List (List Tok)) LexFault) → before_first t (before_lines ts rest) ≡ before_lines (t ∷ ts) rest
first_before t ts (Ok ls) = refl
first_before t ts (Err fault) = refl

with_token-unplaced : (space : Bool) (kind : Kind) (n : ℕ) (c : Cell) (cs : List Cell) (rest : Result (List TokenLine) LexFault)
    → unplaced_lines (with_piece space (Lexeme kind n) c cs rest) ≡ before_first (unplaced (token_of space kind n c cs)) (unplaced_lines rest)
with_token-unplaced space kind n c cs (Ok []) = refl
with_token-unplaced space kind n c cs (Ok (l ∷ ls)) = refl
with_token-unplaced space kind n c cs (Err fault) = refl

with_end-unplaced : (space : Bool) (c : Cell) (cs : List Cell) (rest : Result (List TokenLine) LexFault)
    → unplaced_lines (with_piece space NewLine c cs rest) ≡ before_lines [] (unplaced_lines rest)
with_end-unplaced space c cs (Ok ls) = refl
with_end-unplaced space c cs (Err fault) = refl

module _ (language : Language) (first last line : ℕ) (rest : List Cell) where
  abbrev pub end : Cell
  end = record { byte = 10; first = first; last = last; line = line }

  abbrev pub answer : Result (List (List Tok)) LexFault
  answer = unplaced_lines (lines_from language 0 AtStart false rest)

  step : (progress : Progress) (space : Bool) (c : Cell) (cs : List Cell) (piece : Piece) → IsOnLine piece → piece_len piece ≤ length (c ∷ cs)
      → ((left : ℕ) (p : Progress) (s : Bool) → left ≤ length cs
      → unplaced_lines (lines_from language left p s (cs ++ end ∷ rest)) ≡ before_lines (own_tokens language left p s (bytes_of cs)) answer)
      → unplaced_lines (with_piece space piece c (cs ++ end ∷ rest) (lines_from language (piece_len piece - 1) (progress_after language progress piece (bytes_of (c ∷ cs))) (is_space piece) (cs ++ end ∷ rest)))
      ≡ before_lines (with_own space piece (bytes_of (c ∷ cs)) (own_tokens language (piece_len piece - 1) (progress_after language progress piece (bytes_of (c ∷ cs))) (is_space piece) (bytes_of cs))) answer
  step progress space c cs (Blank n) on fits again =
      ap unplaced_lines (with_piece-blank space n c (cs ++ end ∷ rest) (lines_from language (n - 1) progress true (cs ++ end ∷ rest)))
      ∙ again (n - 1) progress true (omega (arith, fits))
  step progress space c cs (Lexeme kind n) on fits again =
      let text : List ℕ = bytes_of (c ∷ cs) in
      let p : Progress = progress_with language progress (take n text) in
      let all : List Cell = cs ++ end ∷ rest in
      let make : List ℕ → Tok = λ spelling. record { kind = kind; spelling = spelling; first = 0; last = 0; line = 0; space = space } in
      let len : length text ≡ length (c ∷ cs) = length-map (c ∷ cs) (λ (d : Cell). d.byte) in
      let spelled : take n (bytes_of (c ∷ all)) ≡ take n text =
      ap (λ t. take n (c.byte ∷ t)) (map-append (λ (d : Cell). d.byte) cs (end ∷ rest)) ∙ take-append-le n text (10 ∷ bytes_of rest) (omega (arith, fits, len)) in
      with_token-unplaced space kind n c all (lines_from language (n - 1) p false all)
      ∙ ap (λ t. before_first (make t) (unplaced_lines (lines_from language (n - 1) p false all))) spelled
      ∙ ap (before_first (make (take n text))) (again (n - 1) p false (omega (arith, fits)))
      ∙ first_before (make (take n text)) (own_tokens language (n - 1) p false (bytes_of cs)) answer
  step progress space c cs NewLine on fits again = absurd on
  step progress space c cs Unclosed on fits again = absurd on

  pub own_line : (left : ℕ) (progress : Progress) (space : Bool) (cs : List Cell) → list_all stays_on_line (bytes_of cs) ≡ true → left ≤ length cs
      → unplaced_lines (lines_from language left progress space (cs ++ end ∷ rest)) ≡ before_lines (own_tokens language left progress space (bytes_of cs)) answer
  own_line (suc left) progress space [] all fits = absurd (omega (arith, fits))
  own_line zero progress space [] all fits = with_end-unplaced space end rest (lines_from language 0 AtStart false rest)
  own_line (suc left) progress space (c ∷ cs) all fits =
      let h = and_parts (stays_on_line c.byte) (list_all stays_on_line (bytes_of cs)) all in
      own_line left progress space cs h.1 (omega (arith, fits))
  own_line zero progress space (c ∷ cs) all fits =
      let h = and_parts (stays_on_line c.byte) (list_all stays_on_line (bytes_of cs)) all in
      let text : List ℕ = bytes_of (c ∷ cs) in
      let more : List Cell = cs ++ end ∷ rest in
      let bytes : bytes_of (c ∷ more) ≡ c.byte ∷ (bytes_of cs ++ 10 ∷ bytes_of rest) = ap (λ t. c.byte ∷ t) (map-append (λ (d : Cell). d.byte) cs (end ∷ rest)) in
      let piece : Piece = piece_at language progress text in
      let same : piece_at language progress (bytes_of (c ∷ more)) ≡ piece = ap (piece_at language progress) bytes ∙ own_piece language progress c.byte (bytes_of cs) (bytes_of rest) all in
      let len : length text ≡ length (c ∷ cs) = length-map (c ∷ cs) (λ (d : Cell). d.byte) in
      let bound = piece_at-within language progress text (omega arith) in
      let after : progress_after language progress piece (bytes_of (c ∷ more)) ≡ progress_after language progress piece text =
      ap (progress_after language progress piece) bytes ∙ front progress piece text (10 ∷ bytes_of rest) bound.1 in
      ap (λ (p : Piece). unplaced_lines (with_piece space p c more (lines_from language (piece_len p - 1) (progress_after language progress p (bytes_of (c ∷ more))) (is_space p) more))) same
      ∙ ap (λ (q : Progress). unplaced_lines (with_piece space piece c more (lines_from language (piece_len piece - 1) q (is_space piece) more))) after
      ∙ step progress space c cs piece (on_line language progress c.byte (bytes_of cs) h.0) (omega (arith, bound.1, len)) (λ l p s fits'. own_line l p s cs h.1 fits')
    where
      front : (progress : Progress) (piece : Piece) (text more : List ℕ) → piece_len piece ≤ length text → progress_after language progress piece (text ++ more) ≡ progress_after language progress piece text
      front progress (Blank n) text more le = refl
      front progress (Lexeme kind n) text more le = ap (progress_with language progress) (take-append-le n text more le)
      front progress NewLine text more le = refl
      front progress Unclosed text more le = refl
