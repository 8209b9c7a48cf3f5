-- Translation phase 3 (ISO/IEC 9899:2018, 5.1.1.2; 6.4, 6.4.7, 6.4.9): the lines of preprocessing tokens of a text.
-- At each place is white space or a comment, else the new-line that ends the line, else the longest prefix that
-- lies in a class. Choices of this profile: CR is white space, an unterminated comment is refused, and where a
-- header name counts.
use Rattle.std.specs.Prelude.{ℕ, zero, suc, ◌+◌, ◌-◌, ◌==◌, ◌||◌, not, Bool, true, false, List, [], ◌∷◌, Option, Some, None, Result, Ok, Err, if◌then◌else◌, length, take, drop, take_while, find, nat_lt, nat_eq, is_some, unwrap_or, option_map, codes, bytes_eq}
use Rattle.std.specs.List.{prefix_len, starts_with}
use Rattle.std.specs.Option.{option_map_or}
use Rattle.inc_text.specs.Ascii.{line_feed}
use Rattle.inc_text.specs.PhaseText.{Cell, bytes_of}
use Rattle.inc_token.specs.declared.kinds.Kind.{Kind}
use Rattle.inc_token.specs.declared.kinds.Kind.TheVariants.{HeaderName, Other}
use Rattle.inc_token.specs.declared.kinds.IncludeName.{IncludeName}
use Rattle.inc_token.specs.declared.kinds.IncludeName.TheVariants.{Include, IncludeNext, Import}
use Rattle.inc_text.specs.declared.languages.Language.{Language}
use Rattle.inc_text.specs.declared.languages.Language.TheVariants.{Gnu}
use Rattle.inc_token.specs.declared.pieces.Piece.{Piece}
use Rattle.inc_token.specs.declared.pieces.Piece.TheVariants.{Blank, NewLine, Lexeme, Unclosed}
use Rattle.inc_token.specs.declared.pieces.Progress.{Progress}
use Rattle.inc_token.specs.declared.pieces.Progress.TheVariants.{AtStart, AfterHash, AfterInclude, Elsewhere}
use Rattle.inc_token.specs.declared.lines.LexFault.{LexFault}
use Rattle.inc_token.specs.declared.lines.LexFault.TheVariants.{OpenComment}
use Rattle.inc_token.specs.Spellings.{class_of, is_header_name, is_blank}

-- a token: its class, its bytes, the source bytes that it stands for, the physical line of the first, and whether white
-- space is right before it on its line
pub record Tok : Type 0 where
  -- its class
  pub kind : Kind
  -- its bytes, after phase 2
  pub spelling : List ℕ
  -- the source byte that its first byte stands for, counted from 0
  pub first : ℕ
  -- the source byte after the last one that it stands for
  pub last : ℕ
  -- the physical line of its first byte, from 1
  pub line : ℕ
  -- whether white space is right before it on its line
  pub space : Bool

-- the tokens of a line, and the physical line of the LF that ends it
pub record TokenLine : Type 0 where
  pub tokens : List Tok
  pub last_line : ℕ

-- the greatest n, at most the given one, such that the first n bytes pass the test; 0 where there is none
abbrev pub longest_within : (List ℕ → Bool) → List ℕ → ℕ → ℕ
longest_within test text zero = 0
longest_within test text (suc n) = if test (take (suc n) text) then suc n else longest_within test text n

-- the length of the longest prefix that passes the test
abbrev pub longest : (List ℕ → Bool) → List ℕ → ℕ
longest test text = longest_within test text (length text)

-- the text lies in a class
abbrev pub is_token : Language → List ℕ → Bool
is_token language text = is_some (class_of language text)

-- the longest prefix that lies in a class. Each byte that is no white space and no LF lies in one, so there is such a prefix
abbrev pub longest_token : Language → List ℕ → Piece
longest_token language text = let n = longest (is_token language) text in Lexeme (unwrap_or (class_of language (take n text)) Other) n

-- the header name at the front, where there is one
abbrev pub header_name_or : Piece → List ℕ → Piece
header_name_or other text = let n = longest is_header_name text in if nat_lt 0 n then Lexeme HeaderName n else other

abbrev pub token_at : Language → Progress → List ℕ → Piece
token_at language AfterInclude text = header_name_or (longest_token language text) text
token_at language _ text = longest_token language text

-- the length up to the next */ and with it
abbrev pub comment_rest : List ℕ → Option ℕ
comment_rest (a ∷ b ∷ bs) = if bytes_eq (a ∷ b ∷ []) (codes "*/") then Some 2 else option_map (λ n. 1 + n) (comment_rest (b ∷ bs))
comment_rest _ = None

-- a comment from /* on, over new-lines too
abbrev pub block_comment : List ℕ → Piece
block_comment text = option_map_or (λ n. Blank (2 + n)) (comment_rest (drop 2 text)) Unclosed

-- a comment from // on, up to the LF, which it leaves
abbrev pub line_comment : List ℕ → Piece
line_comment text = Blank (prefix_len (λ b. not (b == line_feed)) text)

-- the text up to the next LF: no token goes on after it
abbrev pub line_part : List ℕ → List ℕ
line_part text = take_while (λ b. not (b == line_feed)) text

-- what is at the front of a text that is not empty
abbrev pub piece_at : Language → Progress → List ℕ → Piece
piece_at language progress [] = NewLine
piece_at language progress (b ∷ bs) =
    let token = token_at language progress (line_part (b ∷ bs)) in
    if is_blank b then Blank 1 else
    if starts_with nat_eq (b ∷ bs) (codes "/*") then block_comment (b ∷ bs) else
    if starts_with nat_eq (b ∷ bs) (codes "//") then line_comment (b ∷ bs) else
    if b == line_feed then NewLine else token

abbrev pub piece_len : Piece → ℕ
piece_len (Blank n) = n
piece_len NewLine = 1
piece_len (Lexeme kind n) = n
piece_len Unclosed = 1

-- white space is before what comes after the piece
abbrev pub is_space : Piece → Bool
is_space (Blank n) = true
is_space _ = false

-- # or %:, which acts as # (6.4.6)
abbrev pub is_hash : List ℕ → Bool
is_hash text = bytes_eq text (codes "#") || bytes_eq text (codes "%:")

-- the names of the include directives, after which a header name counts (6.10.2)
abbrev pub include_names : Language → List (List ℕ × IncludeName)
include_names Gnu = (codes "include", Include) ∷ (codes "include_next", IncludeNext) ∷ (codes "import", Import) ∷ []
include_names _ = (codes "include", Include) ∷ []

-- the one with this spelling
abbrev pub include_name : Language → List ℕ → Option IncludeName
include_name language name = option_map (λ (p : List ℕ × IncludeName). p.1) (find (λ (p : List ℕ × IncludeName). bytes_eq name p.0) (include_names language))

abbrev pub is_include_name : Language → List ℕ → Bool
is_include_name language name = is_some (include_name language name)

-- the progress after one more token
abbrev pub progress_with : Language → Progress → List ℕ → Progress
progress_with language AtStart spelling = if is_hash spelling then AfterHash else Elsewhere
progress_with language AfterHash spelling = if is_include_name language spelling then AfterInclude else Elsewhere
progress_with language _ spelling = Elsewhere

abbrev pub progress_after : Language → Progress → Piece → List ℕ → Progress
progress_after language progress (Blank n) text = progress
progress_after language progress (Lexeme kind n) text = progress_with language progress (take n text)
progress_after language progress _ text = AtStart

-- where the source bytes end of the first cell c and n more
abbrev pub range_end : ℕ → Cell → List Cell → ℕ
range_end zero c cs = c.last
range_end (suc n) c [] = c.last
range_end (suc n) c (d ∷ cs) = range_end n d cs

-- the token of n cells from c on
abbrev pub token_of : Bool → Kind → ℕ → Cell → List Cell → Tok
token_of space kind n c cs =
    record { kind = kind; spelling = take n (bytes_of (c ∷ cs)); first = c.first; last = range_end (n - 1) c cs; line = c.line; space = space }

-- the lines with a token before those of the first
abbrev pub with_token : Tok → List TokenLine → List TokenLine
with_token t [] = []
with_token t (l ∷ ls) = record { tokens = t ∷ l.tokens; last_line = l.last_line } ∷ ls

-- the lines with the piece at c before what follows it
abbrev pub with_piece : Bool → Piece → Cell → List Cell → Result (List TokenLine) LexFault → Result (List TokenLine) LexFault
with_piece space Unclosed c cs lines = Err (OpenComment c.line)
with_piece space _ c cs (Err fault) = Err fault
with_piece space (Blank n) c cs (Ok lines) = Ok lines
with_piece space NewLine c cs (Ok lines) = Ok (record { tokens = []; last_line = c.line } ∷ lines)
with_piece space (Lexeme kind n) c cs (Ok lines) = Ok (with_token (token_of space kind n c cs) lines)

-- the lines of a text: `left` cells of it belong to a piece that began before, `space`: white space is before the place
abbrev pub lines_from : Language → ℕ → Progress → Bool → List Cell → Result (List TokenLine) LexFault
lines_from language left progress space [] = Ok []
lines_from language (suc left) progress space (c ∷ cs) = lines_from language left progress space cs
lines_from language zero progress space (c ∷ cs) =
    let text = bytes_of (c ∷ cs) in
    let piece = piece_at language progress text in
    with_piece space piece c cs (lines_from language (piece_len piece - 1) (progress_after language progress piece text) (is_space piece) cs)

-- the lines of tokens of a text that is empty or ends in LF
abbrev pub token_lines : Language → List Cell → Result (List TokenLine) LexFault
token_lines language cells = lines_from language 0 AtStart false cells
