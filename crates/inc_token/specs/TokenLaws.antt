-- What holds of the token lines of every text.
use Rattle.std.specs.Prelude.{◌≡◌, ℕ, ◌+◌, ◌≤◌, ◌==◌, ◌&&◌, not, Bool, true, false, List, [], ◌∷◌, codes, bytes_eq, IsTrue, if◌then◌else◌}
use Rattle.std.specs.List.{All, list_all, flat_map}
use Rattle.inc_text.specs.Ascii.{asterisk, line_feed, slash}
use Rattle.inc_text.specs.PhaseText.{Cell, bytes_of}
use Rattle.inc_token.specs.Spellings.{is_spelling, is_blank, is_empty}
use Rattle.inc_token.specs.TokenLines.{Tok, TokenLine, with_token}
use Rattle.inc_token.specs.declared.kinds.Kind.{Kind}
use Rattle.inc_text.specs.declared.languages.Language.{Language}

-- the token's bytes lie in its class
abbrev pub is_spelled : Language → Tok → Bool
is_spelled language t = is_spelling language t.kind t.spelling

-- those of each token of the line
abbrev pub has_spellings : Language → TokenLine → Bool
has_spellings language l = list_all (is_spelled language) l.tokens

-- */ is at the end of the text, and nowhere before
abbrev pub is_closed_comment : List ℕ → Bool
is_closed_comment (a ∷ b ∷ bs) = if bytes_eq (a ∷ b ∷ []) (codes "*/") then is_empty bs else is_closed_comment (b ∷ bs)
is_closed_comment _ = false

-- a byte of white space, a comment from // on without LF, or one from /* to the next */
abbrev pub is_gap : List ℕ → Bool
is_gap (a ∷ b ∷ bs) =
    (a == slash) && (if b == slash then list_all (λ x. not (x == line_feed)) bs else (b == asterisk) && is_closed_comment bs)
is_gap (b ∷ []) = is_blank b
is_gap [] = false

-- a part of a text: white space or a comment, the LF that ends a line, or a token, of a first cell and the rest
pub data Part : Type 0 where
  Gap : List Cell → Part
  LineFeed : Cell → Part
  Word : Kind → Cell → List Cell → Part

abbrev pub cells_in : Part → List Cell
cells_in (Gap cells) = cells
cells_in (LineFeed c) = c ∷ []
cells_in (Word kind c cs) = c ∷ cs

-- a gap is white space or a comment, and a token lies in its class
abbrev pub is_part : Language → Part → Bool
is_part language (Gap cells) = is_gap (bytes_of cells)
is_part language (LineFeed c) = c.byte == line_feed
is_part language (Word kind c cs) = is_spelling language kind (bytes_of (c ∷ cs))

-- where the source bytes of the cells end
abbrev pub last_of : Cell → List Cell → ℕ
last_of c [] = c.last
last_of c (d ∷ ds) = last_of d ds

-- the token of these cells: `space`: a gap is right before it on its line
abbrev pub token_from : Bool → Kind → Cell → List Cell → Tok
token_from space kind c cs =
    record { kind = kind; spelling = bytes_of (c ∷ cs); first = c.first; last = last_of c cs; line = c.line; space = space }

-- the lines: each has the tokens up to an LF, and the physical line of that LF
abbrev pub lines_in : Bool → List Part → List TokenLine
lines_in space [] = []
lines_in space (Gap cells ∷ parts) = lines_in true parts
lines_in space (LineFeed c ∷ parts) = record { tokens = []; last_line = c.line } ∷ lines_in false parts
lines_in space (Word kind c cs ∷ parts) = with_token (token_from space kind c cs) (lines_in false parts)

-- the cells are gaps, LFs and tokens one after the other, and these are their lines
pub record AreParts (language : Language) (cells : List Cell) (space : Bool) (result : List TokenLine) (parts : List Part) : Type 0 where
  pub each : IsTrue (list_all (is_part language) parts)
  pub all : flat_map cells_in parts ≡ cells
  pub lines : lines_in space parts ≡ result

-- the token is on one of the physical lines from the first up to the last
abbrev pub IsOnLines : (first last : ℕ) → Tok → Type 0
IsOnLines first last t = (first ≤ t.line) × (t.line ≤ last)

-- the tokens of each line, and the LF that ends it, are on this physical line or later ones, the tokens on none after that
-- of the LF, and those of the next line on later ones
abbrev pub AreTokenLinesFrom : ℕ → List TokenLine → Type 0
AreTokenLinesFrom line [] = Unit {0}
AreTokenLinesFrom line (l ∷ ls) =
    (line ≤ l.last_line) × All (IsOnLines line l.last_line) l.tokens × AreTokenLinesFrom (l.last_line + 1) ls
