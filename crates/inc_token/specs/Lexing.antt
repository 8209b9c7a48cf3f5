-- A walk over a text that gives one token or line end at a time: what is left of the text, and what each step gives of the answer.
use Rattle.std.specs.Prelude.{◌≡◌, ℕ, ◌+◌, ◌<◌, ◌≤◌, false, List, [], ◌∷◌, ◌++◌, Result, Ok, Err, length, drop, slice_index, slice_range}
use Rattle.inc_text.specs.PhaseText.{bytes_of, longest_text}
use Rattle.inc_token.specs.LineEnds.{answer_with}
use Rattle.inc_token.specs.Spellings.{is_blank}
use Rattle.inc_token.specs.TokenLines.{Tok, TokenLine, lines_from}
use Rattle.inc_token.specs.UnmatchedQuotes.{AreUnmatched}
use Rattle.inc_token.specs.declared.lines.LexFault.{LexFault}
use Rattle.inc_token.specs.declared.lexing.Lexer.{Lexer}
use Rattle.inc_token.specs.declared.lexing.PlacedToken.{PlacedToken}
use Rattle.inc_token.specs.declared.lexing.Step.{Step}
use Rattle.inc_token.specs.declared.lexing.Step.TheVariants.{Token, LineEnd, Blank, End}

-- a token at a place of some bytes
abbrev pub placed : List ℕ → PlacedToken → Tok
placed bytes t = record {
  kind = t.kind;
  spelling = slice_range bytes t.at (t.at + t.len);
  first = t.first;
  last = t.last;
  line = t.line;
  space = t.space;
}

-- it has a byte at least, and lies within so many
pub record LiesIn (n : ℕ) (t : PlacedToken) : Type 0 where
  pub some : 1 ≤ t.len
  pub within : t.at + t.len ≤ n

-- the answer for what is left of a text
abbrev pub rest_of : Lexer → Result (List TokenLine) LexFault
rest_of l = lines_from l.language 0 l.progress l.space (drop l.at l.cursor)

-- what a walk keeps
pub record IsWalk (l : Lexer) : Type 0 where
  -- the bytes are those of the text
  pub bytes : l.bytes.now ≡ bytes_of l.cursor
  -- and as many as it has cells
  pub len : length l.bytes.now ≡ length l.cursor
  -- a text has at most 16 MiB and a line feed
  pub short : length l.cursor ≤ longest_text
  -- the walk is within the text
  pub within : l.at ≤ length l.cursor
  -- what is known of lone quotes holds from here on
  pub unmatched : AreUnmatched l.unmatched l.at l.bytes.now

-- a walk over one text that goes on
pub record HasMoved (old new : Lexer) : Type 0 where
  -- it is a walk over a text
  pub walk : IsWalk new
  -- over the same one
  pub same : new.cursor ≡ old.cursor
  -- whose bytes are the same
  pub bytes : new.bytes.now ≡ old.bytes.now
  -- it is further on
  pub after : old.at < new.at

-- a step gives its part of the answer: with it after whatever came before, the answer for the whole text stays
abbrev pub Gives : Lexer → Step → Lexer → Type 0
Gives old (Token t) new =
    HasMoved old new × LiesIn (length old.bytes.now) t × ((done : List TokenLine) (begun : List Tok)
    → answer_with done (begun ++ placed old.bytes.now t ∷ []) (rest_of new) ≡ answer_with done begun (rest_of old))
Gives old (LineEnd line) new =
    HasMoved old new × ((done : List TokenLine) (begun : List Tok)
    → answer_with (done ++ record { tokens = begun; last_line = line } ∷ []) [] (rest_of new) ≡ answer_with done begun (rest_of old))
Gives old Blank new = HasMoved old new × (rest_of new ≡ rest_of old)
Gives old End new = rest_of old ≡ Ok []

-- the tokens of the first of some lines
abbrev pub first_tokens : Result (List TokenLine) LexFault → List Tok
first_tokens (Ok (l ∷ ls)) = l.tokens
first_tokens (Ok []) = []
first_tokens (Err fault) = []

-- the tokens that are left of the line that a walk is on
abbrev pub line_left : Lexer → List Tok
line_left l = first_tokens (rest_of l)

-- a walk is on a line, which ends
pub record IsOnLine (l : Lexer) : Type 0 where
  pub walk : IsWalk l
  pub line : (k : TokenLine) × (ks : List TokenLine) × (rest_of l ≡ Ok (k ∷ ks))

-- no white space of one byte is at the place
abbrev pub IsBare : Lexer → Type 0
IsBare l = l.at < length l.bytes.now → is_blank (slice_index l.bytes.now l.at) ≡ false
