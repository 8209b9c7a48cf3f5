-- A walk from line to line of a text: what is known of each line, and how the lines are those of the whole text.
use Rattle.std.specs.Prelude.{◌≡◌, ◌+◌, ◌||◌, ℕ, ◌<◌, ◌≤◌, Bool, true, false, List, [], ◌∷◌, ◌++◌, Option, Some, None, Result, Ok, Err, IfSome, option_map, length, drop, flat_map, slice_range}
use Rattle.std.specs.List.{All, list_all}
use Rattle.inc_text.specs.PhaseText.{Cell, bytes_of}
use Rattle.inc_token.specs.Prefixes.{prefix_of}
use Rattle.inc_token.specs.TokenLines.{Tok, TokenLine, token_lines}
use Rattle.inc_token.specs.Views.{line_in, seen_prefix}
use Rattle.inc_text.specs.declared.languages.Language.{Language}
use Rattle.inc_token.specs.declared.lines.LexFault.{LexFault}
use Rattle.inc_token.specs.declared.lines.fronts.LineSketch.{LineSketch}
use Rattle.inc_token.specs.declared.lines.fronts.Prefix.{Prefix as PrefixValue}
use Rattle.inc_token.specs.declared.lines.fronts.TextRun.{TextRun}
use Rattle.inc_token.specs.declared.lines.sketches.Stretch.{Stretch}
pub use Rattle.inc_token.specs.Views.{line_in}

-- the place of a walk, and the language that its text is written in
pub record Place : Type 0 where
  pub language : Language
  pub text : List Cell
  pub at : ℕ

-- the lines from a place on, at which a line begins
abbrev pub lines_at : Language → List Cell → ℕ → Result (List TokenLine) LexFault
lines_at language cells at = token_lines language (drop at cells)

-- a line before others
abbrev pub with_line : TokenLine → Result (List TokenLine) LexFault → Result (List TokenLine) LexFault
with_line l (Ok ls) = Ok (l ∷ ls)
with_line l (Err fault) = Err fault

-- lines before others
abbrev pub before : List TokenLine → Result (List TokenLine) LexFault → Result (List TokenLine) LexFault
before ls (Ok ms) = Ok (ls ++ ms)
before ls (Err fault) = Err fault

-- no tokens
abbrev pub are_none : List Tok → Bool
are_none [] = true
are_none (t ∷ ts) = false

-- bytes that are those of a text up to a place
pub record EndsAt (text : List ℕ) (end : ℕ) (bytes : List ℕ) : Type 0 where
  -- where they begin
  pub start : ℕ
  -- there they end after their length
  pub size : start + length bytes ≡ end
  -- they end within the text
  pub within : end ≤ length text
  -- they are the bytes in between
  pub is : slice_range text start end ≡ bytes

-- what a prefix names is in the text, up to the place where it ends
pub record IsPrefixIn (cells : List Cell) (p : PrefixValue) : Type 0 where
  pub hash : p.hash < length cells
  pub operand : IfSome p.operand (λ o. EndsAt (bytes_of cells) p.end o.spelling.now)

-- what is known of a line
pub record IsSketch (language : Language) (cells : List Cell) (l : TokenLine) (s : LineSketch) : Type 0 where
  pub blank : s.is_blank ≡ are_none l.tokens
  pub prefix : option_map (seen_prefix cells) s.prefix ≡ prefix_of language l.tokens
  pub places : IfSome s.prefix (IsPrefixIn cells)

-- a walk goes on over the line that begins at its place, or there is none
abbrev pub TakesLine : Place → Option LineSketch → Place → Type 0
TakesLine old None new = lines_at old.language old.text old.at ≡ Ok []
TakesLine old (Some s) new =
    (new.language ≡ old.language) × (new.text ≡ old.text) × (s.start ≡ old.at) × (old.at < new.at) × (new.at ≤ length old.text)
    × ((l : TokenLine) × IsSketch old.language old.text l s × (lines_at old.language old.text old.at ≡ with_line l (lines_at old.language old.text new.at)))

-- the lines are so many, none is a directive, and whether any has a token
pub record AreText (language : Language) (run : TextRun) (ls : List TokenLine) : Type 0 where
  pub count : length ls ≡ run.lines
  pub text : All (λ (l : TokenLine). prefix_of language l.tokens ≡ None) ls
  pub blank : run.is_blank ≡ list_all (λ (l : TokenLine). are_none l.tokens) ls

-- lines of text of which the first begins at a place
pub record IsRun (language : Language) (cells : List Cell) (at : ℕ) (run : TextRun) : Type 0 where
  -- its first line begins there
  pub start : run.start ≡ at
  -- it does not end before
  pub after : at ≤ run.end
  -- it ends within the text
  pub within : run.end ≤ length cells
  -- these are its lines, and then those from its end on
  pub lines : (ls : List TokenLine) × AreText language run ls × (lines_at language cells at ≡ before ls (lines_at language cells run.end))

-- a walk goes on over lines of text and the line after them
pub record TakesStretch (old : Place) (s : Stretch) (new : Place) : Type 0 where
  pub run : IsRun old.language old.text old.at s.text
  pub line : TakesLine (record { language = old.language; text = old.text; at = s.text.end }) s.line new

-- a token, with white space before it where that is wanted
abbrev pub spaced_token : Bool → Tok → Tok
spaced_token is_spaced t =
    record { kind = t.kind; spelling = t.spelling; first = t.first; last = t.last; line = t.line; space = is_spaced || t.space }

-- the tokens of a line, the first of them with white space before it where that is wanted
abbrev pub spaced_first : Bool → List Tok → List Tok
spaced_first is_spaced [] = []
spaced_first is_spaced (t ∷ ts) = spaced_token is_spaced t ∷ ts

-- the tokens of lines as one list
abbrev pub tokens_of_lines : Bool → List TokenLine → List Tok
tokens_of_lines is_spaced lines = flat_map (λ (l : TokenLine). spaced_first is_spaced l.tokens) lines

-- the lines of a text without a fault
abbrev pub lines_or_none : Result (List TokenLine) LexFault → List TokenLine
lines_or_none (Ok ls) = ls
lines_or_none (Err fault) = []
