-- A walk over the front of a line: what is known of the line at a place of it, and the lines after it.
use Rattle.std.specs.Prelude.{◌≡◌, ℕ, zero, suc, ◌<◌, ◌≤◌, ◌==◌, ◌||◌, not, Bool, true, false, List, [], ◌∷◌, Option, Some, None, Result, Ok, Err, if◌then◌else◌, length, drop, option_map}
use Rattle.std.specs.List.{All}
use Rattle.inc_text.specs.Ascii.{hash, line_feed, percent, slash}
use Rattle.inc_text.specs.PhaseText.{Cell, bytes_of, longest_text}
use Rattle.inc_token.specs.LineWalk.{are_none, before, lines_at}
use Rattle.inc_token.specs.Prefixes.{Operand, Prefix, first_operand, prefix_after, prefix_of}
use Rattle.inc_token.specs.Views.{line_in, seen_operand, seen_prefix}
use Rattle.inc_token.specs.Spellings.{is_blank}
use Rattle.inc_token.specs.TokenLines.{Tok, TokenLine, is_hash, is_include_name, lines_from}
use Rattle.inc_text.specs.declared.languages.Language.{Language}
use Rattle.inc_token.specs.declared.lines.LexFault.{LexFault}
use Rattle.inc_token.specs.declared.lines.fronts.Front.{Front}
use Rattle.inc_token.specs.declared.lines.fronts.Front.TheVariants as front
use Rattle.inc_token.specs.declared.lines.fronts.Operand.{Operand as OperandValue}
use Rattle.inc_token.specs.declared.lines.fronts.Walk.{Walk}
use Rattle.inc_token.specs.declared.lines.fronts.LineSketch.{LineSketch}
use Rattle.inc_token.specs.declared.pieces.Progress.{Progress}
use Rattle.inc_token.specs.declared.pieces.Progress.TheVariants.{AtStart, AfterHash, AfterInclude, Elsewhere}

-- what is known of a line: whether it has no token, and its prefix
pub record Brief : Type 0 where
  pub is_blank : Bool
  pub prefix : Option Prefix

-- that of a line with these tokens
abbrev pub brief_of : Language → List Tok → Brief
brief_of language ts = record { is_blank = are_none ts; prefix = prefix_of language ts }

-- that of a directive with this prefix
abbrev pub directive : Prefix → Brief
directive p = record { is_blank = false; prefix = Some p }

-- that of a line of text
abbrev pub text_brief : Brief
text_brief = record { is_blank = false; prefix = None }

-- that of a line of text, which has a token or none
abbrev pub line_brief : (is_blank : Bool) → Brief
line_brief is_blank = record { is_blank = is_blank; prefix = None }

abbrev pub seen_brief : List Cell → LineSketch → Brief
seen_brief cells s = record { is_blank = s.is_blank; prefix = option_map (seen_prefix cells) s.prefix }

-- some line has it
abbrev pub IsBrief : Language → Brief → Type 0
IsBrief language b = (ts : List Tok) × (brief_of language ts ≡ b)

-- what is known of a line at a place of it: that it has no token so far; the line of its #; that line and the name, which
-- is that of an include directive; or all that is told of it
pub data Begun : Type 0 where
  Nothing : Begun
  Hash : ℕ → Begun
  Include : ℕ → List ℕ → Begun
  Known : Brief → Begun

abbrev pub progress_of : Begun → Progress
progress_of Nothing = AtStart
progress_of (Hash line) = AfterHash
progress_of (Include line name) = AfterInclude
progress_of (Known b) = Elsewhere

-- what is known of the line, by the tokens that are left of it
abbrev pub brief_by : Language → Begun → List Tok → Brief
brief_by language Nothing ts = brief_of language ts
brief_by language (Hash line) ts = directive (prefix_after language line ts)
brief_by language (Include line name) ts = directive (record { line = line; name = Some name; operand = first_operand ts })
brief_by language (Known b) ts = b

-- what is known once a token is added, which begins on the given line
abbrev pub begun_with : Language → Begun → ℕ → Operand → Begun
begun_with language Nothing line t = if is_hash t.spelling then Hash line else Known text_brief
begun_with language (Hash hash) line t =
    if is_include_name language t.spelling then Include hash t.spelling
    else Known (directive (record { line = hash; name = Some t.spelling; operand = None }))
begun_with language (Include hash name) line t = Known (directive (record { line = hash; name = Some name; operand = Some t }))
begun_with language (Known b) line t = Known b

-- the first line of a text, by what is known of it, and the lines after it
pub record FirstLine : Type 0 where
  pub brief : Brief
  pub rest : List TokenLine

-- that of lines, the first of which has begun
abbrev pub first_from : Language → Begun → Result (List TokenLine) LexFault → Result (Option FirstLine) LexFault
first_from language begun (Ok []) = Ok None
first_from language begun (Ok (l ∷ ls)) = Ok (Some (record { brief = brief_by language begun l.tokens; rest = ls }))
first_from language begun (Err fault) = Err fault

-- a line before others
abbrev pub first_with : Brief → Result (List TokenLine) LexFault → Result (Option FirstLine) LexFault
first_with b (Ok ls) = Ok (Some (record { brief = b; rest = ls }))
first_with b (Err fault) = Err fault

-- the lines of a text, the first of which has begun
unfoldable pub ahead : Language → Begun → List Cell → Result (Option FirstLine) LexFault
ahead language begun cells = first_from language begun (lines_from language 0 (progress_of begun) false cells)

-- those from the place of a walk on
abbrev pub ahead_of : Begun → Walk → Result (Option FirstLine) LexFault
ahead_of begun w = ahead w.language begun (drop w.at w.cursor)

-- what a walk keeps
pub record IsPlaced (w : Walk) : Type 0 where
  -- the bytes are those of the text
  pub bytes : w.bytes.now ≡ bytes_of w.cursor
  -- there are as many as cells
  pub len : length w.bytes.now ≡ length w.cursor
  -- the text is that of a source that is not too long
  pub short : length w.cursor ≤ longest_text
  -- its place is in the text
  pub within : w.at ≤ length w.cursor

-- a walk over one text that goes on, or stays where it is
pub record HasMoved (old new : Walk) : Type 0 where
  pub walk : IsPlaced new
  pub same : new.cursor ≡ old.cursor
  pub spoken : new.language ≡ old.language
  pub after : old.at ≤ new.at

-- a byte with which no directive begins and no comment: where it begins a line and is no white space, the line is one of text
abbrev pub begins_text : ℕ → Bool
begins_text b = not ((b == line_feed) || (b == hash) || (b == percent) || (b == slash))

-- a walk goes on over a token of the line, or there is none left on it
abbrev pub TakesToken : Begun → Walk → Option OperandValue → Walk → Type 0
TakesToken begun old None new = ahead_of begun old ≡ ahead_of (Known (brief_by old.language begun [])) new
TakesToken begun old (Some t) new =
    (line : ℕ) × (ahead_of begun old ≡ ahead_of (begun_with old.language begun line (seen_operand t)) new)

-- the same for all that may be known where a line has this progress
abbrev pub TakesNext : Progress → Walk → Option OperandValue → Walk → Type 0
TakesNext progress old token new = (begun : Begun) → progress_of begun ≡ progress → TakesToken begun old token new

-- the fault is that of the text, whatever is known of the line
abbrev pub FailsAhead : Progress → Walk → LexFault → Type 0
FailsAhead progress old fault = (begun : Begun) → progress_of begun ≡ progress → ahead_of begun old ≡ Err fault

-- what is known of a line once its front is
abbrev pub begun_of : List Cell → Front → Begun
begun_of cells front.Empty = Known (line_brief true)
begun_of cells (front.Hash at) = Hash (line_in cells at)
begun_of cells front.Text = Known text_brief

-- its # is within so many cells
abbrev pub IsFrontIn : ℕ → Front → Type 0
IsFrontIn n (front.Hash at) = at < n
IsFrontIn n _ = Unit {0}

-- a walk that has met no token of the line goes on to its front, or over a comment
abbrev pub TakesFirst : Walk → Option Front → Walk → Type 0
TakesFirst old None new = (old.at < new.at) × (ahead_of Nothing old ≡ ahead_of Nothing new)
TakesFirst old (Some f) new = ahead_of Nothing old ≡ ahead_of (begun_of old.cursor f) new

-- a walk goes on to the front of a line of text, or stays before the front of another
abbrev pub IsTextFront : Walk → Option Bool → Walk → Type 0
IsTextFront old None new = ahead_of Nothing old ≡ ahead_of Nothing new
IsTextFront old (Some is_blank) new = ahead_of Nothing old ≡ ahead_of (Known (line_brief is_blank)) new

-- the walk is at the front of the line that begins at a place
pub record IsFrontOf (start : ℕ) (w : Walk) : Type 0 where
  pub order : start ≤ w.at
  pub ahead : ahead w.language Nothing (drop start w.cursor) ≡ ahead_of Nothing w

-- a walk goes on over the rest of a line, or the text ends inside the line
abbrev pub EndsLine : Walk → Bool → Walk → Type 0
EndsLine old true new = (old.at < new.at) × ((b : Brief) → ahead_of (Known b) old ≡ first_with b (lines_at new.language new.cursor new.at))
EndsLine old false new = (new.at ≡ length new.cursor) × ((b : Brief) → ahead_of (Known b) old ≡ Ok None)

-- a walk goes on over the rest of a line and empty lines after it, so many in all, or the text ends inside the line
abbrev pub EndsText : Walk → ℕ → Walk → Type 0
EndsText old zero new = (new.at ≡ length new.cursor) × ((b : Brief) → ahead_of (Known b) old ≡ Ok None)
EndsText old (suc n) new = (old.at < new.at) × (ls : List TokenLine) × (length ls ≡ n) × All (λ (l : TokenLine). l.tokens ≡ []) ls
    × ((b : Brief) → ahead_of (Known b) old ≡ first_with b (before ls (lines_at new.language new.cursor new.at)))
