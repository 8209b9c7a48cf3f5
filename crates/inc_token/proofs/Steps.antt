-- A walk that gives one step at a time, and the lists that its steps are put into.
use Rattle.inc_text.specs.declared.languages.Language.{Language}
use Rattle.std.proofs.Common.{◌≡◌, ℕ, ◌+◌, ◌-◌, ◌<◌, ◌≤◌, List, [], ◌∷◌, ◌++◌, Ok, length, sym, subst, ap, ◌∙◌, arith}
use Rattle.std.proofs.lemmas.List.{length_push}
use Rattle.inc_text.specs.PhaseText.{Cell, bytes_of}
use Rattle.inc_token.specs.LineEnds.{AreInOrder, answer_with, lines_of, tokens_behind}
use Rattle.inc_token.specs.Lexing.{Gives, HasMoved, IsWalk, LiesIn, placed, rest_of}
use Rattle.inc_token.specs.TokenLines.{Tok, token_lines}
use Rattle.inc_token.specs.declared.lines.LineEnd.{LineEnd as EndOfLine}
use Rattle.inc_token.specs.declared.lexing.Lexer.{Lexer}
use Rattle.inc_token.specs.declared.lexing.PlacedToken.{PlacedToken}
use Rattle.inc_token.specs.declared.lexing.Step.{Step}
use Rattle.inc_token.specs.declared.lexing.Step.TheVariants.{Token, LineEnd, Blank, End}
use Rattle.inc_token.proofs.KeptLines.{AreInOrder-more, AreInOrder-push, added_end, added_token, answer_with-done}

moved_from : (old mid new : Lexer) → mid.cursor ≡ old.cursor → mid.bytes.now ≡ old.bytes.now → old.at ≤ mid.at → HasMoved mid new → HasMoved old new
moved_from old mid new same bytes le h = record { walk = h.walk; same = h.same ∙ same; bytes = h.bytes ∙ bytes; after = omega (arith, h.after, le) }

-- a step over what is behind white space is one from before it
pub gives_from : (old mid new : Lexer) (step : Step) → mid.cursor ≡ old.cursor → mid.bytes.now ≡ old.bytes.now → old.at ≤ mid.at → rest_of mid ≡ rest_of old → Gives mid step new → Gives old step new
gives_from old mid new (Token t) same bytes le rest g = (
  moved_from old mid new same bytes le g.0,
  subst (λ (bs : List ℕ). LiesIn (length bs) t) bytes g.1,
  λ done begun. ap (λ (bs : List ℕ). answer_with done (begun ++ placed bs t ∷ []) (rest_of new)) (sym bytes) ∙ g.2 done begun ∙ ap (answer_with done begun) rest,
)
gives_from old mid new (LineEnd line) same bytes le rest g = (
  moved_from old mid new same bytes le g.0,
  λ done begun. g.1 done begun ∙ ap (answer_with done begun) rest,
)
gives_from old mid new Blank same bytes le rest g = (moved_from old mid new same bytes le g.0, g.1 ∙ rest)
gives_from old mid new End same bytes le rest g = sym rest ∙ g

-- the tokens and line ends of a text up to the place of a walk
pub record AreLexed (language : Language) (text : List Cell) (l : Lexer) (tokens : List Tok) (ends : List EndOfLine) : Type 0 where
  -- the walk is one over a text
  pub walk : IsWalk l
  -- over this one
  pub same : l.cursor ≡ text
  -- the line ends are in order
  pub order : AreInOrder 0 ends (length tokens)
  -- there is no token without a byte
  pub few : length tokens ≤ l.at
  -- with what is left they make the lines of the text
  pub answer : answer_with (lines_of tokens 0 ends) (tokens_behind tokens ends) (rest_of l) ≡ token_lines language text

-- with a token more
pub token_more : (language : Language) (text : List Cell) (l m : Lexer) (tokens after : List Tok) (ends : List EndOfLine) (bytes : List ℕ) (t : PlacedToken)
    → AreLexed language text l tokens ends → Gives l (Token t) m → bytes ≡ bytes_of text → after ≡ tokens ++ placed bytes t ∷ [] → AreLexed language text m after ends
token_more language text l m tokens after ends bytes t h g are is =
    let size : length after ≡ length tokens + 1 = ap length is ∙ length_push tokens (placed bytes t) in
    let own : bytes ≡ l.bytes.now = are ∙ ap bytes_of (sym h.same) ∙ sym h.walk.bytes in
    let added : after ≡ tokens ++ placed l.bytes.now t ∷ [] = is ∙ ap (λ (bs : List ℕ). tokens ++ placed bs t ∷ []) own in
    record {
      walk = g.0.walk;
      same = g.0.same ∙ h.same;
      order = AreInOrder-more 0 ends (length tokens) (length after) h.order (omega (arith, size));
      few = omega (arith, size, h.few, g.0.after);
      answer = added_token tokens after (placed l.bytes.now t) ends (rest_of m) h.order added ∙ g.2 (lines_of tokens 0 ends) (tokens_behind tokens ends) ∙ h.answer;
    }

-- with the end of a line more
pub end_more : (language : Language) (text : List Cell) (l m : Lexer) (tokens : List Tok) (ends after : List EndOfLine) (e : EndOfLine)
    → AreLexed language text l tokens ends → Gives l (LineEnd e.last_line) m → e.tokens ≡ length tokens → after ≡ ends ++ e ∷ [] → AreLexed language text m tokens after
end_more language text l m tokens ends after e h g count is = record {
  walk = g.0.walk;
  same = g.0.same ∙ h.same;
  order = subst (λ (es : List EndOfLine). AreInOrder 0 es (length tokens)) (sym is) (AreInOrder-push 0 ends e (length tokens) h.order count);
  few = omega (arith, h.few, g.0.after);
  answer = added_end tokens ends after e (rest_of m) count is ∙ g.1 (lines_of tokens 0 ends) (tokens_behind tokens ends) ∙ h.answer;
}

-- over white space
pub blank_more : (language : Language) (text : List Cell) (l m : Lexer) (tokens : List Tok) (ends : List EndOfLine) → AreLexed language text l tokens ends → Gives l Blank m → AreLexed language text m tokens ends
blank_more language text l m tokens ends h g = record {
  walk = g.0.walk;
  same = g.0.same ∙ h.same;
  order = h.order;
  few = omega (arith, h.few, g.0.after);
  answer = ap (answer_with (lines_of tokens 0 ends) (tokens_behind tokens ends)) g.1 ∙ h.answer;
}

-- at the end of the text
pub all_lexed : (language : Language) (text : List Cell) (l m : Lexer) (tokens : List Tok) (ends : List EndOfLine) → AreLexed language text l tokens ends → Gives l End m → token_lines language text ≡ Ok (lines_of tokens 0 ends)
all_lexed language text l m tokens ends h g =
    sym h.answer ∙ ap (answer_with (lines_of tokens 0 ends) (tokens_behind tokens ends)) g ∙ answer_with-done (lines_of tokens 0 ends) (tokens_behind tokens ends)

-- a token lies within the text
pub placed_within : (language : Language) (text : List Cell) (l m : Lexer) (tokens : List Tok) (ends : List EndOfLine) (bytes : List ℕ) (t : PlacedToken)
    → AreLexed language text l tokens ends → Gives l (Token t) m → bytes ≡ bytes_of text → LiesIn (length bytes) t
placed_within language text l m tokens ends bytes t h g are =
    let own : l.bytes.now ≡ bytes = h.walk.bytes ∙ ap bytes_of h.same ∙ sym are in
    subst (λ (bs : List ℕ). LiesIn (length bs) t) own g.1

-- less is left
pub less_left : (language : Language) (text : List Cell) (l m : Lexer) (tokens : List Tok) (ends : List EndOfLine) → AreLexed language text l tokens ends → HasMoved l m → length text - m.at < length text - l.at
less_left language text l m tokens ends h moved =
    let size : length m.cursor ≡ length text = ap length (moved.same ∙ h.same) in
    omega (arith, moved.after, moved.walk.within, size)
