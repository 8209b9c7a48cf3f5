-- The token lines of a source of which some are blanked.
use Rattle.std.specs.Prelude.{◌≡◌, ◌<◌, ℕ, not, Bool, false, List, [], ◌∷◌, Ok, IsTrue}
use Rattle.inc_text.specs.PhaseText.{phase_text}
use Rattle.inc_text.specs.declared.languages.Language.{Language}
use Rattle.inc_token.specs.Blanking.{blanked_lines}
use Rattle.inc_token.specs.TokenLines.{Tok, TokenLine, token_lines}

-- lines with some of them replaced by one or more empty ones, the last of which ends where the line ended; other lines stay
pub data AreReplaced (test : List Tok → Bool) : List TokenLine → List TokenLine → Type 0 where
  all_done : AreReplaced test [] []
  stays : {l : TokenLine} {ls ms : List TokenLine} → IsTrue (not (test l.tokens)) → AreReplaced test ls ms →
      AreReplaced test (l ∷ ls) (l ∷ ms)
  -- one more empty line, which ends before
  empty_before : {l : TokenLine} {ls ms : List TokenLine} {line : ℕ} → IsTrue (test l.tokens) → line < l.last_line →
      AreReplaced test (l ∷ ls) ms → AreReplaced test (l ∷ ls) (record { tokens = []; last_line = line } ∷ ms)
  empty_last : {l : TokenLine} {ls ms : List TokenLine} → IsTrue (test l.tokens) → AreReplaced test ls ms →
      AreReplaced test (l ∷ ls) (record { tokens = []; last_line = l.last_line } ∷ ms)

-- the token lines of a blanked source are those of the source, each blanked line replaced by one or more empty ones; the
-- test passes no empty line
abbrev pub BlankedLines : Type 0
BlankedLines =
    (language : Language) (test : List Tok → Bool) (source : List ℕ) (lines : List TokenLine) → test [] ≡ false →
    token_lines language (phase_text language source) ≡ Ok lines →
    (blank : List TokenLine) × (token_lines language (phase_text language (blanked_lines test lines source)) ≡ Ok blank) × AreReplaced test lines blank
