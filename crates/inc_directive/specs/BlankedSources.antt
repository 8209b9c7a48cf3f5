-- Sources in which include directives are blanked.
use Rattle.std.specs.Prelude.{ℕ, ◌==◌, ◌&&◌, Bool, List, Result, Ok, Err}
use Rattle.std.specs.List.{list_any}
use Rattle.inc_text.specs.PhaseText.{phase_text}
use Rattle.inc_text.specs.declared.languages.Language.{Language}
use Rattle.inc_token.specs.declared.lines.LexFault.{LexFault}
use Rattle.inc_token.specs.Blanking.{blanked_lines}
use Rattle.inc_token.specs.TokenLines.{Tok, TokenLine, token_lines}
use Rattle.inc_directive.specs.LineKinds.{line_kind, line_of_tokens}
use Rattle.inc_directive.specs.Removal.{is_include, is_removed}

-- a source with these lines, the include directives on some physical lines of which are blanked; one without token lines stays
abbrev pub blanked_by : Language → (removed : ℕ → Bool) → Result (List TokenLine) LexFault → List ℕ → List ℕ
blanked_by language removed (Ok ls) source = blanked_lines (is_removed language removed) ls source
blanked_by language removed (Err fault) source = source

abbrev pub blanked_source : Language → (removed : ℕ → Bool) → List ℕ → List ℕ
blanked_source language removed source = blanked_by language removed (token_lines language (phase_text language source)) source

-- the tokens are an include directive that begins on the physical line
abbrev pub is_include_on : Language → ℕ → List Tok → Bool
is_include_on language n ts = is_include (line_kind language ts) && (n == line_of_tokens ts)

-- an include directive begins on the physical line
abbrev pub includes_on : Language → List TokenLine → ℕ → Bool
includes_on language ls n = list_any (λ (l : TokenLine). is_include_on language n l.tokens) ls
