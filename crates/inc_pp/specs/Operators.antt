-- Expanded tokens that are taken one by one: what they put out once the rest has come.
use Rattle.std.specs.Prelude.{◌≡◌, ℕ, ◌++◌, Bool, List, ◌∷◌, Option, Some, None, Result, Err, option_map}
use Rattle.inc_text.specs.PhaseText.{Cell}
use Rattle.inc_text.specs.declared.languages.Language.{Language}
use Rattle.inc_token.specs.TokenLines.{Tok, token_lines}
use Rattle.inc_macro.specs.Results.{◌>>=◌}
use Rattle.inc_expand.specs.Expansion.{Item, Place}
use Rattle.inc_expand.specs.Places.{place_value}
use Rattle.inc_pp.specs.declared.causes.Cause.{Cause}
use Rattle.inc_pp.specs.declared.causes.Cause.TheVariants.{BadPragma}
use Rattle.inc_pp.specs.declared.operators.Operators.{Operators}
use Rattle.inc_pp.specs.declared.operators.Wanted.{Wanted}
use Rattle.inc_pp.specs.declared.operators.Wanted.TheVariants.{Token, Open, Literal, Close}
use Rattle.inc_pp.specs.Pragmas.{Laid, after_literal, after_name, after_open, before, laid, pragma_line, tokens_or_bad}
use Rattle.inc_pp.specs.Tasks.{OutToken}

-- what the tokens give that are still to come, by what the next of them has to be
abbrev pub laid_from : Wanted → Language → (marks : Option Place) → (last : Option ℕ) → (literal : List ℕ) → List Item → Result Laid Cause
laid_from Token language marks last literal is = laid language marks last is
laid_from Open language marks last literal is = after_name language marks is
laid_from Literal language marks last literal is = after_open language marks is
laid_from Close language marks last literal is = after_literal language marks literal is

-- where the tokens are whose lines are marked
abbrev pub marks_in : Operators → Option Place
marks_in o = option_map place_value o.marks

-- what was put out so far
abbrev pub laid_so_far : Operators → Laid
laid_so_far o = record { tokens = o.output; once = o.once }

-- what all give, once these have come
abbrev pub outcome : Operators → List Item → Result Laid Cause
outcome o is =
    elim o.fault [
      | Some cause ↦ Err cause
      | None ↦ before (laid_so_far o) (laid_from o.next o.language (marks_in o) o.last o.literal.items is)
    ]

-- the same, where the tokens of a pragma, or why it has none, come before these, by the line of its `)`
abbrev pub outcome_behind : Result (List Tok) Cause → (line : ℕ) → Operators → List Item → Result Laid Cause
outcome_behind pragma line o is =
    before (laid_so_far o) (pragma >>= λ ts. before (pragma_line o.language (marks_in o) line ts) (laid o.language (marks_in o) None is))

-- the tokens of a pragma's text, if it has one
abbrev pub tokens_in_text : Language → Option (List Cell) → Result (List Tok) Cause
tokens_in_text language None = Err BadPragma
tokens_in_text language (Some text) = tokens_or_bad language (token_lines language text)

-- more was put out
abbrev pub Grows : List OutToken → List OutToken → Type 0
Grows old new = (more : List OutToken) × (new ≡ old ++ more)

-- one more token is taken
abbrev pub takes_operand : Operators → Bool → Item → Operators → Type 0
takes_operand old first i new = ((is : List Item) → outcome new is ≡ outcome old (i ∷ is)) × Grows old.output new.output
