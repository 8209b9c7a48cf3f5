-- Questions whether a header is found, which are read token by token.
use Rattle.std.specs.Prelude.{ℕ, Bool, List, ◌∷◌, Option, Some, None, Result, Ok, Err, option_map}
use Rattle.inc_macro.specs.Results.{◌>>=◌}
use Rattle.inc_macro.specs.Macros.{Table}
use Rattle.inc_expand.specs.Expansion.{Item}
use Rattle.inc_cond.specs.declared.faults.CondFault.{CondFault}
use Rattle.inc_cond.specs.declared.faults.CondFault.TheVariants.{BadExpression}
use Rattle.inc_cond.specs.declared.questions.Progress.{Progress}
use Rattle.inc_cond.specs.declared.questions.Progress.TheVariants.{More, Answer, Bad}
use Rattle.inc_cond.specs.declared.questions.Question.{Question}
use Rattle.inc_cond.specs.declared.questions.Stage.{Stage}
use Rattle.inc_cond.specs.declared.questions.Stage.TheVariants.{Open, Name, Angled, Close}
use Rattle.inc_cond.specs.Headers.{Header, HeaderSearch, asked_angled, asked_header, asked_name, closed, is_found, one_more}
use Rattle.inc_cond.specs.Symbols.{Symbol, Constant, symbols_from}
use Rattle.inc_cond.specs.Values.{truth}

-- whether the header is found, and how many tokens asked for it
abbrev pub answer_of : HeaderSearch → (is_next : Bool) → Option (Header × ℕ) → Option (Bool × ℕ)
answer_of s is_next = option_map (λ h. (is_found s is_next h.0, h.1))

-- the answer of a question with the tokens that are still to come, and how many of them it takes
abbrev pub answer_at : HeaderSearch → (is_next : Bool) → Stage → List Item → Option (Bool × ℕ)
answer_at s is_next Open is = answer_of s is_next (asked_header is)
answer_at s is_next Name is = answer_of s is_next (asked_name is)
answer_at s is_next (Angled name) is = answer_of s is_next (asked_angled name.items is)
answer_at s is_next (Close found) is = closed found is

abbrev pub answer_to : HeaderSearch → Question → List Item → Option (Bool × ℕ)
answer_to s q is = answer_at s q.is_next q.stage is

-- the same after one more token
abbrev pub answer_after : HeaderSearch → Progress → List Item → Option (Bool × ℕ)
answer_after s (More q) is = one_more (answer_to s q is)
answer_after s (Answer found) is = Some (found, 1)
answer_after s Bad is = None

-- the symbols from a question on, which has this answer
abbrev pub symbols_with : HeaderSearch → Table → Option (Bool × ℕ) → List Item → Result (List Symbol) CondFault
symbols_with s table None is = Err BadExpression
symbols_with s table (Some a) is = symbols_from s a.1 table is >>= λ ss. Ok (Constant (truth a.0) ∷ ss)

-- those of tokens, the first of which perhaps answer a question
abbrev pub symbols_after : HeaderSearch → Table → Option Question → List Item → Result (List Symbol) CondFault
symbols_after s table None is = symbols_from s 0 table is
symbols_after s table (Some q) is = symbols_with s table (answer_to s q is) is
