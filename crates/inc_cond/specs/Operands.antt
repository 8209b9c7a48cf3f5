-- Operands that are read as they come: what they give once the rest has come.
use Rattle.std.specs.Prelude.{◌≡◌, ℕ, suc, ◌++◌, Bool, false, List, [], ◌∷◌, Some, None, Result, Ok, Err, length, map, ⊤}
use Rattle.inc_macro.specs.Results.{◌>>=◌}
use Rattle.inc_macro.specs.Macros.{Table}
use Rattle.inc_macro.specs.Tables.{table_of}
use Rattle.inc_expand.specs.Expansion.{Item}
use Rattle.inc_expand.specs.Items.{seen_item}
use Rattle.inc_cond.specs.declared.faults.CondFault.{CondFault}
use Rattle.inc_cond.specs.declared.operands.Operands.{Operands}
use Rattle.inc_cond.specs.declared.values.Value.{Value}
use Rattle.inc_cond.specs.Walks.{left_to_read}
use Rattle.inc_cond.specs.Known.{bounded_value}
use Rattle.inc_cond.specs.Headers.{HeaderSearch}
use Rattle.inc_cond.specs.Questions.{symbols_after}
use Rattle.inc_cond.specs.Symbols.{Symbol, Stray, asks_header, symbol}

-- the value, by what is kept and by the tokens that are still to be read
abbrev pub given : Operands → List Item → Result Value CondFault
given o is =
    elim o.fault [
      | Some f ↦ Err f
      | None ↦ symbols_after o.headers.now (table_of o.macros.now) o.question is >>= λ ss. bounded_value (left_to_read o.walk ss)
    ]

-- the same of tokens that are still to come, after those that wait
abbrev pub outcome : Operands → List Item → Result Value CondFault
outcome o is = given o (map seen_item o.waiting.items ++ is)

-- what the first of these tokens is, and how many of the others go with it
abbrev pub first_symbol : HeaderSearch → Table → List Item → Result (Symbol × ℕ) CondFault
first_symbol search table [] = Ok (Stray, 0)
first_symbol search table (i ∷ rest) = symbol search table i.kind i.spelling rest

-- the first of these tokens asks for a header
abbrev pub begins_question : Table → List Item → Bool
begins_question table [] = false
begins_question table (i ∷ rest) = asks_header table i.kind i.spelling

-- of the first token it is known what it is, where these come after the others
abbrev pub IsSettled : Table → List Item → List Item → Type 0
IsSettled table [] is = ⊤
IsSettled table (i ∷ rest) is = (search : HeaderSearch) →
    symbol search table i.kind i.spelling (rest ++ is) ≡ symbol search table i.kind i.spelling rest

-- the first token that waits can be read: it answers a question, or asks one, or it is known what it is
abbrev pub IsReady : Operands → List Item → Type 0
IsReady o is = o.question ≡ None → begins_question (table_of o.macros.now) (map seen_item o.waiting.items) ≡ false
    → IsSettled (table_of o.macros.now) (map seen_item o.waiting.items) is

-- at most so many steps are left over the tokens that wait
abbrev pub unread : Operands → ℕ
unread o = elim o.fault [ Some f ↦ 0 | None ↦ suc (length o.waiting.items) ]

-- one more token is taken
abbrev pub takes_token : Operands → Bool → Item → Operands → Type 0
takes_token old first i new = (is : List Item) → outcome new is ≡ outcome old (i ∷ is)
