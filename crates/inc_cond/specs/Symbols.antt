-- The tokens of a controlling expression as its grammar reads them (ISO/IEC 9899:2018, 6.10.1 paragraphs 1 and 4). GNU C has questions
-- whether a header is found.
use Rattle.std.specs.Prelude.{ℕ, zero, suc, ◌&&◌, Bool, false, List, [], ◌∷◌, Option, Some, None, Result, Ok, Err, if◌then◌else◌, codes, bytes_eq}
use Rattle.inc_token.specs.declared.kinds.Kind.{Kind}
use Rattle.inc_token.specs.declared.kinds.Kind.TheVariants.{Identifier, Number, Char, Punct}
use Rattle.inc_macro.specs.Results.{◌>>=◌}
use Rattle.inc_macro.specs.Macros.{Table, asks_headers, is_defined, is_identifier_kind}
use Rattle.inc_expand.specs.Expansion.{Item}
use Rattle.inc_cond.specs.declared.faults.CondFault.{CondFault}
use Rattle.inc_cond.specs.declared.faults.CondFault.TheVariants.{BadExpression, BadNumber, BadCharacter}
use Rattle.inc_cond.specs.declared.values.Value.{Value}
use Rattle.inc_cond.specs.Values.{truth}
use Rattle.inc_cond.specs.Constants.{number_value}
use Rattle.inc_cond.specs.GnuCharacters.{character_in}
use Rattle.inc_cond.specs.Headers.{Header, HeaderSearch, asked_header, is_found}

-- what a token is in an expression: a constant, a punctuator with its spelling, or neither
pub data Symbol : Type 0 where
  Constant : Value → Symbol
  Sign : List ℕ → Symbol
  Stray : Symbol

-- `defined`
abbrev pub asks : Kind → List ℕ → Bool
asks kind text = is_identifier_kind kind && bytes_eq text (codes "defined")

-- the name that the tokens after `defined` ask for: an identifier, or one in parentheses; and how many tokens that takes
abbrev pub asked : List Item → Option (List ℕ × ℕ)
asked [] = None
asked (a ∷ b ∷ c ∷ rest) =
    if is_identifier_kind a.kind then Some (a.spelling, 1) else
    if bytes_eq a.spelling (codes "(") && (is_identifier_kind b.kind && bytes_eq c.spelling (codes ")"))
    then Some (b.spelling, 3) else None
asked (a ∷ rest) = if is_identifier_kind a.kind then Some (a.spelling, 1) else None

-- `defined` with the name that it asks for, and how many tokens that took
abbrev pub asked_symbol : Table → Option (List ℕ × ℕ) → Symbol × ℕ
asked_symbol table None = (Stray, 0)
asked_symbol table (Some p) = (Constant (truth (is_defined p.0 table)), p.1)

-- an identifier: its symbol, and how many of the tokens after it go with it
abbrev pub identifier_symbol : Table → List ℕ → List Item → Symbol × ℕ
identifier_symbol table name rest =
    if bytes_eq name (codes "defined") then asked_symbol table (asked rest) else (Constant (truth false), 0)

-- a question whether a header is found
abbrev pub asks_header : Table → Kind → List ℕ → Bool
asks_header table kind text = is_identifier_kind kind && asks_headers table.language text

-- it is `__has_include_next`
abbrev pub is_next_question : List ℕ → Bool
is_next_question name = bytes_eq name (codes "__has_include_next")

-- whether the header is found that a question asks for, and how many tokens that took
abbrev pub header_symbol : HeaderSearch → (is_next : Bool) → Option (Header × ℕ) → Result (Symbol × ℕ) CondFault
header_symbol s is_next None = Err BadExpression
header_symbol s is_next (Some h) = Ok (Constant (truth (is_found s is_next h.0)), h.1)

-- a constant alone, where it has a value
abbrev pub constant_symbol : CondFault → Option Value → Result (Symbol × ℕ) CondFault
constant_symbol fault None = Err fault
constant_symbol fault (Some v) = Ok (Constant v, 0)

-- a token, by its class: its symbol, and how many of the tokens after it go with it
abbrev pub symbol : HeaderSearch → Table → Kind → List ℕ → List Item → Result (Symbol × ℕ) CondFault
symbol search table Identifier text rest =
    if asks_headers table.language text then header_symbol search (is_next_question text) (asked_header rest)
    else Ok (identifier_symbol table text rest)
symbol search table Number text rest = constant_symbol BadNumber (number_value table.language text)
symbol search table Char text rest = constant_symbol BadCharacter (character_in table.language text)
symbol search table Punct text rest = Ok (Sign text, 0)
symbol search table _ text rest = Ok (Stray, 0)

-- the symbols of a list, or its first bad constant or question; taken: how many tokens went with a name before that asks
abbrev pub symbols_from : HeaderSearch → (taken : ℕ) → Table → List Item → Result (List Symbol) CondFault
symbols_from search taken table [] = Ok []
symbols_from search (suc taken) table (i ∷ is) = symbols_from search taken table is
symbols_from search zero table (i ∷ is) =
    symbol search table i.kind i.spelling is >>= λ s. symbols_from search s.1 table is >>= λ ss. Ok (s.0 ∷ ss)
