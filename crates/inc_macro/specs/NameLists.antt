-- A list of parameters as it is read, name by name: a name that is in it before ends the reading, so that each list that
-- is read is good.
use Rattle.std.specs.Prelude.{ℕ, ◌&&◌, not, Bool, List, [], ◌∷◌, ◌++◌, Option, Some, None, Result, Ok, Err, if◌then◌else◌, drop, length, nat_lt, codes, bytes_eq}
use Rattle.inc_token.specs.TokenLines.{Tok}
use Rattle.inc_text.specs.declared.languages.Language.{Language}
use Rattle.inc_macro.specs.Macros.{Params, Variable, is_among, is_dots, is_spelled, is_identifier_kind, is_open, named, stands_first, unnamed, va_args}
use Rattle.inc_macro.specs.declared.faults.DefineFault.{DefineFault}
use Rattle.inc_macro.specs.declared.faults.DefineFault.TheVariants.{BadParameters, TooManyParameters}
use Rattle.inc_macro.specs.declared.parameters.TheConstants.{MOST_NAMES}

-- a name that may be after these
abbrev pub is_new_name : List (List ℕ) → Tok → Bool
is_new_name done t = is_identifier_kind t.kind && (not (bytes_eq t.spelling va_args) && not (is_among t.spelling done))

-- parameters with these names, and the tokens after their `)`
abbrev pub parameters_with : List (List ℕ) → Option Variable → List Tok → Option (Params × List Tok)
parameters_with names variable rest = Some (record { names = names; variable = variable }, rest)

-- these names, and a name with a `...` after it; closes: a `)` is after that
abbrev pub named_with : List (List ℕ) → Tok → (closes : Bool) → List Tok → Option (Params × List Tok)
named_with done t closes rest = if is_new_name done t && closes then parameters_with done (Some (named t.spelling)) rest else None

-- the parameters and the tokens after their `)`, of which these names are read
abbrev pub names_from : Language → List (List ℕ) → List Tok → Option (Params × List Tok)
names_from language done (t ∷ u ∷ rest) =
    if is_spelled (codes "...") t then (if is_spelled (codes ")") u then parameters_with done (Some (unnamed language)) rest else None) else
    if is_dots language u then named_with done t (stands_first (codes ")") rest) (drop 1 rest) else
    if not (is_new_name done t) then None else
    if is_spelled (codes ")") u then parameters_with (done ++ t.spelling ∷ []) None rest else
    if is_spelled (codes ",") u then names_from language (done ++ t.spelling ∷ []) rest else None
names_from language done _ = None

-- the same for the tokens after the `(`
abbrev pub names_in : Language → List Tok → Option (Params × List Tok)
names_in language [] = None
names_in language (t ∷ rest) = if is_spelled (codes ")") t then parameters_with [] None rest else names_from language [] (t ∷ rest)

-- at most MOST_NAMES names
abbrev pub counted : Option (Params × List Tok) → Result (Params × List Tok) DefineFault
counted None = Err BadParameters
counted (Some x) = if nat_lt MOST_NAMES (length x.0.names) then Err TooManyParameters else Ok x

abbrev pub with_parameters : Result (Params × List Tok) DefineFault → Result (Option Params × List Tok) DefineFault
with_parameters (Ok x) = Ok (Some x.0, x.1)
with_parameters (Err fault) = Err fault

-- the parameters, of a function-like macro, and the body, from the tokens after the name
abbrev pub signature_of : Language → List Tok → Result (Option Params × List Tok) DefineFault
signature_of language [] = Ok (None, [])
signature_of language (t ∷ ts) = if is_open t then with_parameters (counted (names_in language ts)) else Ok (None, t ∷ ts)
