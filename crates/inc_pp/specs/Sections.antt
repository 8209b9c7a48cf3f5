-- Conditions of if-sections (ISO/IEC 9899:2018, 6.10.1).
use Rattle.std.specs.Prelude.{ℕ, ◌==◌, not, Bool, true, List, [], ◌∷◌, Result, Ok, Err, if◌then◌else◌, drop, pos, negsuc}
use Rattle.inc_token.specs.TokenLines.{Tok}
use Rattle.inc_directive.specs.LineKinds.{LineKind, Other, line_of_tokens}
use Rattle.inc_directive.specs.declared.kinds.DirectiveKind.TheVariants.{Ifdef, Ifndef, Elifdef, Elifndef}
use Rattle.inc_directive.specs.Groups.{FileLine}
use Rattle.inc_macro.specs.Results.{◌>>=◌}
use Rattle.inc_macro.specs.Macros.{is_defined, is_identifier_kind}
use Rattle.inc_cond.specs.declared.values.CondValue.{CondValue}
use Rattle.inc_cond.specs.declared.values.CondValue.TheVariants.{Signed, Unsigned}
use Rattle.inc_cond.specs.Conditions.{condition}
use Rattle.inc_pp.specs.declared.causes.Cause.{Cause}
use Rattle.inc_pp.specs.declared.causes.Cause.TheVariants.{Condition, BadName}
use Rattle.inc_pp.specs.Poison.{line_asked}
use Rattle.inc_pp.specs.Runs.{with_meter}
use Rattle.inc_pp.specs.Tasks.{File, State, Here, Halt, caused, halting, place_of, search_of}

-- the tokens after `#` and the directive's name
abbrev pub operands : FileLine → List Tok
operands l = drop 2 l.tokens

-- the identifier that the tokens begin with
abbrev pub first_name : List Tok → Result (List ℕ) Cause
first_name [] = Err BadName
first_name (t ∷ ts) = if is_identifier_kind t.kind then Ok t.spelling else Err BadName

-- a value that is not 0
abbrev pub is_true : CondValue → Bool
is_true (Unsigned n) = not (n == 0)
is_true (Signed (pos n)) = not (n == 0)
is_true (Signed (negsuc n)) = true

-- the value of a condition is not 0
abbrev pub if_true : File → FileLine → State → Here → Result (Bool × State) Cause
if_true f l s h =
    caused Condition (condition (search_of f) s.table (place_of f h) s.meter (operands l)) >>= λ r.
    Ok (is_true r.0, with_meter r.1 s)

-- the name of an `#ifdef` or `#elifdef` line is defined
abbrev pub if_defined : FileLine → State → Result (Bool × State) Cause
if_defined l s = first_name (operands l) >>= λ n. Ok (is_defined n s.table, s)

-- that of an `#ifndef` or `#elifndef` line is not
abbrev pub if_not_defined : FileLine → State → Result (Bool × State) Cause
if_not_defined l s = first_name (operands l) >>= λ n. Ok (not (is_defined n s.table), s)

-- the condition of a line that begins a branch; other kinds are `#if` and `#elif`
abbrev pub condition_of : LineKind → File → FileLine → State → Here → Result (Bool × State) Cause
condition_of (Other Ifdef) f l s h = if_defined l s
condition_of (Other Ifndef) f l s h = if_not_defined l s
condition_of (Other Elifdef) f l s h = if_defined l s
condition_of (Other Elifndef) f l s h = if_not_defined l s
condition_of _ f l s h = if_true f l s h

-- whether a branch is chosen by its line
abbrev pub is_chosen : File → FileLine → State → Here → Result (Bool × State) Halt
is_chosen f l s h = halting f (line_of_tokens l.tokens) s (condition_of l.kind f l s h)

-- whether it is taken: no name of its line was taken away
abbrev pub is_taken : File → FileLine → State → Here → Result (Bool × State) Halt
is_taken f l s h = line_asked f l s >>= λ _. is_chosen f l s h
