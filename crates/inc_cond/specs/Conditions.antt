-- Controlling expressions (ISO/IEC 9899:2018, 6.10.1), from their tokens to their values. The order of faults is a choice of
-- this profile.
use Rattle.std.specs.Prelude.{ℕ, List, Result, Ok, Err, if◌then◌else◌, nat_lt, ok_or}
use Rattle.inc_token.specs.TokenLines.{Tok}
use Rattle.inc_macro.specs.Results.{◌>>=◌}
use Rattle.inc_macro.specs.Macros.{Table}
use Rattle.inc_expand.specs.declared.faults.ExpandFault.{ExpandFault}
use Rattle.inc_expand.specs.declared.places.Mode.TheVariants.{Condition}
use Rattle.inc_expand.specs.Expansion.{Place, Item, Meter, expansion}
use Rattle.inc_cond.specs.declared.faults.CondFault.{CondFault}
use Rattle.inc_cond.specs.declared.faults.CondFault.TheVariants.{Expand, BadExpression, TooNested}
use Rattle.inc_cond.specs.declared.values.Value.{Value}
use Rattle.inc_cond.specs.declared.values.CondValue.{CondValue}
use Rattle.inc_cond.specs.Values.{cond_value}
use Rattle.inc_cond.specs.Headers.{HeaderSearch}
use Rattle.inc_cond.specs.Symbols.{symbols_from}
use Rattle.inc_cond.specs.Expressions.{Expression, expression_of}
use Rattle.inc_cond.specs.Evaluation.{nesting, value_of}
use Rattle.inc_cond.specs.declared.known.TheConstants.{MOST_NESTING}

-- the most nesting that an expression may have
abbrev pub most_nesting : ℕ
most_nesting = MOST_NESTING

-- an expression that is not nested too deep
abbrev pub within_nesting : Expression → Result Expression CondFault
within_nesting e = if nat_lt most_nesting (nesting e) then Err TooNested else Ok e

-- a fault of the expansion as one of the condition
abbrev pub expanded : {A : Type 0} → Result A ExpandFault → Result A CondFault
expanded (Ok x) = Ok x
expanded (Err f) = Err (Expand f)

-- the value of expanded tokens: symbols, expression, nesting, value
abbrev pub value_of_items : HeaderSearch → Table → List Item → Result Value CondFault
value_of_items search table is =
    symbols_from search 0 table is >>= λ ss. ok_or (expression_of ss) BadExpression >>= λ e.
    within_nesting e >>= value_of

-- the value of the tokens after `#if` or `#elif` and the meter after them, or the first fault
abbrev pub condition : HeaderSearch → Table → Place → (meter : Meter) → List Tok → Result (CondValue × Meter) CondFault
condition search table place meter ts =
    expanded (expansion (record { table = table; mode = Condition; place = place }) meter ts) >>= λ r.
    value_of_items search table r.0 >>= λ v. Ok (cond_value v, r.1)
