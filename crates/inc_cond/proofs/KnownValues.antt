-- The value of tokens is that of what is kept of their expression.
use Rattle.std.proofs.Common.{◌≡◌, refl, ap, sym, ◌∙◌, ℕ, ◌+◌, Bool, true, false, List, Option, Some, None, Result, Ok, Err, if◌then◌else◌, nat_lt, option_map}
use Rattle.std.specs.Prelude.{ok_or}
use Rattle.inc_macro.specs.Results.{◌>>=◌}
use Rattle.inc_macro.specs.Macros.{Table}
use Rattle.inc_expand.specs.Expansion.{Item}
use Rattle.inc_cond.specs.declared.faults.CondFault.{CondFault}
use Rattle.inc_cond.specs.declared.faults.CondFault.TheVariants.{BadExpression, TooNested}
use Rattle.inc_cond.specs.declared.known.Known.{Known}
use Rattle.inc_cond.specs.Headers.{HeaderSearch}
use Rattle.inc_cond.specs.Symbols.{Symbol, symbols_from}
use Rattle.inc_cond.specs.Expressions.{Expression, expression_of, made_of}
use Rattle.inc_cond.specs.Evaluation.{nesting, value_of}
use Rattle.inc_cond.specs.Conditions.{most_nesting, within_nesting, value_of_items}
use Rattle.inc_cond.specs.Known.{bounded_value, known_of, knowns}
use Rattle.inc_cond.proofs.KnownTrees.{known_of-made}

-- a nesting as it is kept is too much where the nesting is
capped_test : (b : Bool) (n : ℕ) → nat_lt most_nesting n ≡ b → nat_lt most_nesting (if b then most_nesting + 1 else n) ≡ b
capped_test true n is = refl
capped_test false n is = is

tested : (b : Bool) (e : Expression) → ((if b then Err TooNested else Ok e) >>= value_of) ≡ (if b then Err TooNested else value_of e)
tested true e = refl
tested false e = refl

tree_value : (o : Option Expression) → (ok_or o BadExpression >>= λ e. within_nesting e >>= value_of) ≡ bounded_value (option_map known_of o)
tree_value None = refl
tree_value (Some e) =
    tested (nat_lt most_nesting (nesting e)) e
    ∙ ap (λ (b : Bool). if b then Err TooNested else value_of e) (sym (capped_test (nat_lt most_nesting (nesting e)) (nesting e) refl))

-- what the walk over the symbols gives is the value
pub value_of_read : (search : HeaderSearch) (table : Table) (is : List Item) (read : List Symbol → Option Known)
    → ((ss : List Symbol) → read ss ≡ made_of knowns ss)
    → (symbols_from search 0 table is >>= λ ss. bounded_value (read ss)) ≡ value_of_items search table is
value_of_read search table is read is_read = by (symbols_from search 0 table is)
  where
    by : (r : Result (List Symbol) CondFault)
        → (r >>= λ ss. bounded_value (read ss)) ≡ (r >>= λ ss. ok_or (expression_of ss) BadExpression >>= λ e. within_nesting e >>= value_of)
    by (Ok ss) = ap bounded_value (is_read ss ∙ sym (known_of-made ss)) ∙ sym (tree_value (expression_of ss))
    by (Err f) = refl
