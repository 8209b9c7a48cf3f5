-- What the code keeps of an expression that it has read: its value, its type and its nesting.
use Rattle.std.specs.Prelude.{ℕ, ◌+◌, max, ◌||◌, Option, Some, None, Result, Ok, Err, if◌then◌else◌, nat_lt}
use Rattle.inc_macro.specs.Results.{◌>>=◌}
use Rattle.inc_cond.specs.declared.faults.CondFault.{CondFault}
use Rattle.inc_cond.specs.declared.faults.CondFault.TheVariants.{BadExpression, TooNested}
use Rattle.inc_cond.specs.declared.operators.Unary.{Unary}
use Rattle.inc_cond.specs.declared.operators.Binary.{Binary}
use Rattle.inc_cond.specs.declared.values.Value.{Value}
use Rattle.inc_cond.specs.declared.known.Known.{Known}
use Rattle.inc_cond.specs.declared.known.Kept.{Kept}
use Rattle.inc_cond.specs.Values.{unary_value}
use Rattle.inc_cond.specs.Expressions.{Expression, Forms}
use Rattle.inc_cond.specs.Evaluation.{nesting, unary_type, binary_type, is_unsigned, joined_value, chosen_value, value_of}
use Rattle.inc_cond.specs.Conditions.{most_nesting}

-- a nesting as it is kept: what is too much is one more than the most
abbrev pub capped : ℕ → ℕ
capped n = if nat_lt most_nesting n then most_nesting + 1 else n

-- one more
abbrev pub deeper : ℕ → ℕ
deeper n = if nat_lt most_nesting n then n else n + 1

abbrev pub known_literal : Value → Known
known_literal v = record { value = Ok v; unsigned = v.unsigned; nesting = 0 }

abbrev pub known_parenthesised : Known → Known
known_parenthesised k = record { value = k.value; unsigned = k.unsigned; nesting = deeper k.nesting }

abbrev pub known_prefixed : Unary → Known → Known
known_prefixed u k = record {
  value = k.value >>= λ v. Ok (unary_value u v);
  unsigned = unary_type u k.unsigned;
  nesting = deeper k.nesting;
}

abbrev pub known_joined : Binary → (left right : Known) → Known
known_joined o a b = record {
  value = joined_value o a.value b.value;
  unsigned = binary_type o a.unsigned b.unsigned;
  nesting = max a.nesting b.nesting;
}

abbrev pub known_chosen : (test yes no : Known) → Known
known_chosen c a b = record {
  value = chosen_value (a.unsigned || b.unsigned) c.value a.value b.value;
  unsigned = a.unsigned || b.unsigned;
  nesting = max c.nesting (deeper (max a.nesting b.nesting));
}

-- what is kept, for each form of the grammar
abbrev pub knowns : Forms Known
knowns = record {
  literal = known_literal;
  parenthesised = known_parenthesised;
  prefixed = known_prefixed;
  joined = known_joined;
  chosen = known_chosen;
}

-- what is kept of a tree
abbrev pub known_of : Expression → Known
known_of e = record { value = value_of e; unsigned = is_unsigned e; nesting = capped (nesting e) }

-- the value of what is kept, where its nesting is not too much
abbrev pub bounded : Known → Result Value CondFault
bounded k = if nat_lt most_nesting k.nesting then Err TooNested else k.value

-- and where there is an expression
abbrev pub bounded_value : Option Known → Result Value CondFault
bounded_value None = Err BadExpression
bounded_value (Some k) = bounded k

---- what waits

-- the value that waits, or its fault
abbrev pub value_in : Kept → Result Value CondFault
value_in k = elim k.fault [ Some f ↦ Err f | None ↦ Ok (record { unsigned = k.unsigned_value; bits = k.bits }) ]

-- what is known of an expression that waits
abbrev pub known_in : Kept → Known
known_in k = record { value = value_in k; unsigned = k.unsigned; nesting = k.nesting }
