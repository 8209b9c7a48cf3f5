-- Evaluation of controlling expressions (ISO/IEC 9899:2018, 6.5.3 to 6.5.15 in 64 bits). Choices of this profile: the limit of
-- nesting; signed results wrap; a shift's count and a divisor that have no meaning are faults.
use Rattle.std.specs.Prelude.{ℕ, ◌+◌, ◌==◌, ◌||◌, max, Bool, true, false, Option, Some, None, Result, Ok, if◌then◌else◌}
use Rattle.inc_macro.specs.Results.{◌>>=◌}
use Rattle.inc_cond.specs.declared.faults.CondFault.{CondFault}
use Rattle.inc_cond.specs.declared.operators.Unary.{Unary}
use Rattle.inc_cond.specs.declared.operators.Unary.TheVariants.{Not}
use Rattle.inc_cond.specs.declared.operators.Binary.{Binary}
use Rattle.inc_cond.specs.declared.operators.Binary.TheVariants.{Or, And}
use Rattle.inc_cond.specs.declared.values.Value.{Value}
use Rattle.inc_cond.specs.Values.{truth, is_zero, as_type, unary_value, binary_value}
use Rattle.inc_cond.specs.Expressions.{Expression, Literal, Parenthesised, Prefixed, Joined, Chosen, binary_strength}

-- how deep an expression is nested: parentheses and operators before an operand count, and `?:` for what it chooses from
abbrev pub nesting : Expression → ℕ
nesting (Literal v) = 0
nesting (Parenthesised e) = nesting e + 1
nesting (Prefixed u e) = nesting e + 1
nesting (Joined o a b) = max (nesting a) (nesting b)
nesting (Chosen c a b) = max (nesting c) (max (nesting a) (nesting b) + 1)

---- types

-- the operators that give a truth value: `||`, `&&`, equality and order
abbrev pub is_logical : Binary → Bool
is_logical o =
    (binary_strength o == 1) || (binary_strength o == 2) || (binary_strength o == 6) || (binary_strength o == 7)

-- `<<` and `>>`
abbrev pub is_shift : Binary → Bool
is_shift o = binary_strength o == 8

-- the type of an operator before an operand, by that of the operand: whether it is unsigned
abbrev pub unary_type : Unary → Bool → Bool
unary_type Not u = false
unary_type _ u = u

-- the type in which an operator works, by those of its operands
abbrev pub common_type : Binary → (left right : Bool) → Bool
common_type o u w = if is_shift o then u else u || w

-- the type of what an operator gives
abbrev pub binary_type : Binary → (left right : Bool) → Bool
binary_type o u w = if is_logical o then false else common_type o u w

-- whether an expression has the unsigned type, evaluated or not
abbrev pub is_unsigned : Expression → Bool
is_unsigned (Literal v) = v.unsigned
is_unsigned (Parenthesised e) = is_unsigned e
is_unsigned (Prefixed u e) = unary_type u (is_unsigned e)
is_unsigned (Joined o a b) = binary_type o (is_unsigned a) (is_unsigned b)
is_unsigned (Chosen c a b) = is_unsigned a || is_unsigned b

---- values

-- what the left operand alone decides: `||` where it is not 0, `&&` where it is
abbrev pub decided : Binary → Value → Option Value
decided Or v = if is_zero v then None else Some (truth true)
decided And v = if is_zero v then Some (truth false) else None
decided _ v = None

-- the value of two operands, converted to one type
abbrev pub combined : Binary → Value → Value → Result Value CondFault
combined o v w =
    let u = common_type o v.unsigned w.unsigned in
    binary_value o (as_type u v) (if is_shift o then w else as_type u w)

-- from left to right; the right operand only where the left one does not decide
abbrev pub joined_value : Binary → (left right : Result Value CondFault) → Result Value CondFault
joined_value o left right =
    left >>= λ v. elim (decided o v) [ Some d ↦ Ok d | None ↦ right >>= λ w. combined o v w ]

-- the operand that the test chooses, converted to a type
abbrev pub chosen_value : Bool → (test chosen other : Result Value CondFault) → Result Value CondFault
chosen_value u test chosen other = test >>= λ v. (if is_zero v then other else chosen) >>= λ w. Ok (as_type u w)

-- the value of an expression, or the first fault; what `&&`, `||` and `?:` do not reach is not evaluated
abbrev pub value_of : Expression → Result Value CondFault
value_of (Literal v) = Ok v
value_of (Parenthesised e) = value_of e
value_of (Prefixed u e) = value_of e >>= λ v. Ok (unary_value u v)
value_of (Joined o a b) = joined_value o (value_of a) (value_of b)
value_of (Chosen c a b) = chosen_value (is_unsigned a || is_unsigned b) (value_of c) (value_of a) (value_of b)
