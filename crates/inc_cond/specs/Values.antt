-- Values of controlling expressions (ISO/IEC 9899:2018, 6.10.1 paragraph 4): 64 bits, signed in two's complement or
-- unsigned.
use Rattle.std.specs.Prelude.{ℕ, ◌+◌, ◌-◌, ◌*◌, ◌/◌, ◌%◌, ◌^◌, ◌==◌, ◌&&◌, ◌||◌, not, Bool, false, Result, Ok, Err, if◌then◌else◌, nat_lt, nat_le, pos, negsuc, bit_and, bit_or, bit_xor}
use Rattle.inc_cond.specs.declared.faults.CondFault.{CondFault}
use Rattle.inc_cond.specs.declared.faults.CondFault.TheVariants.{DivideByZero, BadShift}
use Rattle.inc_cond.specs.declared.operators.Unary.{Unary}
use Rattle.inc_cond.specs.declared.operators.Unary.TheVariants.{Plus, Minus, Not, Complement}
use Rattle.inc_cond.specs.declared.operators.Binary.{Binary}
use Rattle.inc_cond.specs.declared.operators.Binary.TheVariants.{Or, And, BitOr, BitXor, BitAnd, Equal, Unequal, Less, Greater, LessEqual, GreaterEqual, ShiftLeft, ShiftRight, Add, Subtract, Multiply, Divide, Remainder}
use Rattle.inc_cond.specs.declared.values.Value.{Value}
use Rattle.inc_cond.specs.declared.values.CondValue.{CondValue}
use Rattle.inc_cond.specs.declared.values.CondValue.TheVariants.{Signed, Unsigned}

-- the number n modulo 2^64
abbrev pub wrapped : Bool → ℕ → Value
wrapped u n = record { unsigned = u; bits = n % 2 ^ 64 }

-- a truth value is a signed 0 or 1
abbrev pub truth : Bool → Value
truth b = record { unsigned = false; bits = if b then 1 else 0 }

-- zero is false
abbrev pub is_zero : Value → Bool
is_zero v = v.bits == 0

-- a signed value below 0
abbrev pub is_negative : Value → Bool
is_negative v = not v.unsigned && nat_le (2 ^ 63) v.bits

-- the distance from 0
abbrev pub magnitude : Value → ℕ
magnitude v = if is_negative v then 2 ^ 64 - v.bits else v.bits

-- converted to a type: the bits stay
abbrev pub as_type : Bool → Value → Value
as_type u v = record { unsigned = u; bits = v.bits }

-- the number of that size with that sign
abbrev pub with_sign : (unsigned negative : Bool) → ℕ → Value
with_sign u negative n = wrapped u (if negative then 2 ^ 64 - n else n)

-- the number that a value stands for
abbrev pub cond_value : Value → CondValue
cond_value v =
    if v.unsigned then Unsigned v.bits else
    if is_negative v then Signed (negsuc (2 ^ 64 - 1 - v.bits)) else Signed (pos v.bits)

---- operators on values (6.5.3 to 6.5.14)

-- an operator before a value (6.5.3.3)
abbrev pub unary_value : Unary → Value → Value
unary_value Plus v = v
unary_value Minus v = wrapped v.unsigned (2 ^ 64 - v.bits)
unary_value Not v = truth (is_zero v)
unary_value Complement v = wrapped v.unsigned (2 ^ 64 - 1 - v.bits)

-- below, of two values of one type
abbrev pub is_below : Value → Value → Bool
is_below a b =
    if a.unsigned then nat_lt a.bits b.bits
    else nat_lt ((a.bits + 2 ^ 63) % 2 ^ 64) ((b.bits + 2 ^ 63) % 2 ^ 64)

-- `>>` of a negative value is arithmetic
abbrev pub shifted_right : Value → ℕ → Value
shifted_right a n =
    if is_negative a then wrapped a.unsigned (2 ^ 64 - 1 - (2 ^ 64 - 1 - a.bits) / 2 ^ n)
    else wrapped a.unsigned (a.bits / 2 ^ n)

-- a count of 64 or more is a fault; it is read as its bits, so that a negative one is too large
abbrev pub if_count : Value → Value → Result Value CondFault
if_count b v = if nat_lt 63 b.bits then Err BadShift else Ok v

-- a zero divisor is a fault
abbrev pub if_divisor : Value → Value → Result Value CondFault
if_divisor b v = if is_zero b then Err DivideByZero else Ok v

-- the quotient towards 0; that of the least number and -1 wraps to itself
abbrev pub quotient : Value → Value → Value
quotient a b =
    with_sign a.unsigned (if is_negative a then not (is_negative b) else is_negative b) (magnitude a / magnitude b)

-- what the quotient leaves, with the sign of the dividend
abbrev pub remainder : Value → Value → Value
remainder a b = with_sign a.unsigned (is_negative a) (magnitude a % magnitude b)

-- an operator on two values of one type, but for a shift's count; `||` and `&&` once both operands are evaluated
abbrev pub binary_value : Binary → Value → Value → Result Value CondFault
binary_value Or a b = Ok (truth (not (is_zero a) || not (is_zero b)))
binary_value And a b = Ok (truth (not (is_zero a) && not (is_zero b)))
binary_value BitOr a b = Ok (wrapped a.unsigned (bit_or a.bits b.bits))
binary_value BitXor a b = Ok (wrapped a.unsigned (bit_xor a.bits b.bits))
binary_value BitAnd a b = Ok (wrapped a.unsigned (bit_and a.bits b.bits))
binary_value Equal a b = Ok (truth (a.bits == b.bits))
binary_value Unequal a b = Ok (truth (not (a.bits == b.bits)))
binary_value Less a b = Ok (truth (is_below a b))
binary_value Greater a b = Ok (truth (is_below b a))
binary_value LessEqual a b = Ok (truth (not (is_below b a)))
binary_value GreaterEqual a b = Ok (truth (not (is_below a b)))
binary_value ShiftLeft a b = if_count b (wrapped a.unsigned (a.bits * 2 ^ b.bits))
binary_value ShiftRight a b = if_count b (shifted_right a b.bits)
binary_value Add a b = Ok (wrapped a.unsigned (a.bits + b.bits))
binary_value Subtract a b = Ok (wrapped a.unsigned (a.bits + (2 ^ 64 - b.bits)))
binary_value Multiply a b = Ok (wrapped a.unsigned (a.bits * b.bits))
binary_value Divide a b = if_divisor b (quotient a b)
binary_value Remainder a b = if_divisor b (remainder a b)
