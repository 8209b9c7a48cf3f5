-- The grammar of controlling expressions (ISO/IEC 9899:2018, 6.5.3 to 6.5.15; no comma, no assignment): as a relation, which
-- is what to believe, and as a function that reads, which contracts cite. That they agree is a law.
use Rattle.std.specs.Prelude.{◌≡◌, ℕ, zero, suc, ◌+◌, ◌*◌, ◌==◌, ◌&&◌, Bool, true, List, [], ◌∷◌, ◌++◌, Option, Some, None, length, nat_lt, nat_le, codes, bytes_eq, find, if◌then◌else◌, IsTrue}
use Rattle.inc_cond.specs.declared.operators.Unary.{Unary}
use Rattle.inc_cond.specs.declared.operators.Unary.TheVariants.{Plus, Minus, Not, Complement}
use Rattle.inc_cond.specs.declared.operators.Binary.{Binary}
use Rattle.inc_cond.specs.declared.operators.Binary.TheVariants.{Or, And, BitOr, BitXor, BitAnd, Equal, Unequal, Less, Greater, LessEqual, GreaterEqual, ShiftLeft, ShiftRight, Add, Subtract, Multiply, Divide, Remainder}
use Rattle.inc_cond.specs.declared.values.Value.{Value}
use Rattle.inc_cond.specs.Symbols.{Symbol, Constant, Sign}

---- expressions and their operators

-- an expression as a tree; parentheses are kept, since they count as nesting
pub data Expression : Type 0 where
  Literal : Value → Expression
  Parenthesised : Expression → Expression
  Prefixed : Unary → Expression → Expression
  Joined : Binary → (left right : Expression) → Expression
  Chosen : (test yes no : Expression) → Expression

-- how an operator is spelled
abbrev pub unary_sign : Unary → List ℕ
unary_sign Plus = codes "+"
unary_sign Minus = codes "-"
unary_sign Not = codes "!"
unary_sign Complement = codes "~"

-- how an operator is spelled
abbrev pub binary_sign : Binary → List ℕ
binary_sign Or = codes "||"
binary_sign And = codes "&&"
binary_sign BitOr = codes "|"
binary_sign BitXor = codes "^"
binary_sign BitAnd = codes "&"
binary_sign Equal = codes "=="
binary_sign Unequal = codes "!="
binary_sign Less = codes "<"
binary_sign Greater = codes ">"
binary_sign LessEqual = codes "<="
binary_sign GreaterEqual = codes ">="
binary_sign ShiftLeft = codes "<<"
binary_sign ShiftRight = codes ">>"
binary_sign Add = codes "+"
binary_sign Subtract = codes "-"
binary_sign Multiply = codes "*"
binary_sign Divide = codes "/"
binary_sign Remainder = codes "%"

-- weakest first: `?:` has 0, then these, unary operators have 11, the rest 12
abbrev pub binary_strength : Binary → ℕ
binary_strength Or = 1
binary_strength And = 2
binary_strength BitOr = 3
binary_strength BitXor = 4
binary_strength BitAnd = 5
binary_strength Equal = 6
binary_strength Unequal = 6
binary_strength Less = 7
binary_strength Greater = 7
binary_strength LessEqual = 7
binary_strength GreaterEqual = 7
binary_strength ShiftLeft = 8
binary_strength ShiftRight = 8
binary_strength Add = 9
binary_strength Subtract = 9
binary_strength Multiply = 10
binary_strength Divide = 10
binary_strength Remainder = 10

---- the grammar, from an expression to its symbols

-- the symbols of an expression, from left to right
abbrev pub symbols_of : Expression → List Symbol
symbols_of (Literal v) = Constant v ∷ []
symbols_of (Parenthesised e) = Sign (codes "(") ∷ (symbols_of e ++ Sign (codes ")") ∷ [])
symbols_of (Prefixed u e) = Sign (unary_sign u) ∷ symbols_of e
symbols_of (Joined o a b) = symbols_of a ++ Sign (binary_sign o) ∷ symbols_of b
symbols_of (Chosen c a b) =
    symbols_of c ++ (Sign (codes "?") ∷ (symbols_of a ++ (Sign (codes ":") ∷ symbols_of b)))

-- how tightly an expression binds
abbrev pub strength : Expression → ℕ
strength (Literal v) = 12
strength (Parenthesised e) = 12
strength (Prefixed u e) = 11
strength (Joined o a b) = binary_strength o
strength (Chosen c a b) = 0

-- each operand binds at least as tightly as the grammar asks: the left one as its operator, the right one more
abbrev pub is_formed : Expression → Bool
is_formed (Literal v) = true
is_formed (Parenthesised e) = is_formed e
is_formed (Prefixed u e) = is_formed e && nat_le 11 (strength e)
is_formed (Joined o a b) =
    is_formed a && (is_formed b
    && (nat_le (binary_strength o) (strength a) && nat_lt (binary_strength o) (strength b)))
is_formed (Chosen c a b) = is_formed c && (is_formed a && (is_formed b && nat_le 1 (strength c)))

-- e is the expression that the grammar gives for these symbols
pub record IsExpressionOf (ss : List Symbol) (e : Expression) : Type 0 where
  pub symbols : symbols_of e ≡ ss
  pub formed : IsTrue (is_formed e)

---- the same as a function: operators by strength

-- what is made of an expression's parts, for each form of the grammar
pub record Forms (E : Type 0) : Type 0 where
  -- of a value
  pub literal : Value → E
  -- of an expression in parentheses
  pub parenthesised : E → E
  -- of an operand after an operator
  pub prefixed : Unary → E → E
  -- of two operands and an operator
  pub joined : Binary → (left right : E) → E
  -- of the operands of `?:`
  pub chosen : (test yes no : E) → E

-- the tree
abbrev pub trees : Forms Expression
trees = record {
  literal = Literal;
  parenthesised = Parenthesised;
  prefixed = Prefixed;
  joined = Joined;
  chosen = Chosen;
}

-- the operator before an operand that has a spelling
abbrev pub unary_of : List ℕ → Option Unary
unary_of text = find (λ u. bytes_eq text (unary_sign u)) (Plus ∷ Minus ∷ Not ∷ Complement ∷ [])

-- the operators between two operands
abbrev pub binaries : List Binary
binaries =
    Or ∷ And ∷ BitOr ∷ BitXor ∷ BitAnd ∷ Equal ∷ Unequal ∷ Less ∷ Greater ∷ LessEqual ∷ GreaterEqual
    ∷ ShiftLeft ∷ ShiftRight ∷ Add ∷ Subtract ∷ Multiply ∷ Divide ∷ Remainder ∷ []

-- the operator between two operands that has a spelling
abbrev pub binary_of : List ℕ → Option Binary
binary_of text = find (λ o. bytes_eq text (binary_sign o)) binaries

-- what was read, and the symbols after it
abbrev pub Reading : Type 0 → Type 0
Reading E = Option (E × List Symbol)

-- from the front: an expression at least so strong; with one given, what continues it
abbrev pub Reader : Type 0 → Type 0
Reader E = (least : ℕ) → (left : Option E) → List Symbol → Reading E

infixl 10 ◌and_then◌
-- the second step, where the first gave something
abbrev pub ◌and_then◌ : {A B : Type 0} → Option A → (A → Option B) → Option B
None and_then f = None
(Some x) and_then f = f x

-- the rest after this sign
abbrev pub behind : List ℕ → List Symbol → Option (List Symbol)
behind text (Sign s ∷ ss) = if bytes_eq s text then Some ss else None
behind text _ = None

-- a unary operator with its operand
abbrev pub prefixed_operand : {E : Type 0} → Forms E → Reader E → Option Unary → List Symbol → Reading E
prefixed_operand forms inner None ss = None
prefixed_operand forms inner (Some u) ss = inner 11 None ss and_then λ e. Some (forms.prefixed u e.0, e.1)

-- an expression and the `)` after it
abbrev pub in_parentheses : {E : Type 0} → Forms E → Reader E → List Symbol → Reading E
in_parentheses forms inner ss =
    inner 0 None ss and_then λ e. behind (codes ")") e.1 and_then λ rest. Some (forms.parenthesised e.0, rest)

-- a constant, a unary operator with its operand, or parentheses
abbrev pub operand : {E : Type 0} → Forms E → Reader E → List Symbol → Reading E
operand forms inner (Constant v ∷ ss) = Some (forms.literal v, ss)
operand forms inner (Sign s ∷ ss) =
    if bytes_eq s (codes "(") then in_parentheses forms inner ss else prefixed_operand forms inner (unary_of s) ss
operand forms inner _ = None

-- the second and third operand of `?:` after the `?`
abbrev pub choice : {E : Type 0} → Forms E → Reader E → E → List Symbol → Reading E
choice forms inner c ss =
    inner 0 None ss and_then λ a. behind (codes ":") a.1 and_then λ rest.
    inner 0 None rest and_then λ b. Some (forms.chosen c a.0 b.0, b.1)

-- an operator after e, where it is strong enough
abbrev pub continued :
    {E : Type 0} → Forms E → Reader E → (least : ℕ) → E → Option Binary → (all rest : List Symbol) → Reading E
continued forms inner least e None all rest = Some (e, all)
continued forms inner least e (Some o) all rest =
    if nat_le least (binary_strength o)
    then (inner (binary_strength o + 1) None rest and_then λ b. inner least (Some (forms.joined o e b.0)) b.1)
    else Some (e, all)

-- what is after an operand: `?`, an operator, or neither
abbrev pub after_operand : {E : Type 0} → Forms E → Reader E → (least : ℕ) → E → List Symbol → Reading E
after_operand forms inner least e (Sign s ∷ ss) =
    if bytes_eq s (codes "?") && (least == 0) then choice forms inner e ss
    else continued forms inner least e (binary_of s) (Sign s ∷ ss) ss
after_operand forms inner least e ss = Some (e, ss)

-- each step goes on after a symbol, or from an operand to what continues it, so that twice the symbols and one suffice
abbrev pub reader : {E : Type 0} → Forms E → (steps : ℕ) → Reader E
reader forms zero least left ss = None
reader forms (suc steps) least None ss =
    operand forms (reader forms steps) ss and_then λ e. reader forms steps least (Some e.0) e.1
reader forms (suc steps) least (Some e) ss = after_operand forms (reader forms steps) least e ss

-- nothing may be left
abbrev pub whole : {E : Type 0} → Reading E → Option E
whole None = None
whole (Some (e, [])) = Some e
whole (Some (e, s ∷ ss)) = None

-- what a list of symbols gives, if it is an expression
abbrev pub made_of : {E : Type 0} → Forms E → List Symbol → Option E
made_of forms ss = whole (reader forms (2 * length ss + 1) 0 None ss)

-- the expression of a list of symbols, if it has one
abbrev pub expression_of : List Symbol → Option Expression
expression_of ss = made_of trees ss
