-- No condition is refused for want of memory, in its expansion or elsewhere: the definitions know none.
use Rattle.std.proofs.Common.{◌≡◌, ℕ, zero, suc, ◌||◌, Bool, true, false, List, [], ◌∷◌, Option, Some, None, Result, Ok, Err, nat_lt}
use Rattle.std.specs.Prelude.{◌≢◌, IfErr, ok_or, if◌then◌else◌}
use Rattle.inc_token.specs.TokenLines.{Tok}
use Rattle.inc_token.specs.declared.kinds.Kind.{Kind}
use Rattle.inc_token.specs.declared.kinds.Kind.TheVariants.{HeaderName, Identifier, Number, Char, Str, Punct, Other}
use Rattle.inc_macro.specs.Macros.{Table, asks_headers}
use Rattle.inc_macro.specs.Results.{◌>>=◌}
use Rattle.inc_expand.specs.declared.faults.ExpandFault.{ExpandFault}
use Rattle.inc_expand.specs.declared.faults.ExpandFault.TheVariants as expand
use Rattle.inc_expand.specs.declared.places.Mode.TheVariants.{Condition}
use Rattle.inc_expand.specs.Expansion.{Place, Item, Meter, expansion}
use Rattle.inc_expand.proofs.MemoryFaults.{expansion_has}
use Rattle.inc_cond.specs.declared.faults.CondFault.{CondFault}
use Rattle.inc_cond.specs.declared.faults.CondFault.TheVariants.{Expand, BadExpression, BadNumber, BadCharacter, TooNested, DivideByZero, BadShift, NoMemory}
use Rattle.inc_cond.specs.declared.operators.Binary.{Binary}
use Rattle.inc_cond.specs.declared.operators.Binary.TheVariants.{Or, And, BitOr, BitXor, BitAnd, Equal, Unequal, Less, Greater, LessEqual, GreaterEqual, ShiftLeft, ShiftRight, Add, Subtract, Multiply, Divide, Remainder}
use Rattle.inc_cond.specs.declared.values.Value.{Value}
use Rattle.inc_cond.specs.Constants.{number_value}
use Rattle.inc_cond.specs.GnuCharacters.{character_in}
use Rattle.inc_cond.specs.Headers.{Header, HeaderSearch, asked_header}
use Rattle.inc_cond.specs.Symbols.{constant_symbol, header_symbol, is_next_question, symbol, symbols_from}
use Rattle.inc_cond.specs.Values.{is_zero, as_type, if_count, if_divisor, binary_value}
use Rattle.inc_cond.specs.Expressions.{Expression, Literal, Parenthesised, Prefixed, Joined, Chosen, expression_of}
use Rattle.inc_cond.specs.Evaluation.{nesting, is_shift, common_type, is_unsigned, decided, combined, joined_value, chosen_value, value_of}
use Rattle.inc_cond.specs.Conditions.{most_nesting, within_nesting, expanded, value_of_items, condition}

-- a fault that is no want of memory, and none of the expansion
abbrev pub IsOfText : CondFault → Type 0
IsOfText fault = (fault ≢ NoMemory) × (fault ≢ Expand expand.NoMemory)

abbrev Has : {A : Type 0} → Result A CondFault → Type 0
Has r = IfErr r IsOfText

then_has : {A B : Type 0} (r : Result A CondFault) (f : A → Result B CondFault) → Has r → ((a : A) → Has (f a)) → Has (r >>= f)
then_has (Ok a) f h k = k a
then_has (Err fault) f h k = h

if_has : {A : Type 0} (b : Bool) (r s : Result A CondFault) → Has r → Has s → Has (if b then r else s)
if_has true r s h k = h
if_has false r s h k = k

---- symbols

constant_has : (fault : CondFault) (v : Option Value) → IsOfText fault → Has (constant_symbol fault v)
constant_has fault None h = h
constant_has fault (Some v) h = tt

header_has : (search : HeaderSearch) (is_next : Bool) (o : Option (Header × ℕ)) → Has (header_symbol search is_next o)
header_has search is_next None = ((λ e. cc), (λ e. cc))
header_has search is_next (Some h) = tt

symbol_has : (search : HeaderSearch) (table : Table) (kind : Kind) (text : List ℕ) (rest : List Item) → Has (symbol search table kind text rest)
symbol_has search table HeaderName text rest = tt
symbol_has search table Identifier text rest =
    if_has (asks_headers table.language text) _ _ (header_has search (is_next_question text) (asked_header rest)) tt
symbol_has search table Number text rest = constant_has BadNumber (number_value table.language text) ((λ e. cc), (λ e. cc))
symbol_has search table Char text rest = constant_has BadCharacter (character_in table.language text) ((λ e. cc), (λ e. cc))
symbol_has search table Str text rest = tt
symbol_has search table Punct text rest = tt
symbol_has search table Other text rest = tt

symbols_have : (search : HeaderSearch) (taken : ℕ) (table : Table) (is : List Item) → Has (symbols_from search taken table is)
symbols_have search taken table [] = tt
symbols_have search (suc taken) table (i ∷ is) = symbols_have search taken table is
symbols_have search zero table (i ∷ is) =
    then_has (symbol search table i.kind i.spelling is) _ (symbol_has search table i.kind i.spelling is) (λ s.
    then_has (symbols_from search s.1 table is) _ (symbols_have search s.1 table is) (λ ss. tt))

---- values

count_has : (b v : Value) → Has (if_count b v)
count_has b v = if_has (nat_lt 63 b.bits) (Err BadShift) (Ok v) ((λ e. cc), (λ e. cc)) tt

divisor_has : (b v : Value) → Has (if_divisor b v)
divisor_has b v = if_has (is_zero b) (Err DivideByZero) (Ok v) ((λ e. cc), (λ e. cc)) tt

binary_has : (o : Binary) (a b : Value) → Has (binary_value o a b)
binary_has Or a b = tt
binary_has And a b = tt
binary_has BitOr a b = tt
binary_has BitXor a b = tt
binary_has BitAnd a b = tt
binary_has Equal a b = tt
binary_has Unequal a b = tt
binary_has Less a b = tt
binary_has Greater a b = tt
binary_has LessEqual a b = tt
binary_has GreaterEqual a b = tt
binary_has ShiftLeft a b = count_has b _
binary_has ShiftRight a b = count_has b _
binary_has Add a b = tt
binary_has Subtract a b = tt
binary_has Multiply a b = tt
binary_has Divide a b = divisor_has b _
binary_has Remainder a b = divisor_has b _

joined_has : (o : Binary) (left right : Result Value CondFault) → Has left → Has right → Has (joined_value o left right)
joined_has o left right h k = then_has left _ h (λ v. go v (decided o v))
  where
    go : (v : Value) (d : Option Value) → Has (elim d as (λ _. Result Value CondFault) [ Some d ↦ Ok d | None ↦ right >>= (λ w. combined o v w) ])
    go v (Some d) = tt
    go v None = then_has right _ k (λ w. binary_has o (as_type (common_type o v.unsigned w.unsigned) v) (if is_shift o then w else as_type (common_type o v.unsigned w.unsigned) w))

chosen_has : (u : Bool) (test chosen other : Result Value CondFault) → Has test → Has chosen → Has other → Has (chosen_value u test chosen other)
chosen_has u test chosen other h k l =
    then_has test _ h (λ v. then_has (if is_zero v then other else chosen) _ (if_has (is_zero v) other chosen l k) (λ w. tt))

value_has : (e : Expression) → Has (value_of e)
value_has (Literal v) = tt
value_has (Parenthesised e) = value_has e
value_has (Prefixed u e) = then_has (value_of e) _ (value_has e) (λ v. tt)
value_has (Joined o a b) = joined_has o (value_of a) (value_of b) (value_has a) (value_has b)
value_has (Chosen c a b) = chosen_has (is_unsigned a || is_unsigned b) (value_of c) (value_of a) (value_of b) (value_has c) (value_has a) (value_has b)

---- conditions

or_has : (e : Option Expression) → Has (ok_or e BadExpression)
or_has (Some e) = tt
or_has None = ((λ e. cc), (λ e. cc))

items_have : (search : HeaderSearch) (table : Table) (is : List Item) → Has (value_of_items search table is)
items_have search table is =
    then_has (symbols_from search 0 table is) _ (symbols_have search 0 table is) (λ ss.
    then_has (ok_or (expression_of ss) BadExpression) _ (or_has (expression_of ss)) (λ e.
    then_has (within_nesting e) _ (if_has (nat_lt most_nesting (nesting e)) (Err TooNested) (Ok e) ((λ x. cc), (λ x. cc)) tt) value_has))

inner : (f g : ExpandFault) → Expand f ≡ Expand g → f ≡ g
inner f g e = cc

expanded_has : {A : Type 0} (r : Result A ExpandFault) → IfErr r (λ f. f ≢ expand.NoMemory) → Has (expanded r)
expanded_has (Ok x) h = tt
expanded_has (Err f) h = ((λ e. cc), (λ e. h (inner f expand.NoMemory e)))

pub condition_has : (search : HeaderSearch) (table : Table) (place : Place) (meter : Meter) (ts : List Tok) → Has (condition search table place meter ts)
condition_has search table place meter ts =
    let whole = expansion (record { table = table; mode = Condition; place = place }) meter ts in
    then_has (expanded whole) _ (expanded_has whole (expansion_has (record { table = table; mode = Condition; place = place }) meter ts)) (λ r.
    then_has (value_of_items search table r.0) _ (items_have search table r.0) (λ v. tt))
