-- What is kept of an expression as it is read is what its tree has: the reader goes through any map that goes through the
-- forms of the grammar, and what is kept of a tree is one.
use Rattle.std.proofs.Common.{◌≡◌, ℕ, zero, suc, Bool, true, false, ◌+◌, ◌*◌, List, [], ◌∷◌, length, Option, Some, None, refl, sym, ap, ◌∙◌, arith}
use Rattle.std.specs.Prelude.{◌==◌, ◌&&◌, max, nat_le, codes, bytes_eq, if◌then◌else◌, option_map}
use Rattle.std.proofs.lemmas.Bool.Decides.{nat_tests}
use Rattle.inc_cond.specs.declared.known.Known.{Known}
use Rattle.inc_cond.specs.declared.operators.Unary.{Unary}
use Rattle.inc_cond.specs.declared.operators.Binary.{Binary}
use Rattle.inc_cond.specs.declared.values.Value.{Value}
use Rattle.inc_cond.specs.Symbols.{Symbol, Constant, Sign, Stray}
use Rattle.inc_cond.specs.Expressions.{Expression, Prefixed, Joined, Chosen, Forms, Reader, Reading, ◌and_then◌, after_operand, behind, binary_of, binary_strength, choice, continued, expression_of, in_parentheses, made_of, operand, prefixed_operand, reader, trees, unary_of, whole}
use Rattle.inc_cond.specs.Evaluation.{nesting}
use Rattle.inc_cond.specs.Known.{capped, deeper, knowns, known_of}
use Rattle.inc_cond.proofs.ReaderSteps.{step, reader-suc}

---- the reader goes through maps

-- a map goes through each form
pub record IsHomomorphism (E F : Type 0) (from : Forms E) (to : Forms F) (h : E → F) : Type 0 where
  -- of a literal
  literal : (v : Value) → h (from.literal v) ≡ to.literal v
  -- of an expression in parentheses
  parenthesised : (e : E) → h (from.parenthesised e) ≡ to.parenthesised (h e)
  -- of an operand after an operator
  prefixed : (u : Unary) (e : E) → h (from.prefixed u e) ≡ to.prefixed u (h e)
  -- of two operands
  joined : (o : Binary) (a b : E) → h (from.joined o a b) ≡ to.joined o (h a) (h b)
  -- of the operands of `?:`
  chosen : (c a b : E) → h (from.chosen c a b) ≡ to.chosen (h c) (h a) (h b)

-- a map of what was read
abbrev pub mapped : {E F : Type 0} → (E → F) → Reading E → Reading F
mapped h None = None
mapped h (Some e) = Some (h e.0, e.1)

-- one step, mapped
mapped-then :
    {E F G H : Type 0} (h : E → F) (j : G → H) (r : Reading E) (q : Reading F) (f : E × List Symbol → Reading G) (g : F × List Symbol → Reading H) →
    mapped h r ≡ q → ((e : E × List Symbol) → mapped j (f e) ≡ g (h e.0, e.1)) → mapped j (r and_then f) ≡ (q and_then g)
mapped-then {E} {F} {G} {H} h j r q f g e k = by r ∙ ap (λ x. x and_then g) e
  where
    by : (x : Reading E) → mapped j (x and_then f) ≡ (mapped h x and_then g)
    by None = refl
    by (Some x) = k x

mapped-behind :
    {G H : Type 0} (j : G → H) (o : Option (List Symbol)) (f : List Symbol → Reading G) (g : List Symbol → Reading H) →
    ((rest : List Symbol) → mapped j (f rest) ≡ g rest) → mapped j (o and_then f) ≡ (o and_then g)
mapped-behind j None f g k = refl
mapped-behind j (Some rest) f g k = k rest

mapped-either : {E F : Type 0} (h : E → F) (b : Bool) (x y : Reading E) (v w : Reading F) → mapped h x ≡ v → mapped h y ≡ w →
    mapped h (if b then x else y) ≡ (if b then v else w)
mapped-either h true x y v w e f = e
mapped-either h false x y v w e f = f

-- a reader of parts goes through the map
abbrev Goes : {E F : Type 0} → (E → F) → Reader E → Reader F → Type 0
Goes {E} {F} h first second = (least : ℕ) (left : Option E) (ss : List Symbol) → mapped h (first least left ss) ≡ second least (option_map h left) ss

-- what was read, with one form
abbrev given : {E : Type 0} → List Symbol → E → Reading E
given ss e = Some (e, ss)

formed : {E : Type 0} (x y : E) (ss : List Symbol) → x ≡ y → given ss x ≡ given ss y
formed x y ss e = ap (given ss) e

module _ {E F : Type 0} (from : Forms E) (to : Forms F) (h : E → F) (m : IsHomomorphism E F from to h)
    (first : Reader E) (second : Reader F) (goes : Goes h first second) where
  goes-parentheses : (ss : List Symbol) → mapped h (in_parentheses from first ss) ≡ in_parentheses to second ss
  goes-parentheses ss =
      mapped-then h h (first 0 None ss) (second 0 None ss) _ _ (goes 0 None ss) (λ e.
      mapped-behind h (behind (codes ")") e.1) _ _ (λ rest. formed _ _ rest (m.parenthesised e.0)))

  goes-prefixed : (u : Option Unary) (ss : List Symbol) → mapped h (prefixed_operand from first u ss) ≡ prefixed_operand to second u ss
  goes-prefixed None ss = refl
  goes-prefixed (Some u) ss =
      mapped-then h h (first 11 None ss) (second 11 None ss) _ _ (goes 11 None ss) (λ e. formed _ _ e.1 (m.prefixed u e.0))

  goes-operand : (ss : List Symbol) → mapped h (operand from first ss) ≡ operand to second ss
  goes-operand [] = refl
  goes-operand (Constant v ∷ ss) = formed _ _ ss (m.literal v)
  goes-operand (Sign s ∷ ss) = mapped-either h (bytes_eq s (codes "(")) _ _ _ _ (goes-parentheses ss) (goes-prefixed (unary_of s) ss)
  goes-operand (Stray ∷ ss) = refl

  goes-choice : (c : E) (ss : List Symbol) → mapped h (choice from first c ss) ≡ choice to second (h c) ss
  goes-choice c ss =
      mapped-then h h (first 0 None ss) (second 0 None ss) _ _ (goes 0 None ss) (λ a.
      mapped-behind h (behind (codes ":") a.1) _ _ (λ rest.
      mapped-then h h (first 0 None rest) (second 0 None rest) _ _ (goes 0 None rest) (λ b. formed _ _ b.1 (m.chosen c a.0 b.0))))

  goes-continued : (least : ℕ) (e : E) (o : Option Binary) (all ss : List Symbol) →
      mapped h (continued from first least e o all ss) ≡ continued to second least (h e) o all ss
  goes-continued least e None all ss = refl
  goes-continued least e (Some o) all ss =
      mapped-either h (nat_le least (binary_strength o)) _ _ _ _
      (mapped-then h h (first (binary_strength o + 1) None ss) (second (binary_strength o + 1) None ss) _ _ (goes (binary_strength o + 1) None ss) (λ b.
      goes least (Some (from.joined o e b.0)) b.1 ∙ ap (λ x. second least (Some x) b.1) (m.joined o e b.0)))
      refl

  goes-after : (least : ℕ) (e : E) (ss : List Symbol) → mapped h (after_operand from first least e ss) ≡ after_operand to second least (h e) ss
  goes-after least e [] = refl
  goes-after least e (Constant v ∷ ss) = refl
  goes-after least e (Sign s ∷ ss) =
      mapped-either h (bytes_eq s (codes "?") && (least == 0)) _ _ _ _ (goes-choice e ss) (goes-continued least e (binary_of s) (Sign s ∷ ss) ss)
  goes-after least e (Stray ∷ ss) = refl

  goes-step : (least : ℕ) (left : Option E) (ss : List Symbol) → mapped h (step from first least left ss) ≡ step to second least (option_map h left) ss
  goes-step least None ss = mapped-then h h (operand from first ss) (operand to second ss) _ _ (goes-operand ss) (λ e. goes least (Some e.0) e.1)
  goes-step least (Some e) ss = goes-after least e ss

goes-reader : {E F : Type 0} (from : Forms E) (to : Forms F) (h : E → F) → IsHomomorphism E F from to h → (n : ℕ) → Goes h (reader from n) (reader to n)
goes-reader from to h m zero least left ss = refl
goes-reader from to h m (suc n) least left ss =
    ap (mapped h) (reader-suc from n least left ss)
    ∙ goes-step from to h m (reader from n) (reader to n) (goes-reader from to h m n) least left ss
    ∙ sym (reader-suc to n least (option_map h left) ss)

whole-mapped : {E F : Type 0} (h : E → F) (r : Reading E) → option_map h (whole r) ≡ whole (mapped h r)
whole-mapped h None = refl
whole-mapped h (Some (e, [])) = refl
whole-mapped h (Some (e, s ∷ ss)) = refl

goes-made_of : {E F : Type 0} (from : Forms E) (to : Forms F) (h : E → F) → IsHomomorphism E F from to h → (ss : List Symbol) →
    option_map h (made_of from ss) ≡ made_of to ss
goes-made_of from to h m ss =
    whole-mapped h (reader from (2 * length ss + 1) 0 None ss) ∙ ap whole (goes-reader from to h m (2 * length ss + 1) 0 None ss)

---- what is kept of a tree

capped-deeper : (n : ℕ) → capped (n + 1) ≡ deeper (capped n)
capped-deeper n = grind (arith, nat_tests)

capped-max : (m n : ℕ) → capped (max m n) ≡ max (capped m) (capped n)
capped-max m n = grind (arith, nat_tests)

pub keeps : IsHomomorphism Expression Known trees knowns known_of
keeps = record {
  literal = λ v. refl;
  parenthesised = λ e. ap (λ n. record { value = (known_of e).value; unsigned = (known_of e).unsigned; nesting = n }) (capped-deeper (nesting e));
  prefixed = λ u e. ap (λ n. record (known_of (Prefixed u e)) { nesting = n }) (capped-deeper (nesting e));
  joined = λ o a b. ap (λ n. record (known_of (Joined o a b)) { nesting = n }) (capped-max (nesting a) (nesting b));
  chosen = λ c a b.
      ap (λ n. record (known_of (Chosen c a b)) { nesting = n })
      (capped-max (nesting c) (max (nesting a) (nesting b) + 1)
      ∙ ap (λ n. max (capped (nesting c)) n) (capped-deeper (max (nesting a) (nesting b)) ∙ ap deeper (capped-max (nesting a) (nesting b))));
}

pub known_of-made : (ss : List Symbol) → option_map known_of (expression_of ss) ≡ made_of knowns ss
known_of-made ss = goes-made_of trees knowns known_of keeps ss
