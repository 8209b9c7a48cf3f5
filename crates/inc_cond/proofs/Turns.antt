-- The turns of the walk over the symbols of an expression: what the walk gives stays.
use Rattle.std.proofs.Common.{◌≡◌, ℕ, suc, Bool, true, false, ◌+◌, ◌≤◌, List, [], ◌∷◌, ◌++◌, length, drop, Option, Some, None, refl, sym, ap, ap₂, subst, ◌∙◌, arith}
use Rattle.std.specs.Prelude.{◌==◌, ◌&&◌, nat_le, codes, bytes_eq, if◌then◌else◌, option_map}
use Rattle.std.proofs.lemmas.Bool.{cond-true, cond-false}
use Rattle.inc_cond.specs.declared.known.Known.{Known}
use Rattle.inc_cond.specs.declared.operators.Unary.{Unary}
use Rattle.inc_cond.specs.declared.operators.Binary.{Binary}
use Rattle.inc_cond.specs.declared.parser.Frame.{Frame}
use Rattle.inc_cond.specs.declared.parser.Frame.TheVariants.{Parenthesis, Prefix, Infix, Question, Colon}
use Rattle.inc_cond.specs.declared.parser.Turn.{Turn}
use Rattle.inc_cond.specs.declared.parser.Turn.TheVariants.{Wanted, Read, Done, Over}
use Rattle.inc_cond.specs.declared.values.Value.{Value}
use Rattle.inc_cond.specs.Symbols.{Symbol, Constant, Sign, Stray}
use Rattle.inc_cond.specs.Expressions.{Reading, ◌and_then◌, after_operand, behind, binary_of, binary_strength, choice, continued, in_parentheses, operand, prefixed_operand, unary_of, whole}
use Rattle.inc_cond.specs.Frames.{IsTurn, after_part, answer, given, is_over, read, resumed}
use Rattle.inc_cond.specs.Known.{knowns, known_literal, known_parenthesised, known_prefixed, known_joined, known_chosen}
use Rattle.inc_cond.proofs.ReaderSteps.{IfBehind, if_behind, read-step}

pub then-then : {A B C : Type 0} (o : Option A) (f : A → Option B) (g : B → Option C) → ((o and_then f) and_then g) ≡ (o and_then (λ x. f x and_then g))
then-then None f g = refl
then-then (Some x) f g = refl

resumed-none : (fs : List Frame) → resumed fs None ≡ None
resumed-none [] = refl
resumed-none (f ∷ fs) = resumed-none fs

-- the `)` after an expression
abbrev closing : Known × List Symbol → Reading Known
closing e = behind (codes ")") e.1 and_then λ rest. Some (known_parenthesised e.0, rest)

-- what follows an operand
abbrev onwards : ℕ → Known × List Symbol → Reading Known
onwards least e = read knowns least (Some e.0) e.1

---- the symbol at hand, and those that come after it

-- it is passed
pub passed : (s : Symbol) (ss ts rest : List Symbol) → ss ≡ s ∷ drop 1 ss → ts ≡ drop 1 ss → ss ++ rest ≡ s ∷ (ts ++ rest)
passed s ss ts rest e f = ap (λ us. us ++ rest) e ∙ ap (λ us. s ∷ (us ++ rest)) (sym f)

pub first-at : (s : Symbol) (ss rest : List Symbol) → ss ≡ s ∷ drop 1 ss → ss ++ rest ≡ s ∷ (drop 1 ss ++ rest)
first-at s ss rest e = ap (λ us. us ++ rest) e

pub none-at : (ss rest : List Symbol) → ss ≡ [] → (ss ≡ [] → rest ≡ []) → ss ++ rest ≡ []
none-at ss rest e none = ap (λ us. us ++ rest) e ∙ none e

behind-either : (b : Bool) (ss ts rest : List Symbol) → (if b then Some ss else None) ≡ Some ts → (if b then Some (ss ++ rest) else None) ≡ Some (ts ++ rest)
behind-either true ss ts rest e = ap (option_map (λ us. us ++ rest)) e
behind-either false ss ts rest e = cc

behind-neither : (b : Bool) (ss us : List Symbol) → (if b then Some ss else None) ≡ None → (if b then Some us else None) ≡ None
behind-neither true ss us e = cc
behind-neither false ss us e = refl

pub behind-on : (text : List ℕ) (ss ts rest : List Symbol) → behind text ss ≡ Some ts → behind text (ss ++ rest) ≡ Some (ts ++ rest)
behind-on text [] ts rest e = cc
behind-on text (Constant v ∷ ss) ts rest e = cc
behind-on text (Sign s ∷ ss) ts rest e = behind-either (bytes_eq s text) ss ts rest e
behind-on text (Stray ∷ ss) ts rest e = cc

pub behind-not : (text : List ℕ) (ss rest : List Symbol) → behind text ss ≡ None → (ss ≡ [] → rest ≡ []) → behind text (ss ++ rest) ≡ None
behind-not text [] rest e none = ap (behind text) (none refl)
behind-not text (Constant v ∷ ss) rest e none = refl
behind-not text (Sign s ∷ ss) rest e none = behind-neither (bytes_eq s text) ss (ss ++ rest) e
behind-not text (Stray ∷ ss) rest e none = refl

pub whole-on : (k : Known) (ss rest : List Symbol) → (ss ≡ [] → rest ≡ []) → whole (Some (k, ss)) ≡ whole (Some (k, ss ++ rest))
whole-on k [] rest none = ap (λ us. whole (Some (k, us))) (sym (none refl))
whole-on k (s ∷ ss) rest none = refl

-- nothing comes, whatever is left
pub over-any : (t : Turn) (fs : List Frame) (ss ts : List Symbol) → is_over t ≡ true → answer t fs ss ≡ answer t fs ts
over-any (Wanted least) fs ss ts e = cc
over-any (Read least k) fs ss ts e = cc
over-any (Done k) fs ss ts e = cc
over-any (Over known) fs ss ts e = refl

pub over-given : (t : Turn) (fs : List Frame) (ss : List Symbol) → is_over t ≡ true → given t ≡ answer t fs ss
over-given (Wanted least) fs ss e = cc
over-given (Read least k) fs ss e = cc
over-given (Done k) fs ss e = cc
over-given (Over known) fs ss e = refl

---- where an operand is wanted

module _ (fs : List Frame) (least : ℕ) where
  wanted : (ss : List Symbol) (r : Reading Known) → operand knowns (read knowns) ss ≡ r →
      answer (Wanted least) fs ss ≡ resumed fs (r and_then onwards least)
  wanted ss r e = ap (resumed fs) (read-step knowns least None ss ∙ ap (λ x. x and_then onwards least) e)

  pub turn-constant : (v : Value) (k : Known) (ss ts : List Symbol) → ss ≡ Constant v ∷ ts → k ≡ known_literal v →
      IsTurn (Wanted least) fs ss (Read least k) fs ts
  turn-constant v k ss ts e k-is = record {
    same = sym (wanted ss (Some (k, ts)) (ap (operand knowns (read knowns)) e ∙ ap (λ x. Some (x, ts)) (sym k-is)));
    fewer = let l = ap length e in omega arith;
  }

  wanted-none : (ss : List Symbol) → operand knowns (read knowns) ss ≡ None → IsTurn (Wanted least) fs ss (Over None) fs ss
  wanted-none ss e = record {
    same = sym (wanted ss None e ∙ resumed-none fs);
    fewer = omega arith;
  }

  pub turn-empty : (ss : List Symbol) → ss ≡ [] → IsTurn (Wanted least) fs ss (Over None) fs ss
  turn-empty ss e = wanted-none ss (ap (operand knowns (read knowns)) e)

  pub turn-stray : (ss ts : List Symbol) → ss ≡ Stray ∷ ts → IsTurn (Wanted least) fs ss (Over None) fs ss
  turn-stray ss ts e = wanted-none ss (ap (operand knowns (read knowns)) e)

  at-sign : (s : List ℕ) (ss ts : List Symbol) (b : Bool) → ss ≡ Sign s ∷ ts → bytes_eq s (codes "(") ≡ b →
      operand knowns (read knowns) ss ≡ (if b then in_parentheses knowns (read knowns) ts else prefixed_operand knowns (read knowns) (unary_of s) ts)
  at-sign s ss ts b e t =
      ap (operand knowns (read knowns)) e
      ∙ ap (λ x. if x then in_parentheses knowns (read knowns) ts else prefixed_operand knowns (read knowns) (unary_of s) ts) t

  pub turn-parenthesis : (s : List ℕ) (ss ts : List Symbol) (gs : List Frame) → ss ≡ Sign s ∷ ts → bytes_eq s (codes "(") ≡ true →
      gs ≡ Parenthesis least ∷ fs → IsTurn (Wanted least) fs ss (Wanted 0) gs ts
  turn-parenthesis s ss ts gs e t g = record {
    same =
        ap (λ x. answer (Wanted 0) x ts) g
        ∙ sym (wanted ss (in_parentheses knowns (read knowns) ts) (at-sign s ss ts true e t) ∙ ap (resumed fs) (by (read knowns 0 None ts)));
    fewer = let l = ap length e in let m = ap length g in omega arith;
  }
    where
      by : (r : Reading Known) →
          ((r and_then closing) and_then onwards least)
          ≡ (r and_then after_part (Parenthesis least))
      by None = refl
      by (Some e) = then-then (behind (codes ")") e.1) _ _

  pub turn-prefix : (s : List ℕ) (u : Unary) (ss ts : List Symbol) (gs : List Frame) → ss ≡ Sign s ∷ ts → bytes_eq s (codes "(") ≡ false →
      unary_of s ≡ Some u → gs ≡ Prefix u least ∷ fs → IsTurn (Wanted least) fs ss (Wanted 11) gs ts
  turn-prefix s u ss ts gs e t o g = record {
    same =
        ap (λ x. answer (Wanted 11) x ts) g
        ∙ sym (wanted ss (prefixed_operand knowns (read knowns) (Some u) ts)
        (at-sign s ss ts false e t ∙ ap (λ x. prefixed_operand knowns (read knowns) x ts) o)
        ∙ ap (resumed fs) (then-then (read knowns 11 None ts) _ _));
    fewer = let l = ap length e in let m = ap length g in omega arith;
  }

  pub turn-no_prefix : (s : List ℕ) (ss ts : List Symbol) → ss ≡ Sign s ∷ ts → bytes_eq s (codes "(") ≡ false →
      unary_of s ≡ None → IsTurn (Wanted least) fs ss (Over None) fs ss
  turn-no_prefix s ss ts e t o =
      wanted-none ss (at-sign s ss ts false e t ∙ ap (λ x. prefixed_operand knowns (read knowns) x ts) o)

---- after an expression

module _ (fs : List Frame) (least : ℕ) (k : Known) where
  reading : (ss : List Symbol) (r : Reading Known) → after_operand knowns (read knowns) least k ss ≡ r → answer (Read least k) fs ss ≡ resumed fs r
  reading ss r e = ap (resumed fs) (read-step knowns least (Some k) ss ∙ e)

  read-done : (ss : List Symbol) → after_operand knowns (read knowns) least k ss ≡ Some (k, ss) → IsTurn (Read least k) fs ss (Done k) fs ss
  read-done ss e = record {
    same = sym (reading ss (Some (k, ss)) e);
    fewer = omega arith;
  }

  pub turn-end : (ss : List Symbol) → ss ≡ [] → IsTurn (Read least k) fs ss (Done k) fs ss
  turn-end ss e = read-done ss (subst (λ x. after_operand knowns (read knowns) least k x ≡ Some (k, x)) (sym e) refl)

  pub turn-behind_constant : (v : Value) (ss ts : List Symbol) → ss ≡ Constant v ∷ ts → IsTurn (Read least k) fs ss (Done k) fs ss
  turn-behind_constant v ss ts e = read-done ss (subst (λ x. after_operand knowns (read knowns) least k x ≡ Some (k, x)) (sym e) refl)

  pub turn-behind_stray : (ss ts : List Symbol) → ss ≡ Stray ∷ ts → IsTurn (Read least k) fs ss (Done k) fs ss
  turn-behind_stray ss ts e = read-done ss (subst (λ x. after_operand knowns (read knowns) least k x ≡ Some (k, x)) (sym e) refl)

  behind-sign : (s : List ℕ) (ss ts : List Symbol) (b : Bool) → ss ≡ Sign s ∷ ts → (bytes_eq s (codes "?") && (least == 0)) ≡ b →
      after_operand knowns (read knowns) least k ss
      ≡ (if b then choice knowns (read knowns) k ts else continued knowns (read knowns) least k (binary_of s) ss ts)
  behind-sign s ss ts b e t =
      ap (after_operand knowns (read knowns) least k) e
      ∙ ap₂ (λ (x : Bool) (all : List Symbol). if x then choice knowns (read knowns) k ts else continued knowns (read knowns) least k (binary_of s) all ts) t (sym e)

  pub turn-question : (s : List ℕ) (ss ts : List Symbol) (gs : List Frame) → ss ≡ Sign s ∷ ts → (bytes_eq s (codes "?") && (least == 0)) ≡ true →
      gs ≡ Question k ∷ fs → IsTurn (Read least k) fs ss (Wanted 0) gs ts
  turn-question s ss ts gs e t g = record {
    same =
        ap (λ x. answer (Wanted 0) x ts) g
        ∙ sym (reading ss (choice knowns (read knowns) k ts) (behind-sign s ss ts true e t));
    fewer = let l = ap length e in let m = ap length g in omega arith;
  }

  pub turn-no_infix : (s : List ℕ) (ss ts : List Symbol) → ss ≡ Sign s ∷ ts → (bytes_eq s (codes "?") && (least == 0)) ≡ false →
      binary_of s ≡ None → IsTurn (Read least k) fs ss (Done k) fs ss
  turn-no_infix s ss ts e t o =
      read-done ss (behind-sign s ss ts false e t ∙ ap (λ x. continued knowns (read knowns) least k x ss ts) o)

  pub turn-weak : (s : List ℕ) (o : Binary) (ss ts : List Symbol) → ss ≡ Sign s ∷ ts → (bytes_eq s (codes "?") && (least == 0)) ≡ false →
      binary_of s ≡ Some o → nat_le least (binary_strength o) ≡ false → IsTurn (Read least k) fs ss (Done k) fs ss
  turn-weak s o ss ts e t o-is weak =
      read-done ss (behind-sign s ss ts false e t ∙ ap (λ x. continued knowns (read knowns) least k x ss ts) o-is
      ∙ cond-false (nat_le least (binary_strength o)) _ _ weak)

  pub turn-infix : (s : List ℕ) (o : Binary) (n : ℕ) (ss ts : List Symbol) (gs : List Frame) → ss ≡ Sign s ∷ ts → (bytes_eq s (codes "?") && (least == 0)) ≡ false →
      binary_of s ≡ Some o → nat_le least (binary_strength o) ≡ true → n ≡ binary_strength o → gs ≡ Infix o k least ∷ fs →
      IsTurn (Read least k) fs ss (Wanted (n + 1)) gs ts
  turn-infix s o n ss ts gs e t o-is strong n-is g = record {
    same =
        ap₂ (λ (x : List Frame) (m : ℕ). answer (Wanted (m + 1)) x ts) g n-is
        ∙ sym (reading ss _ (behind-sign s ss ts false e t ∙ ap (λ x. continued knowns (read knowns) least k x ss ts) o-is
        ∙ cond-true (nat_le least (binary_strength o)) _ _ strong));
    fewer = let l = ap length e in let m = ap length g in omega arith;
  }

---- where an expression is read to its end

module _ (fs : List Frame) (k : Known) where
  pub turn-over : (ss : List Symbol) (gs : List Frame) (known : Option Known) → fs ≡ [] → known ≡ whole (Some (k, ss)) →
      IsTurn (Done k) fs ss (Over known) gs ss
  turn-over ss gs known e w = record {
    same = w ∙ sym (ap (λ x. resumed x (Some (k, ss))) e);
    fewer = omega arith;
  }

  pub turn-closed : (least : ℕ) (new : Known) (ss ts : List Symbol) → behind (codes ")") ss ≡ Some ts → new ≡ known_parenthesised k →
      IsTurn (Done k) (Parenthesis least ∷ fs) ss (Read least new) fs ts
  turn-closed least new ss ts b n = record {
    same = ap (λ x. resumed fs (read knowns least (Some x) ts)) n
        ∙ sym (ap (λ o. resumed fs (o and_then λ rest. read knowns least (Some (known_parenthesised k)) rest)) b);
    fewer = let l : suc (length ts) ≤ length ss = subst (IfBehind (length ss)) b (if_behind (codes ")") ss) in omega arith;
  }

  pub turn-unclosed : (least : ℕ) (ss ts : List Symbol) → behind (codes ")") ss ≡ None →
      IsTurn (Done k) (Parenthesis least ∷ fs) ss (Over None) fs ts
  turn-unclosed least ss ts b = record {
    same = sym (ap (λ o. resumed fs (o and_then λ rest. read knowns least (Some (known_parenthesised k)) rest)) b ∙ resumed-none fs);
    fewer = omega arith;
  }

  pub turn-prefixed : (least : ℕ) (u : Unary) (new : Known) (ss : List Symbol) → new ≡ known_prefixed u k →
      IsTurn (Done k) (Prefix u least ∷ fs) ss (Read least new) fs ss
  turn-prefixed least u new ss n = record {
    same = ap (λ x. resumed fs (read knowns least (Some x) ss)) n;
    fewer = omega arith;
  }

  pub turn-joined : (least : ℕ) (o : Binary) (left new : Known) (ss : List Symbol) → new ≡ known_joined o left k →
      IsTurn (Done k) (Infix o left least ∷ fs) ss (Read least new) fs ss
  turn-joined least o left new ss n = record {
    same = ap (λ x. resumed fs (read knowns least (Some x) ss)) n;
    fewer = omega arith;
  }

  pub turn-colon : (test : Known) (ss ts : List Symbol) (gs : List Frame) → behind (codes ":") ss ≡ Some ts → gs ≡ Colon test k ∷ fs →
      IsTurn (Done k) (Question test ∷ fs) ss (Wanted 0) gs ts
  turn-colon test ss ts gs b g = record {
    same = ap (λ x. answer (Wanted 0) x ts) g
        ∙ sym (ap (λ o. resumed fs (o and_then λ rest. read knowns 0 None rest and_then λ b. Some (known_chosen test k b.0, b.1))) b);
    fewer =
        let m = ap length g in
        let l : suc (length ts) ≤ length ss = subst (IfBehind (length ss)) b (if_behind (codes ":") ss) in
        omega arith;
  }

  pub turn-no_colon : (test : Known) (ss ts : List Symbol) → behind (codes ":") ss ≡ None →
      IsTurn (Done k) (Question test ∷ fs) ss (Over None) fs ts
  turn-no_colon test ss ts b = record {
    same = sym (ap (λ o. resumed fs (o and_then λ rest. read knowns 0 None rest and_then λ b. Some (known_chosen test k b.0, b.1))) b ∙ resumed-none fs);
    fewer = omega arith;
  }

  pub turn-chosen : (test second new : Known) (ss : List Symbol) → new ≡ known_chosen test second k →
      IsTurn (Done k) (Colon test second ∷ fs) ss (Done new) fs ss
  turn-chosen test second new ss n = record {
    same = ap (λ x. resumed fs (Some (x, ss))) n;
    fewer = omega arith;
  }
