-- What is read is of the grammar: it spells what was taken, each operand binds as the grammar asks, and what is after
-- it does not continue it.
use Rattle.std.proofs.Common.{◌≡◌, ℕ, zero, suc, Bool, true, false, ◌+◌, ◌*◌, ◌<◌, ◌≤◌, List, [], ◌∷◌, ◌++◌, length, Option, Some, None, refl, sym, ap, ap₂, subst, ◌∙◌, arith, append_assoc}
use Rattle.std.specs.Prelude.{◌==◌, ◌&&◌, nat_le, nat_lt, codes, bytes_eq, if◌then◌else◌, IsTrue}
use Rattle.std.proofs.lemmas.Bool.{and_parts, and_from, eqb-true, leb-true, leb-false, le-leb, lt-ltb}
use Rattle.std.proofs.lemmas.List.{append-nil}
use Rattle.std.proofs.lemmas.Slice.Eq.{bytes_eq-Decides}
use Rattle.inc_cond.specs.declared.operators.Unary.{Unary}
use Rattle.inc_cond.specs.declared.operators.Binary.{Binary}
use Rattle.inc_cond.specs.Symbols.{Symbol, Constant, Sign, Stray}
use Rattle.inc_cond.specs.Expressions.{Expression, Joined, IsExpressionOf, Reader, Reading, ◌and_then◌, after_operand, behind, binary_of, binary_sign, binary_strength, choice, continued, expression_of, in_parentheses, is_formed, operand, prefixed_operand, reader, strength, symbols_of, trees, unary_of, whole}
use Rattle.inc_cond.proofs.Signs.{IsWeaker, Stops, binary-most, binary-some, binary_of-is, stops-all, unary_of-is}

---- what is said of a reading

-- e was read from these symbols, and these are left
record IsRead (least : ℕ) (all : List Symbol) (e : Expression) (rest : List Symbol) : Type 0 where
  -- its symbols and those that are left are all
  symbols : symbols_of e ++ rest ≡ all
  -- it is formed as the grammar says
  formed : IsTrue (is_formed e)
  -- it binds as strongly as it has to
  strong : least ≤ strength e
  -- what is left does not go on with it
  stops : Stops least rest

abbrev Reads : ℕ → List Symbol → Reading Expression → Type 0
Reads least all None = Unit {0}
Reads least all (Some e) = IsRead least all e.0 e.1

-- e may be continued by what is after it
record IsLeft (least : ℕ) (e : Expression) (ss : List Symbol) : Type 0 where
  -- it is formed as the grammar says
  formed : IsTrue (is_formed e)
  -- it binds as strongly as it has to
  strong : least ≤ strength e
  -- it may stand before an operator
  some : 1 ≤ strength e
  -- what is after it binds no more strongly
  stops : Stops (strength e + 1) ss

record IsGood (inner : Reader Expression) : Type 0 where
  from_none : (least : ℕ) (ss : List Symbol) → least ≤ 11 → Reads least ss (inner least None ss)
  from_left : (least : ℕ) (e : Expression) (ss : List Symbol) → least ≤ 11 → IsLeft least e ss → Reads least (symbols_of e ++ ss) (inner least (Some e) ss)

reads-then :
    (m n : ℕ) (all every : List Symbol) (r : Reading Expression) (f : Expression × List Symbol → Reading Expression) →
    Reads m all r → ((e : Expression × List Symbol) → IsRead m all e.0 e.1 → Reads n every (f e)) → Reads n every (r and_then f)
reads-then m n all every None f l h = tt
reads-then m n all every (Some e) f l h = h e l

abbrev IsBehind : List ℕ → List Symbol → Option (List Symbol) → Type 0
IsBehind text ss None = Unit {0}
IsBehind text ss (Some rest) = ss ≡ Sign text ∷ rest

behind-is : (text : List ℕ) (ss : List Symbol) → IsBehind text ss (behind text ss)
behind-is text [] = tt
behind-is text (Constant v ∷ ss) = tt
behind-is text (Sign s ∷ ss) = by (bytes_eq s text) refl
  where
    by : (b : Bool) → bytes_eq s text ≡ b → IsBehind text (Sign s ∷ ss) (if b then Some ss else None)
    by true t = ap (λ x. Sign x ∷ ss) ((bytes_eq-Decides s text).0 t)
    by false t = tt
behind-is text (Stray ∷ ss) = tt

reads-behind :
    (n : ℕ) (every : List Symbol) (text : List ℕ) (ss : List Symbol) (o : Option (List Symbol)) (f : List Symbol → Reading Expression) →
    IsBehind text ss o → ((rest : List Symbol) → ss ≡ Sign text ∷ rest → Reads n every (f rest)) → Reads n every (o and_then f)
reads-behind n every text ss None f l h = tt
reads-behind n every text ss (Some rest) f l h = h rest l

---- the symbols of what is made

closed-symbols : (xs all left rest : List Symbol) (c : Symbol) → xs ++ left ≡ all → left ≡ c ∷ rest → (xs ++ (c ∷ [])) ++ rest ≡ all
closed-symbols xs all left rest c r b = append_assoc xs (c ∷ []) rest ∙ ap (λ t. xs ++ t) (sym b) ∙ r

chosen-symbols :
    (cs xs ys : List Symbol) (q k : Symbol) (all left rest last : List Symbol) → xs ++ left ≡ all → left ≡ k ∷ rest → ys ++ last ≡ rest →
    (cs ++ (q ∷ (xs ++ (k ∷ ys)))) ++ last ≡ cs ++ (q ∷ all)
chosen-symbols cs xs ys q k all left rest last r b f =
    append_assoc cs (q ∷ (xs ++ (k ∷ ys))) last
    ∙ ap (λ t. cs ++ (q ∷ t)) (append_assoc xs (k ∷ ys) last ∙ ap (λ t. xs ++ (k ∷ t)) f ∙ ap (λ t. xs ++ t) (sym b) ∙ r)

---- one step

module _ (inner : Reader Expression) (good : IsGood inner) where
  parentheses-read : (s : List ℕ) (ss : List Symbol) → s ≡ codes "(" → Reads 11 (Sign s ∷ ss) (in_parentheses trees inner ss)
  parentheses-read s ss s-is =
      reads-then 0 11 ss (Sign s ∷ ss) (inner 0 None ss) _ (good.from_none 0 ss (omega arith)) (λ e r.
      reads-behind 11 (Sign s ∷ ss) (codes ")") e.1 (behind (codes ")") e.1) _ (behind-is (codes ")") e.1) (λ rest b.
      record {
        symbols =
            ap₂ (λ (x : List ℕ) (t : List Symbol). Sign x ∷ t) (sym s-is)
            (closed-symbols (symbols_of e.0) ss e.1 rest (Sign (codes ")")) r.symbols b);
        formed = r.formed;
        strong = omega arith;
        stops = stops-all 11 rest (omega arith);
      }))

  prefixed-read : (s : List ℕ) (u : Option Unary) (ss : List Symbol) → unary_of s ≡ u → Reads 11 (Sign s ∷ ss) (prefixed_operand trees inner u ss)
  prefixed-read s None ss o = tt
  prefixed-read s (Some u) ss o =
      reads-then 11 11 ss (Sign s ∷ ss) (inner 11 None ss) _ (good.from_none 11 ss (omega arith)) (λ e r.
      record {
        symbols = ap₂ (λ (x : List ℕ) (t : List Symbol). Sign x ∷ t) (sym (unary_of-is s u o)) r.symbols;
        formed = and_from (is_formed e.0) (nat_le 11 (strength e.0)) r.formed (le-leb 11 (strength e.0) r.strong);
        strong = omega arith;
        stops = r.stops;
      })

  operand-read : (ss : List Symbol) → Reads 11 ss (operand trees inner ss)
  operand-read [] = tt
  operand-read (Constant v ∷ ss) = record { symbols = refl; formed = refl; strong = omega arith; stops = stops-all 11 ss (omega arith) }
  operand-read (Sign s ∷ ss) = by (bytes_eq s (codes "(")) refl
    where
      by : (b : Bool) → bytes_eq s (codes "(") ≡ b → Reads 11 (Sign s ∷ ss) (if b then in_parentheses trees inner ss else prefixed_operand trees inner (unary_of s) ss)
      by true t = parentheses-read s ss ((bytes_eq-Decides s (codes "(")).0 t)
      by false t = prefixed-read s (unary_of s) ss refl
  operand-read (Stray ∷ ss) = tt

  choice-read : (least : ℕ) (e : Expression) (s : List ℕ) (ss : List Symbol) → s ≡ codes "?" → least ≡ 0 → IsLeft least e (Sign s ∷ ss) →
      Reads least (symbols_of e ++ (Sign s ∷ ss)) (choice trees inner e ss)
  choice-read least e s ss s-is least-is left =
      reads-then 0 least ss (symbols_of e ++ (Sign s ∷ ss)) (inner 0 None ss) _ (good.from_none 0 ss (omega arith)) (λ a ra.
      reads-behind least (symbols_of e ++ (Sign s ∷ ss)) (codes ":") a.1 (behind (codes ":") a.1) _ (behind-is (codes ":") a.1) (λ rest b.
      reads-then 0 least rest (symbols_of e ++ (Sign s ∷ ss)) (inner 0 None rest) _ (good.from_none 0 rest (omega arith)) (λ d rd.
      record {
        symbols =
            chosen-symbols (symbols_of e) (symbols_of a.0) (symbols_of d.0) (Sign (codes "?")) (Sign (codes ":")) ss a.1 rest d.1 ra.symbols b rd.symbols
            ∙ ap (λ x. symbols_of e ++ (Sign x ∷ ss)) (sym s-is);
        formed =
            and_from (is_formed e) (is_formed a.0 && (is_formed d.0 && nat_le 1 (strength e))) left.formed
            (and_from (is_formed a.0) (is_formed d.0 && nat_le 1 (strength e)) ra.formed
            (and_from (is_formed d.0) (nat_le 1 (strength e)) rd.formed (le-leb 1 (strength e) left.some)));
        strong = omega arith;
        stops = subst (λ n. Stops n d.1) (sym least-is) rd.stops;
      })))

  -- it is not continued
  itself : (least : ℕ) (e : Expression) (ss : List Symbol) → IsLeft least e ss → Stops least ss → IsRead least (symbols_of e ++ ss) e ss
  itself least e ss left st = record { symbols = refl; formed = left.formed; strong = left.strong; stops = st }

  joined-left : (least : ℕ) (e : Expression) (s : List ℕ) (o : Binary) (ss : List Symbol) (b : Expression × List Symbol) → binary_of s ≡ Some o →
      least ≤ binary_strength o → IsLeft least e (Sign s ∷ ss) → IsRead (binary_strength o + 1) ss b.0 b.1 → IsLeft least (Joined o e b.0) b.1
  joined-left least e s o ss b o-is strong left r =
      let within : binary_strength o < strength e + 1 = subst (IsWeaker (strength e + 1)) o-is left.stops.1 in
      let more = r.strong in
      record {
        formed =
            and_from (is_formed e) (is_formed b.0 && (nat_le (binary_strength o) (strength e) && nat_lt (binary_strength o) (strength b.0))) left.formed
            (and_from (is_formed b.0) (nat_le (binary_strength o) (strength e) && nat_lt (binary_strength o) (strength b.0)) r.formed
            (and_from (nat_le (binary_strength o) (strength e)) (nat_lt (binary_strength o) (strength b.0))
            (le-leb (binary_strength o) (strength e) (omega arith)) (lt-ltb (binary_strength o) (strength b.0) (omega arith))));
        strong = strong;
        some = binary-some o;
        stops = r.stops;
      }

  continued-read : (least : ℕ) (e : Expression) (s : List ℕ) (o : Option Binary) (ss : List Symbol) → least ≤ 11 → (bytes_eq s (codes "?") && (least == 0)) ≡ false →
      binary_of s ≡ o → IsLeft least e (Sign s ∷ ss) → Reads least (symbols_of e ++ (Sign s ∷ ss)) (continued trees inner least e o (Sign s ∷ ss) ss)
  continued-read least e s None ss l t o-is left =
      itself least e (Sign s ∷ ss) left (t, subst (IsWeaker least) (sym o-is) tt)
  continued-read least e s (Some o) ss l t o-is left = by (nat_le least (binary_strength o)) refl
    where
      by : (b : Bool) → nat_le least (binary_strength o) ≡ b → Reads least (symbols_of e ++ (Sign s ∷ ss))
          (if b then (inner (binary_strength o + 1) None ss and_then λ b. inner least (Some (Joined o e b.0)) b.1) else Some (e, Sign s ∷ ss))
      by true strong =
          reads-then (binary_strength o + 1) least ss (symbols_of e ++ (Sign s ∷ ss)) (inner (binary_strength o + 1) None ss) _
          (good.from_none (binary_strength o + 1) ss (omega (arith, binary-most o))) (λ b r.
          subst (λ all. Reads least all (inner least (Some (Joined o e b.0)) b.1))
          (append_assoc (symbols_of e) (Sign (binary_sign o) ∷ symbols_of b.0) b.1
          ∙ ap₂ (λ (x : List ℕ) (ts : List Symbol). symbols_of e ++ (Sign x ∷ ts)) (sym (binary_of-is s o o-is)) r.symbols)
          (good.from_left least (Joined o e b.0) b.1 l (joined-left least e s o ss b o-is (leb-true least (binary_strength o) strong) left r)))
      by false weak =
          itself least e (Sign s ∷ ss) left (t, subst (IsWeaker least) (sym o-is) (leb-false least (binary_strength o) weak))

  after-read : (least : ℕ) (e : Expression) (ss : List Symbol) → least ≤ 11 → IsLeft least e ss →
      Reads least (symbols_of e ++ ss) (after_operand trees inner least e ss)
  after-read least e [] l left = itself least e [] left tt
  after-read least e (Constant v ∷ ss) l left = itself least e (Constant v ∷ ss) left tt
  after-read least e (Sign s ∷ ss) l left = by (bytes_eq s (codes "?") && (least == 0)) refl
    where
      by : (b : Bool) → (bytes_eq s (codes "?") && (least == 0)) ≡ b → Reads least (symbols_of e ++ (Sign s ∷ ss))
          (if b then choice trees inner e ss else continued trees inner least e (binary_of s) (Sign s ∷ ss) ss)
      by true t =
          let both = and_parts (bytes_eq s (codes "?")) (least == 0) t in
          choice-read least e s ss ((bytes_eq-Decides s (codes "?")).0 both.0) (eqb-true least 0 both.1) left
      by false t = continued-read least e s (binary_of s) ss l t refl left
  after-read least e (Stray ∷ ss) l left = itself least e (Stray ∷ ss) left tt

  none-read : (least : ℕ) (ss : List Symbol) → least ≤ 11 → Reads least ss (operand trees inner ss and_then λ e. inner least (Some e.0) e.1)
  none-read least ss l =
      reads-then 11 least ss ss (operand trees inner ss) _ (operand-read ss) (λ e r.
      subst (λ all. Reads least all (inner least (Some e.0) e.1)) r.symbols
      (good.from_left least e.0 e.1 l (let strong = r.strong in record {
        formed = r.formed;
        strong = omega arith;
        some = omega arith;
        stops = stops-all (strength e.0 + 1) e.1 (omega arith);
      })))

reader-good : (n : ℕ) → IsGood (reader trees n)
reader-good zero = record { from_none = λ least ss l. tt; from_left = λ least e ss l left. tt }
reader-good (suc n) = record {
  from_none = none-read (reader trees n) (reader-good n);
  from_left = after-read (reader trees n) (reader-good n);
}

---- the whole

whole-read : (ss : List Symbol) (r : Reading Expression) (e : Expression) → Reads 0 ss r → whole r ≡ Some e → IsExpressionOf ss e
whole-read ss None e l w = cc
whole-read ss (Some (x, [])) e l w =
    let same : x ≡ e = cc in
    subst (IsExpressionOf ss) same (record { symbols = sym (append-nil (symbols_of x)) ∙ l.symbols; formed = l.formed })
whole-read ss (Some (x, s ∷ rest)) e l w = cc

pub is_of_the_grammar : (ss : List Symbol) (e : Expression) → expression_of ss ≡ Some e → IsExpressionOf ss e
is_of_the_grammar ss e w =
    whole-read ss (reader trees (2 * length ss + 1) 0 None ss) e ((reader-good (2 * length ss + 1)).from_none 0 ss (omega arith)) w
