-- An expression of the grammar is read from its symbols: from the front, its reading goes on as that of the expression itself.
use Rattle.std.proofs.Common.{◌≡◌, ℕ, ◌+◌, ◌<◌, ◌≤◌, List, [], ◌∷◌, ◌++◌, Option, Some, None, refl, sym, ap, subst, ◌∙◌, arith, append_assoc}
use Rattle.std.specs.Prelude.{◌==◌, ◌&&◌, nat_le, nat_lt, codes, bytes_eq, IsTrue}
use Rattle.std.proofs.lemmas.Bool.{and_parts, and_left, cond-true, cond-false, leb-true, lt-leb, le-leb, ltb-true}
use Rattle.std.proofs.lemmas.List.{append-nil}
use Rattle.inc_cond.specs.declared.operators.Unary.{Unary}
use Rattle.inc_cond.specs.declared.operators.Binary.{Binary}
use Rattle.inc_cond.specs.Symbols.{Symbol, Constant, Sign, Stray}
use Rattle.inc_cond.specs.Expressions.{Expression, Literal, Parenthesised, Prefixed, Joined, Chosen, IsExpressionOf, Reading, ◌and_then◌, after_operand, behind, binary_of, binary_sign, binary_strength, continued, expression_of, is_formed, prefixed_operand, strength, symbols_of, trees, unary_sign, whole}
use Rattle.inc_cond.specs.Frames.{read}
use Rattle.inc_cond.proofs.ReaderSteps.{made_of-read, read-step}
use Rattle.inc_cond.proofs.Signs.{IsWeaker, Stops, binary-no_question, binary-some, binary_of-sign, no_question, stops-all, stops-more, unary-no_parenthesis, unary_of-sign}

---- where an expression stops

continued-stops : (least : ℕ) (e : Expression) (o : Option Binary) (all ss : List Symbol) → IsWeaker least o →
    continued trees (read trees) least e o all ss ≡ Some (e, all)
continued-stops least e None all ss w = refl
continued-stops least e (Some o) all ss w = cond-false (nat_le least (binary_strength o)) _ _ (lt-leb least (binary_strength o) w)

after-stops : (least : ℕ) (e : Expression) (ss : List Symbol) → Stops least ss → after_operand trees (read trees) least e ss ≡ Some (e, ss)
after-stops least e [] st = refl
after-stops least e (Constant v ∷ ss) st = refl
after-stops least e (Sign s ∷ ss) st =
    cond-false (bytes_eq s (codes "?") && (least == 0)) _ _ st.0 ∙ continued-stops least e (binary_of s) (Sign s ∷ ss) ss st.1
after-stops least e (Stray ∷ ss) st = refl

stops-read : (least : ℕ) (e : Expression) (ss : List Symbol) → Stops least ss → read trees least (Some e) ss ≡ Some (e, ss)
stops-read least e ss st = read-step trees least (Some e) ss ∙ after-stops least e ss st

-- what continues no part at the right end of an expression binds less than that
abbrev bound : Expression → ℕ
bound (Chosen c a b) = 0
bound e = strength e + 1

bound-is : (e : Expression) → 1 ≤ strength e → bound e ≡ strength e + 1
bound-is (Literal v) l = refl
bound-is (Parenthesised e) l = refl
bound-is (Prefixed u e) l = refl
bound-is (Joined o a b) l = refl
bound-is (Chosen c a b) l = absurd (omega arith)

stops-bound : (e : Expression) (ss : List Symbol) → Stops 0 ss → Stops (bound e) ss
stops-bound (Literal v) ss st = stops-more 0 13 ss (omega arith) (omega arith) st
stops-bound (Parenthesised e) ss st = stops-more 0 13 ss (omega arith) (omega arith) st
stops-bound (Prefixed u e) ss st = stops-more 0 12 ss (omega arith) (omega arith) st
stops-bound (Joined o a b) ss st = stops-more 0 (binary_strength o + 1) ss (omega arith) (omega arith) st
stops-bound (Chosen c a b) ss st = st

---- what an expression's reading goes on as

abbrev GoesOn : Expression → ℕ → List Symbol → Type 0
GoesOn e least rest = read trees least None (symbols_of e ++ rest) ≡ read trees least (Some e) rest

-- an operand, of which it is known that nothing continues it
read-whole : (e : Expression) (least : ℕ) (rest : List Symbol) → GoesOn e least rest → Stops least rest →
    read trees least None (symbols_of e ++ rest) ≡ Some (e, rest)
read-whole e least rest g st = g ∙ stops-read least e rest st

-- what follows an operand
abbrev onwards : ℕ → Expression × List Symbol → Reading Expression
onwards least e = read trees least (Some e.0) e.1

abbrev closing : Expression × List Symbol → Reading Expression
closing e = behind (codes ")") e.1 and_then λ rest. Some (Parenthesised e.0, rest)

abbrev prefixing : Unary → Expression × List Symbol → Reading Expression
prefixing u e = Some (Prefixed u e.0, e.1)

abbrev joining : ℕ → Binary → Expression → Expression × List Symbol → Reading Expression
joining least o a b = read trees least (Some (Joined o a b.0)) b.1

abbrev ending : Expression → Expression → Expression × List Symbol → Reading Expression
ending c a b = Some (Chosen c a b.0, b.1)

abbrev choosing : Expression → Expression × List Symbol → Reading Expression
choosing c a = behind (codes ":") a.1 and_then λ rest. read trees 0 None rest and_then λ b. Some (Chosen c a.0 b.0, b.1)

goes-parenthesised : (e : Expression) (least : ℕ) (rest : List Symbol) → GoesOn e 0 (Sign (codes ")") ∷ rest) → GoesOn (Parenthesised e) least rest
goes-parenthesised e least rest g =
    read-step trees least None (symbols_of (Parenthesised e) ++ rest)
    ∙ ap (λ r. (r and_then closing) and_then onwards least)
    (ap (read trees 0 None) (append_assoc (symbols_of e) (Sign (codes ")") ∷ []) rest)
    ∙ read-whole e 0 (Sign (codes ")") ∷ rest) g (refl, tt))

goes-prefixed : (u : Unary) (e : Expression) (least : ℕ) (rest : List Symbol) → GoesOn e 11 rest → GoesOn (Prefixed u e) least rest
goes-prefixed u e least rest g =
    read-step trees least None (symbols_of (Prefixed u e) ++ rest)
    ∙ ap (λ r. r and_then onwards least)
    (cond-false (bytes_eq (unary_sign u) (codes "(")) _ _ (unary-no_parenthesis u)
    ∙ ap (λ o. prefixed_operand trees (read trees) o (symbols_of e ++ rest)) (unary_of-sign u)
    ∙ ap (λ r. r and_then prefixing u) (read-whole e 11 rest g (stops-all 11 rest (omega arith))))

goes-joined : (o : Binary) (a b : Expression) (least : ℕ) (rest : List Symbol) → least ≤ binary_strength o → Stops (binary_strength o + 1) rest →
    GoesOn a least (Sign (binary_sign o) ∷ (symbols_of b ++ rest)) → GoesOn b (binary_strength o + 1) rest → GoesOn (Joined o a b) least rest
goes-joined o a b least rest l st g h =
    ap (read trees least None) (append_assoc (symbols_of a) (Sign (binary_sign o) ∷ symbols_of b) rest)
    ∙ g
    ∙ read-step trees least (Some a) (Sign (binary_sign o) ∷ (symbols_of b ++ rest))
    ∙ cond-false (bytes_eq (binary_sign o) (codes "?") && (least == 0)) _ _ (and_left (bytes_eq (binary_sign o) (codes "?")) (least == 0) (binary-no_question o))
    ∙ ap (λ p. continued trees (read trees) least a p (Sign (binary_sign o) ∷ (symbols_of b ++ rest)) (symbols_of b ++ rest)) (binary_of-sign o)
    ∙ cond-true (nat_le least (binary_strength o)) _ _ (le-leb least (binary_strength o) l)
    ∙ ap (λ r. r and_then joining least o a) (read-whole b (binary_strength o + 1) rest h st)

goes-chosen : (c a b : Expression) (rest : List Symbol) → Stops 0 rest →
    GoesOn c 0 (Sign (codes "?") ∷ ((symbols_of a ++ (Sign (codes ":") ∷ symbols_of b)) ++ rest)) → GoesOn a 0 (Sign (codes ":") ∷ (symbols_of b ++ rest)) →
    GoesOn b 0 rest → GoesOn (Chosen c a b) 0 rest
goes-chosen c a b rest st g h k =
    ap (read trees 0 None) (append_assoc (symbols_of c) (Sign (codes "?") ∷ (symbols_of a ++ (Sign (codes ":") ∷ symbols_of b))) rest)
    ∙ g
    ∙ read-step trees 0 (Some c) (Sign (codes "?") ∷ ((symbols_of a ++ (Sign (codes ":") ∷ symbols_of b)) ++ rest))
    ∙ ap (λ r. r and_then choosing c)
    (ap (read trees 0 None) (append_assoc (symbols_of a) (Sign (codes ":") ∷ symbols_of b) rest)
    ∙ read-whole a 0 (Sign (codes ":") ∷ (symbols_of b ++ rest)) h (refl, tt))
    ∙ ap (λ r. r and_then ending c a) (read-whole b 0 rest k st)
    ∙ sym (stops-read 0 (Chosen c a b) rest st)

---- by induction

goes-on : (e : Expression) → IsTrue (is_formed e) → (least : ℕ) (rest : List Symbol) → least ≤ strength e → Stops (bound e) rest → GoesOn e least rest
goes-on (Literal v) f least rest l st = read-step trees least None (Constant v ∷ rest)
goes-on (Parenthesised e) f least rest l st =
    goes-parenthesised e least rest (goes-on e f 0 (Sign (codes ")") ∷ rest) (omega arith) (refl, tt))
goes-on (Prefixed u e) f least rest l st =
    let parts = and_parts (is_formed e) (nat_le 11 (strength e)) f in
    let strong : 11 ≤ strength e = leb-true 11 (strength e) parts.1 in
    let more : bound e ≡ strength e + 1 = bound-is e (omega arith) in
    goes-prefixed u e least rest (goes-on e parts.0 11 rest strong (stops-all (bound e) rest (omega arith)))
goes-on (Joined o a b) f least rest l st =
    let first = and_parts (is_formed a) (is_formed b && (nat_le (binary_strength o) (strength a) && nat_lt (binary_strength o) (strength b))) f in
    let second = and_parts (is_formed b) (nat_le (binary_strength o) (strength a) && nat_lt (binary_strength o) (strength b)) first.1 in
    let third = and_parts (nat_le (binary_strength o) (strength a)) (nat_lt (binary_strength o) (strength b)) second.1 in
    let left : binary_strength o ≤ strength a = leb-true (binary_strength o) (strength a) third.0 in
    let right : binary_strength o < strength b = ltb-true (binary_strength o) (strength b) third.1 in
    let some : 1 ≤ binary_strength o = binary-some o in
    let left_bound : bound a ≡ strength a + 1 = bound-is a (omega arith) in
    let right_bound : bound b ≡ strength b + 1 = bound-is b (omega arith) in
    goes-joined o a b least rest l st
    (goes-on a first.0 least (Sign (binary_sign o) ∷ (symbols_of b ++ rest)) (omega arith)
    (no_question (binary_sign o) (bound a) (omega arith), subst (IsWeaker (bound a)) (sym (binary_of-sign o)) (omega arith)))
    (goes-on b second.0 (binary_strength o + 1) rest (omega arith) (stops-more (binary_strength o + 1) (bound b) rest (omega arith) (omega arith) st))
goes-on (Chosen c a b) f least rest l st =
    let first = and_parts (is_formed c) (is_formed a && (is_formed b && nat_le 1 (strength c))) f in
    let second = and_parts (is_formed a) (is_formed b && nat_le 1 (strength c)) first.1 in
    let third = and_parts (is_formed b) (nat_le 1 (strength c)) second.1 in
    let some : 1 ≤ strength c = leb-true 1 (strength c) third.1 in
    let test_bound : bound c ≡ strength c + 1 = bound-is c some in
    let none : least ≡ 0 = omega arith in
    subst (λ n. GoesOn (Chosen c a b) n rest) (sym none)
    (goes-chosen c a b rest st
    (goes-on c first.0 0 (Sign (codes "?") ∷ ((symbols_of a ++ (Sign (codes ":") ∷ symbols_of b)) ++ rest)) (omega arith)
    (no_question (codes "?") (bound c) (omega arith), tt))
    (goes-on a second.0 0 (Sign (codes ":") ∷ (symbols_of b ++ rest)) (omega arith) (refl, tt))
    (goes-on b third.0 0 rest (omega arith) (stops-bound b rest st)))

pub read_of_the_grammar : (ss : List Symbol) (e : Expression) → IsExpressionOf ss e → expression_of ss ≡ Some e
read_of_the_grammar ss e is =
    made_of-read trees ss
    ∙ ap (λ ts. whole (read trees 0 None ts)) (sym is.symbols ∙ sym (append-nil (symbols_of e)))
    ∙ ap whole (goes-on e is.formed 0 [] (omega arith) (stops-end (bound e)) ∙ stops-read 0 e [] tt)
  where
    stops-end : (m : ℕ) → Stops m []
    stops-end m = tt
