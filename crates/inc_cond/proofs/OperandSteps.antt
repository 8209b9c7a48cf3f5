-- Operands that are taken one by one: what they give stays.
use Rattle.std.proofs.Common.{◌≡◌, refl, ap, sym, subst, ◌∙◌, ℕ, suc, ◌+◌, ◌<◌, ◌≤◌, Bool, true, false, List, [], ◌∷◌, ◌++◌, Option, Some, None, Result, Ok, Err, arith, drop, get_or, length, map, take}
use Rattle.std.proofs.Math.Seq.{take-suc}
use Rattle.std.proofs.lemmas.Bool.{cond-true}
use Rattle.std.proofs.lemmas.List.{append-nil, drop-map, length-map, map-append}
use Rattle.inc_token.specs.declared.lines.Token.{Token}
use Rattle.inc_token.specs.declared.kinds.Kind.{Kind}
use Rattle.inc_token.specs.declared.kinds.Kind.TheVariants.{HeaderName, Identifier, Number, Char, Str, Punct, Other}
use Rattle.inc_token.specs.Views.{seen}
use Rattle.inc_macro.specs.Macros.{Table, asks_headers}
use Rattle.inc_macro.specs.Results.{◌>>=◌}
use Rattle.inc_macro.specs.Tables.{table_of}
use Rattle.inc_expand.specs.Expansion.{Item, Meter}
use Rattle.inc_expand.specs.Items.{seen_item}
use Rattle.inc_expand.specs.Sinks.{Taken, item_of_source}
use Rattle.inc_expand.specs.declared.items.Item.{Item as ItemValue}
use Rattle.inc_expand.specs.declared.faults.ExpandFault.{ExpandFault}
use Rattle.inc_cond.specs.declared.faults.CondFault.{CondFault}
use Rattle.inc_cond.specs.declared.faults.CondFault.TheVariants.{BadExpression}
use Rattle.inc_cond.specs.declared.known.Known.{Known}
use Rattle.inc_cond.specs.declared.operands.Operands.{Operands}
use Rattle.inc_cond.specs.declared.questions.Question.{Question}
use Rattle.inc_cond.specs.declared.questions.Stage.{Stage}
use Rattle.inc_cond.specs.declared.questions.Stage.TheVariants.{Open, Name, Angled, Close}
use Rattle.inc_cond.specs.declared.values.CondValue.{CondValue}
use Rattle.inc_cond.specs.declared.values.Value.{Value}
use Rattle.inc_cond.specs.Conditions.{expanded, value_of_items}
use Rattle.inc_cond.specs.Known.{bounded_value}
use Rattle.inc_cond.specs.Headers.{Header, HeaderSearch, asked_header, one_more}
use Rattle.inc_cond.specs.Operands.{IsReady, IsSettled, begins_question, first_symbol, given, outcome, takes_token}
use Rattle.inc_cond.specs.Questions.{answer_at, answer_of, answer_to, symbols_after, symbols_with}
use Rattle.inc_cond.specs.Symbols.{Symbol, Constant, asks, asks_header, header_symbol, is_next_question, symbol, symbols_from}
use Rattle.inc_cond.specs.Values.{cond_value, truth}
use Rattle.inc_cond.specs.Walks.{left_to_read}
use Rattle.inc_cond.proofs.SymbolSteps.{by-itself, symbol-bad, symbol-read}

-- what they give where there is no fault yet
abbrev good : HeaderSearch → Table → Option Question → List Item → (List Symbol → Option Known) → Result Value CondFault
good search table question is read = symbols_after search table question is >>= λ ss. bounded_value (read ss)

by-fault : (o : Operands) (is : List Item) → o.fault ≡ None → given o is ≡ good o.headers.now (table_of o.macros.now) o.question is (left_to_read o.walk)
by-fault o is e =
    ap (λ (f : Option CondFault). elim f [ Some x ↦ Err x | None ↦ good o.headers.now (table_of o.macros.now) o.question is (left_to_read o.walk) ]) e

-- the same without a question
by-none : (o : Operands) (is : List Item) → o.fault ≡ None → o.question ≡ None → given o is ≡ good o.headers.now (table_of o.macros.now) None is (left_to_read o.walk)
by-none o is e q = by-fault o is e ∙ ap (λ x. good o.headers.now (table_of o.macros.now) x is (left_to_read o.walk)) q

drop-none : (n : ℕ) (is : List Item) → n ≤ 0 → drop n [] ++ is ≡ is
drop-none n is l = let e : n ≡ 0 = omega (arith, l) in ap (λ k. drop k [] ++ is) e

-- tokens before which none waits
pub none-waits : (o : Operands) (is : List Item) → o.waiting.items ≡ [] → outcome o is ≡ given o is
none-waits o is e = ap (λ w. given o (map seen_item w ++ is)) e

-- a token that asks for none after it
pub read-alone : (old new : Operands) (i : Item) (is : List Item) (s : Symbol × ℕ) → old.fault ≡ None → new.fault ≡ None
    → old.question ≡ None → new.question ≡ None → old.waiting.items ≡ [] → new.waiting.items ≡ [] → new.headers ≡ old.headers → new.macros ≡ old.macros
    → asks_header (table_of old.macros.now) i.kind i.spelling ≡ false → asks i.kind i.spelling ≡ false
    → symbol old.headers.now (table_of old.macros.now) i.kind i.spelling [] ≡ Ok s → s.1 ≤ 0
    → ((ss : List Symbol) → left_to_read new.walk ss ≡ left_to_read old.walk (s.0 ∷ ss)) → outcome new is ≡ outcome old (i ∷ is)
read-alone old new i is s old-good new-good old-free new-free old-none new-none same-headers same-macros off alone is_s few goes =
    let h = old.headers.now in
    let t = table_of old.macros.now in
    none-waits new is new-none
    ∙ by-none new is new-good new-free
    ∙ ap (λ x. good x.now (table_of new.macros.now) None is (left_to_read new.walk)) same-headers
    ∙ ap (λ m. good h (table_of m.now) None is (left_to_read new.walk)) same-macros
    ∙ ap (λ js. good h t None js (left_to_read new.walk)) (sym (drop-none s.1 is few))
    ∙ symbol-read h t i [] is (left_to_read old.walk) (left_to_read new.walk) s goes (by-itself h t i.kind i.spelling is [] off alone) is_s few
    ∙ sym (by-none old (i ∷ is) old-good old-free)
    ∙ sym (none-waits old (i ∷ is) old-none)

-- where it is bad
pub read-refused : (old : Operands) (i : Item) (is : List Item) (f : CondFault) → old.fault ≡ None → old.question ≡ None → old.waiting.items ≡ []
    → asks_header (table_of old.macros.now) i.kind i.spelling ≡ false → asks i.kind i.spelling ≡ false
    → symbol old.headers.now (table_of old.macros.now) i.kind i.spelling [] ≡ Err f → Err f ≡ outcome old (i ∷ is)
read-refused old i is f old-good free none off alone is_f =
    let h = old.headers.now in
    let t = table_of old.macros.now in
    symbol-bad h t i [] is (left_to_read old.walk) (left_to_read old.walk) f (by-itself h t i.kind i.spelling is [] off alone) is_f
    ∙ sym (by-none old (i ∷ is) old-good free)
    ∙ sym (none-waits old (i ∷ is) none)

---- questions

-- a question is the symbol of its answer
symbol-question : (h : HeaderSearch) (t : Table) (kind : Kind) (text : List ℕ) (rest : List Item) → asks_header t kind text ≡ true
    → symbol h t kind text rest ≡ header_symbol h (is_next_question text) (asked_header rest)
symbol-question h t Identifier text rest on = cond-true (asks_headers t.language text) _ _ on
symbol-question h t Number text rest on = cc
symbol-question h t Char text rest on = cc
symbol-question h t Punct text rest on = cc
symbol-question h t HeaderName text rest on = cc
symbol-question h t Str text rest on = cc
symbol-question h t Other text rest on = cc

question-symbols : (h : HeaderSearch) (t : Table) (i : Item) (is : List Item) → asks_header t i.kind i.spelling ≡ true
    → symbols_after h t (Some (record { is_next = is_next_question i.spelling; stage = Open })) is ≡ symbols_from h 0 t (i ∷ is)
question-symbols h t i is on =
    by (asked_header is)
    ∙ ap (λ r. r >>= λ s. symbols_from h s.1 t is >>= λ ss. Ok (s.0 ∷ ss)) (sym (symbol-question h t i.kind i.spelling is on))
  where
    by : (o : Option (Header × ℕ)) → symbols_with h t (answer_of h (is_next_question i.spelling) o) is
        ≡ (header_symbol h (is_next_question i.spelling) o >>= λ s. symbols_from h s.1 t is >>= λ ss. Ok (s.0 ∷ ss))
    by None = refl
    by (Some x) = refl

-- a token of the question more
more-symbols : (h : HeaderSearch) (t : Table) (a : Option (Bool × ℕ)) (i : Item) (is : List Item) → symbols_with h t (one_more a) (i ∷ is) ≡ symbols_with h t a is
more-symbols h t None i is = refl
more-symbols h t (Some a) i is = refl

-- without tokens there is no answer
none-left : (h : HeaderSearch) (q : Question) → answer_to h q [] ≡ None
none-left h q = by q.stage
  where
    by : (s : Stage) → answer_at h q.is_next s [] ≡ None
    by Open = refl
    by Name = refl
    by (Angled name) = refl
    by (Close found) = refl

by-answer : (old : Operands) (q : Question) (i : Item) (is : List Item) (a : Option (Bool × ℕ)) → old.fault ≡ None → old.question ≡ Some q
    → answer_to old.headers.now q (i ∷ is) ≡ a
    → (symbols_with old.headers.now (table_of old.macros.now) a (i ∷ is) >>= λ ss. bounded_value (left_to_read old.walk ss)) ≡ given old (i ∷ is)
by-answer old q i is a old-good asked answer =
    ap (λ x. symbols_with old.headers.now (table_of old.macros.now) x (i ∷ is) >>= λ ss. bounded_value (left_to_read old.walk ss)) (sym answer)
    ∙ ap (λ x. good old.headers.now (table_of old.macros.now) x (i ∷ is) (left_to_read old.walk)) (sym asked)
    ∙ sym (by-fault old (i ∷ is) old-good)

then-goes : (after before : List Symbol → Option Known) (s : Symbol) → ((ss : List Symbol) → after ss ≡ before (s ∷ ss)) → (r : Result (List Symbol) CondFault)
    → (r >>= λ ss. bounded_value (after ss)) ≡ ((r >>= λ ss. Ok (s ∷ ss)) >>= λ ss. bounded_value (before ss))
then-goes after before s goes (Ok ss) = ap bounded_value (goes ss)
then-goes after before s goes (Err f) = refl

-- a token that asks for a header
pub read-question : (old new : Operands) (i : Item) (is : List Item) (is_next : Bool) → old.fault ≡ None → new.fault ≡ None
    → old.question ≡ None → new.question ≡ Some (record { is_next = is_next; stage = Open }) → new.headers ≡ old.headers → new.macros ≡ old.macros → new.walk ≡ old.walk
    → asks_header (table_of old.macros.now) i.kind i.spelling ≡ true → is_next ≡ is_next_question i.spelling
    → given new is ≡ given old (i ∷ is)
read-question old new i is is_next old-good new-good old-free asked same-headers same-macros same-walk on next =
    let h = old.headers.now in
    let t = table_of old.macros.now in
    by-fault new is new-good
    ∙ ap (λ q. good new.headers.now (table_of new.macros.now) q is (left_to_read new.walk)) asked
    ∙ ap (λ x. good x.now (table_of new.macros.now) (Some (record { is_next = is_next; stage = Open })) is (left_to_read new.walk)) same-headers
    ∙ ap (λ m. good h (table_of m.now) (Some (record { is_next = is_next; stage = Open })) is (left_to_read new.walk)) same-macros
    ∙ ap (λ w. good h t (Some (record { is_next = is_next; stage = Open })) is (left_to_read w)) same-walk
    ∙ ap (λ b. good h t (Some (record { is_next = b; stage = Open })) is (left_to_read old.walk)) next
    ∙ ap (λ r. r >>= λ ss. bounded_value (left_to_read old.walk ss)) (question-symbols h t i is on)
    ∙ sym (by-none old (i ∷ is) old-good old-free)

-- a token that answers one: more tokens are to come
pub answered-more : (old new : Operands) (q r : Question) (i : Item) (is : List Item) → old.fault ≡ None → new.fault ≡ None → old.question ≡ Some q → new.question ≡ Some r
    → new.headers ≡ old.headers → new.macros ≡ old.macros → new.walk ≡ old.walk
    → answer_to old.headers.now q (i ∷ is) ≡ one_more (answer_to old.headers.now r is) → given new is ≡ given old (i ∷ is)
answered-more old new q r i is old-good new-good asked asks same-headers same-macros same-walk answer =
    let h = old.headers.now in
    let t = table_of old.macros.now in
    by-fault new is new-good
    ∙ ap (λ x. good new.headers.now (table_of new.macros.now) x is (left_to_read new.walk)) asks
    ∙ ap (λ x. good x.now (table_of new.macros.now) (Some r) is (left_to_read new.walk)) same-headers
    ∙ ap (λ m. good h (table_of m.now) (Some r) is (left_to_read new.walk)) same-macros
    ∙ ap (λ w. good h t (Some r) is (left_to_read w)) same-walk
    ∙ ap (λ ss. ss >>= λ ss. bounded_value (left_to_read old.walk ss)) (sym (more-symbols h t (answer_to h r is) i is))
    ∙ by-answer old q i is (one_more (answer_to h r is)) old-good asked answer

-- all of them have come
pub answered-last : (old new : Operands) (q : Question) (found : Bool) (i : Item) (is : List Item) → old.fault ≡ None → new.fault ≡ None → old.question ≡ Some q → new.question ≡ None
    → new.headers ≡ old.headers → new.macros ≡ old.macros → ((ss : List Symbol) → left_to_read new.walk ss ≡ left_to_read old.walk (Constant (truth found) ∷ ss))
    → answer_to old.headers.now q (i ∷ is) ≡ Some (found, 1) → given new is ≡ given old (i ∷ is)
answered-last old new q found i is old-good new-good asked free same-headers same-macros goes answer =
    let h = old.headers.now in
    let t = table_of old.macros.now in
    by-none new is new-good free
    ∙ ap (λ x. good x.now (table_of new.macros.now) None is (left_to_read new.walk)) same-headers
    ∙ ap (λ m. good h (table_of m.now) None is (left_to_read new.walk)) same-macros
    ∙ then-goes (left_to_read new.walk) (left_to_read old.walk) (Constant (truth found)) goes (symbols_from h 0 t is)
    ∙ by-answer old q i is (Some (found, 1)) old-good asked answer

-- it cannot be answered
pub answered-badly : (old : Operands) (q : Question) (i : Item) (is : List Item) → old.fault ≡ None → old.question ≡ Some q
    → answer_to old.headers.now q (i ∷ is) ≡ None → Err BadExpression ≡ given old (i ∷ is)
answered-badly old q i is old-good asked answer = by-answer old q i is None old-good asked answer

-- nor where no token comes
pub answered-never : (old : Operands) (q : Question) → old.fault ≡ None → old.question ≡ Some q → Err BadExpression ≡ given old []
answered-never old q old-good asked =
    let h = old.headers.now in
    let t = table_of old.macros.now in
    ap (λ a. symbols_with h t a [] >>= λ ss. bounded_value (left_to_read old.walk ss)) (sym (none-left h q))
    ∙ ap (λ x. good h t x [] (left_to_read old.walk)) (sym asked)
    ∙ sym (by-fault old [] old-good)

---- the first of the tokens that wait

module _ (search : HeaderSearch) (table : Table) (w : List ItemValue) (is : List Item) (before after : List Symbol → Option Known) (settled : IsSettled table (map seen_item w) is) (some : 0 < length w) where
  pub first-read : (v : List ItemValue) (s : Symbol × ℕ) → v ≡ drop (1 + s.1) w → ((ss : List Symbol) → after ss ≡ before (s.0 ∷ ss))
      → first_symbol search table (map seen_item w) ≡ Ok s → s.1 < length w
      → good search table None (map seen_item v ++ is) after ≡ good search table None (map seen_item w ++ is) before
  first-read v s v-is goes is_s within = by w settled some v-is is_s within
    where
      by : (u : List ItemValue) → IsSettled table (map seen_item u) is → 0 < length u → v ≡ drop (1 + s.1) u → first_symbol search table (map seen_item u) ≡ Ok s
          → s.1 < length u → good search table None (map seen_item v ++ is) after ≡ good search table None (map seen_item u ++ is) before
      by [] so l e f m = absurd (omega (arith, l))
      by (x ∷ rest) so l e f m =
          let n : 1 + s.1 ≡ suc s.1 = omega arith in
          let k = length-map rest seen_item in
          ap (λ u. good search table None (map seen_item u ++ is) after) (e ∙ ap (λ j. drop j (x ∷ rest)) n)
          ∙ ap (λ us. good search table None (us ++ is) after) (sym (drop-map seen_item s.1 rest))
          ∙ symbol-read search table (seen_item x) (map seen_item rest) is before after s goes (so search) f (omega (arith, m, k))

  pub first-bad : (f : CondFault) → first_symbol search table (map seen_item w) ≡ Err f → Err f ≡ good search table None (map seen_item w ++ is) before
  first-bad f is_f = by w settled some is_f
    where
      by : (u : List ItemValue) → IsSettled table (map seen_item u) is → 0 < length u → first_symbol search table (map seen_item u) ≡ Err f
          → Err f ≡ good search table None (map seen_item u ++ is) before
      by [] so l e = absurd (omega (arith, l))
      by (x ∷ rest) so l e = symbol-bad search table (seen_item x) (map seen_item rest) is before after f (so search) e

pub first-taken : (old new : Operands) (is : List Item) (s : Symbol × ℕ) → old.fault ≡ None → new.fault ≡ None → old.question ≡ None → new.question ≡ None
    → new.headers ≡ old.headers → new.macros ≡ old.macros → IsReady old is → begins_question (table_of old.macros.now) (map seen_item old.waiting.items) ≡ false
    → 0 < length old.waiting.items → new.waiting.items ≡ drop (1 + s.1) old.waiting.items
    → ((ss : List Symbol) → left_to_read new.walk ss ≡ left_to_read old.walk (s.0 ∷ ss))
    → first_symbol old.headers.now (table_of old.macros.now) (map seen_item old.waiting.items) ≡ Ok s → s.1 < length old.waiting.items → outcome new is ≡ outcome old is
first-taken old new is s old-good new-good old-free new-free same-headers same-macros ready off some v-is goes is_s within =
    by-none new (map seen_item new.waiting.items ++ is) new-good new-free
    ∙ ap (λ x. good x.now (table_of new.macros.now) None (map seen_item new.waiting.items ++ is) (left_to_read new.walk)) same-headers
    ∙ ap (λ m. good old.headers.now (table_of m.now) None (map seen_item new.waiting.items ++ is) (left_to_read new.walk)) same-macros
    ∙ first-read old.headers.now (table_of old.macros.now) old.waiting.items is (left_to_read old.walk) (left_to_read new.walk) (ready old-free off) some new.waiting.items s v-is goes is_s within
    ∙ sym (by-none old (map seen_item old.waiting.items ++ is) old-good old-free)

pub first-refused : (old : Operands) (is : List Item) (f : CondFault) → old.fault ≡ None → old.question ≡ None
    → IsReady old is → begins_question (table_of old.macros.now) (map seen_item old.waiting.items) ≡ false → 0 < length old.waiting.items
    → first_symbol old.headers.now (table_of old.macros.now) (map seen_item old.waiting.items) ≡ Err f → Err f ≡ outcome old is
first-refused old is f old-good free ready off some is_f =
    first-bad old.headers.now (table_of old.macros.now) old.waiting.items is (left_to_read old.walk) (left_to_read old.walk) (ready free off) some f is_f
    ∙ sym (by-none old (map seen_item old.waiting.items ++ is) old-good free)

---- all of them

-- what they give is that of the first ones before those that are to come
pub taken-outcome : (first : Bool) (old new : Operands) (items rest : List Item) → Taken takes_token first old items new → outcome new rest ≡ outcome old (items ++ rest)
taken-outcome first old new [] rest e = ap (λ o. outcome o rest) (sym e)
taken-outcome first old new (i ∷ is) rest h = taken-outcome false h.0 new is rest h.2 ∙ h.1 (is ++ rest)

taken-more : (first b : Bool) (old between new : Operands) (is : List Item) (i : Item) → Taken takes_token first old is between → takes_token between b i new
    → Taken takes_token first old (is ++ i ∷ []) new
taken-more first b old between new [] i e t = (new, subst (λ o. takes_token o b i new) (sym e) t, refl)
taken-more first b old between new (j ∷ js) i h t = (h.0, h.1, taken-more false b h.0 between new js i h.2 t)

pub source-more : (first b : Bool) (old between new : Operands) (ts : List Token) (k : ℕ) (d : Token) (i : Item) → k < length ts
    → Taken takes_token first old (map item_of_source (map seen (take k ts))) between → i ≡ item_of_source (seen (get_or ts k d)) → takes_token between b i new
    → Taken takes_token first old (map item_of_source (map seen (take (k + 1) ts))) new
source-more first b old between new ts k d i l h e t =
    let n : k + 1 ≡ suc k = omega arith in
    subst (λ is. Taken takes_token first old is new)
    (ap (λ j. map item_of_source (map seen (take k ts)) ++ j ∷ []) e
    ∙ sym (ap (λ j. map item_of_source (map seen (take j ts))) n ∙ ap (λ us. map item_of_source (map seen us)) (take-suc ts k d l)
    ∙ ap (map item_of_source) (map-append seen (take k ts) (get_or ts k d ∷ [])) ∙ map-append item_of_source (map seen (take k ts)) (seen (get_or ts k d) ∷ [])))
    (taken-more first b old between new (map item_of_source (map seen (take k ts))) i h t)

---- the value of what was expanded

-- the value of the tokens of an expansion, and the meter after it
abbrev paid : HeaderSearch → Table → List Item × Meter → Result (CondValue × Meter) CondFault
paid search table r = value_of_items search table r.0 >>= λ v. Ok (cond_value v, r.1)

module _ (search : HeaderSearch) (table : Table) (old new : Operands) (start : (is : List Item) → outcome old is ≡ value_of_items search table is)
    (items : List Item) (taken : Taken takes_token true old items new) where
  value-is : (r : Result Value CondFault) → outcome new [] ≡ r → value_of_items search table items ≡ r
  value-is r e = sym (start items) ∙ ap (outcome old) (sym (append-nil items)) ∙ sym (taken-outcome true old new items [] taken) ∙ e

  pub condition-value : (left : Meter) (x : Result (List Item × Meter) ExpandFault) → x ≡ Ok (items, left) → (v : Value) → outcome new [] ≡ Ok v
      → (expanded x >>= paid search table) ≡ Ok (cond_value v, left)
  condition-value left x same v e = ap (λ y. expanded y >>= paid search table) same ∙ ap (λ y. y >>= λ v. Ok (cond_value v, left)) (value-is (Ok v) e)

  pub condition-fault : (left : Meter) (x : Result (List Item × Meter) ExpandFault) → x ≡ Ok (items, left) → (f : CondFault) → outcome new [] ≡ Err f
      → (expanded x >>= paid search table) ≡ Err f
  condition-fault left x same f e = ap (λ y. expanded y >>= paid search table) same ∙ ap (λ y. y >>= λ v. Ok (cond_value v, left)) (value-is (Err f) e)
