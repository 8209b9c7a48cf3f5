-- A walk over the parts of a replacement, part by part.
use Rattle.std.proofs.Common.{◌≡◌, ℕ, zero, suc, ◌+◌, ◌<◌, ◌≤◌, Bool, true, false, List, [], ◌∷◌, ◌++◌, map, length, Option, Some, None, Result, Ok, Err, IfSome, option_map, option_to_list, refl, sym, ap, ap₂, subst, ◌∙◌, arith, append_assoc, take, drop, get_or}
use Rattle.std.proofs.Math.Path.{fun_ext}
use Rattle.std.proofs.lemmas.List.{append-nil, map-append, take-append-drop, drop_all}
use Rattle.inc_macro.specs.Results.{◌>>=◌}
use Rattle.inc_token.specs.declared.kinds.Kind.{Kind}
use Rattle.inc_expand.specs.declared.carried.Carried.{Carried}
use Rattle.inc_expand.specs.declared.faults.ExpandFault.{ExpandFault}
use Rattle.inc_expand.specs.declared.pastes.LeftSide.TheVariants.{Made}
use Rattle.inc_expand.specs.declared.pastes.Segment.{Segment}
use Rattle.inc_expand.specs.declared.rules.Rule.{Rule}
use Rattle.inc_expand.specs.Sets.{Sets, size, holds, Keeps}
use Rattle.inc_expand.specs.Expansion.{Carrier, Names, Part, Piece, as_part, operand, spaced, pasted, paste_from, tokens_of, made_kind, hidden_by_paste}
use Rattle.inc_expand.specs.Carriers.{carrier, carriers, AreKnown}
use Rattle.inc_expand.specs.Joins.{segment_tokens, tokens_in, before_of, put_before, IsOpened}
use Rattle.inc_expand.proofs.CallSteps.{known-append, drop-at}

---- tables that grow

pub same-carrier : (s u : Sets) → Keeps s u → (t : Carried) → t.set < size s → carrier u t ≡ carrier s t
same-carrier s u k t l = ap (λ (h : Names). record (carrier s t) { hidden = h }) (fun_ext λ n. k.same t.set l n)

pub same-carriers : (s u : Sets) → Keeps s u → (ts : List Carried) → AreKnown (size s) ts → carriers u ts ≡ carriers s ts
same-carriers s u k [] h = refl
same-carriers s u k (t ∷ ts) h = ap₂ (λ (c : Carrier) (cs : List Carrier). c ∷ cs) (same-carrier s u k t h.0) (same-carriers s u k ts h.1)

pub known-wider : (m n : ℕ) → m ≤ n → (ts : List Carried) → AreKnown m ts → AreKnown n ts
known-wider m n l [] h = tt
known-wider m n l (t ∷ ts) h = (let k = h.0 in omega (arith, l, k), known-wider m n l ts h.1)

pub keeps-more : (s u v : Sets) → Keeps s u → Keeps u v → Keeps s v
keeps-more s u v k l = record {
  more = omega (arith, k.more, l.more);
  same = λ set h name. l.same set (omega (arith, k.more, h)) name ∙ k.same set h name;
}

---- segments

pub tokens_in-append : (xs ys : List Segment) → tokens_in (xs ++ ys) ≡ tokens_in xs ++ tokens_in ys
tokens_in-append [] ys = refl
tokens_in-append (x ∷ xs) ys = ap (λ ts. segment_tokens x ++ ts) (tokens_in-append xs ys) ∙ sym (append_assoc (segment_tokens x) (tokens_in xs) (tokens_in ys))

pub tokens_in-push : (xs : List Segment) (x : Segment) → tokens_in (xs ++ x ∷ []) ≡ tokens_in xs ++ segment_tokens x
tokens_in-push xs x = tokens_in-append xs (x ∷ []) ∙ ap (λ ts. tokens_in xs ++ ts) (append-nil (segment_tokens x))

pub tokens_in-pushed : (xs ys : List Segment) (x : Segment) → ys ≡ xs ++ x ∷ [] → tokens_in ys ≡ tokens_in xs ++ segment_tokens x
tokens_in-pushed xs ys x e = ap tokens_in e ∙ tokens_in-push xs x

-- what was before the place is settled
pub settled : (s : Sets) (old new : List Carried) (last : Option Carried) (before : Option Carrier) → new ≡ old ++ option_to_list last →
    option_map (carrier s) last ≡ before → carriers s new ≡ carriers s old ++ tokens_of before
settled s old new last before e f =
    ap (carriers s) e ∙ map-append (carrier s) old (option_to_list last) ∙ ap (λ ts. carriers s old ++ ts) (by last ∙ ap tokens_of f)
  where
    by : (o : Option Carried) → carriers s (option_to_list o) ≡ tokens_of (option_map (carrier s) o)
    by None = refl
    by (Some t) = refl

pub settled-known : (n : ℕ) (old new : List Carried) (last : Option Carried) → new ≡ old ++ option_to_list last →
    AreKnown n old → IfSome last (λ t. t.set < n) → AreKnown n new
settled-known n old new last e h k = subst (AreKnown n) (sym e) (known-append n old (option_to_list last) h (by last k))
  where
    by : (o : Option Carried) → IfSome o (λ t. t.set < n) → AreKnown n (option_to_list o)
    by None k = tt
    by (Some t) k = (k, tt)

---- one `##`

pub pasted-made : (rule : Rule) (s u : Sets) (text : List ℕ) (before : Option Carrier) (p : ℕ × Bool) (b : Carrier) (kind : Kind) (set : ℕ) (new : List ℕ) →
    IsOpened s text before (Some p) → made_kind rule (text ++ b.spelling) ≡ Ok kind → new ≡ text ++ b.spelling →
    ((n : List ℕ) → holds u set n ≡ hidden_by_paste rule (holds s p.0) b.hidden n) →
    pasted rule before (Some b) ≡ Ok (before_of u new (Made set kind p.1))
pasted-made rule s u text None p b kind set new o m e h = absurd o
pasted-made rule s u text (Some a) p b kind set new o m e h =
    ap (λ t. (made_kind rule (t ++ b.spelling) >>= token t) >>= some) o.0 ∙ ap (λ r. (r >>= token text) >>= some) m
    ∙ ap₂ (λ (sp : Bool) (hid : Names). Ok (Some (record { kind = kind; spelling = text ++ b.spelling; line = 0; space = sp; hidden = hid }))) o.1.0
    (ap (λ x. hidden_by_paste rule x b.hidden) o.1.1 ∙ fun_ext (λ n. sym (h n)))
    ∙ ap (λ t. Ok (Some (record { kind = kind; spelling = t; line = 0; space = p.1; hidden = holds u set }))) (sym e)
  where
    token : List ℕ → Kind → Result Carrier ExpandFault
    token t k = Ok (record { kind = k; spelling = t ++ b.spelling; line = 0; space = a.space; hidden = hidden_by_paste rule a.hidden b.hidden })

    some : Carrier → Result (Option Carrier) ExpandFault
    some t = Ok (Some t)

pub pasted-fault : (rule : Rule) (s : Sets) (text : List ℕ) (before : Option Carrier) (p : ℕ × Bool) (b : Carrier) (fault : ExpandFault) →
    IsOpened s text before (Some p) → made_kind rule (text ++ b.spelling) ≡ Err fault → pasted rule before (Some b) ≡ Err fault
pasted-fault rule s text None p b fault o m = absurd o
pasted-fault rule s text (Some a) p b fault o m =
    ap (λ t. (made_kind rule (t ++ b.spelling) >>= token t) >>= some) o.0 ∙ ap (λ r. (r >>= token text) >>= some) m
  where
    token : List ℕ → Kind → Result Carrier ExpandFault
    token t k = Ok (record { kind = k; spelling = t ++ b.spelling; line = 0; space = a.space; hidden = hidden_by_paste rule a.hidden b.hidden })

    some : Carrier → Result (Option Carrier) ExpandFault
    some t = Ok (Some t)

pub pasted-nothing : (rule : Rule) (s : Sets) (text : List ℕ) (before : Option Carrier) (b : Carrier) → IsOpened s text before None → pasted rule before (Some b) ≡ Ok (Some b)
pasted-nothing rule s text None b o = refl
pasted-nothing rule s text (Some a) b o = absurd o

---- parts

-- a part that is settled first
pub passed-plain : (rule : Rule) (front new : List Carrier) (before q : Option Carrier) (parts : List Part) → new ≡ front ++ tokens_of before →
    put_before new (paste_from rule false q parts) ≡ put_before front (paste_from rule false before (Piece q ∷ parts))
passed-plain rule front new before q parts e = ap (λ ts. put_before ts (paste_from rule false q parts)) e ∙ by (paste_from rule false q parts)
  where
    by : (r : Result (List Carrier) ExpandFault) → put_before (front ++ tokens_of before) r ≡ put_before front (r >>= (λ ts. Ok (tokens_of before ++ ts)))
    by (Ok ts) = ap Ok (append_assoc front (tokens_of before) ts)
    by (Err fault) = refl

-- a part that is joined
pub passed-joined : (rule : Rule) (front new : List Carrier) (before q after : Option Carrier) (parts : List Part) → new ≡ front → pasted rule before q ≡ Ok after →
    put_before new (paste_from rule false after parts) ≡ put_before front (paste_from rule true before (Piece q ∷ parts))
passed-joined rule front new before q after parts e p =
    ap (λ ts. put_before ts (paste_from rule false after parts)) e ∙ ap (λ r. put_before front (r >>= (λ x. paste_from rule false x parts))) (sym p)

pub joined-fault : (rule : Rule) (front : List Carrier) (before q : Option Carrier) (parts : List Part) (fault : ExpandFault) → pasted rule before q ≡ Err fault →
    put_before front (paste_from rule true before (Piece q ∷ parts)) ≡ Err fault
joined-fault rule front before q parts fault p = ap (λ r. put_before front (r >>= (λ x. paste_from rule false x parts))) p

pub pasted-none : (rule : Rule) (before : Option Carrier) → pasted rule before None ≡ Ok before
pasted-none rule None = refl
pasted-none rule (Some a) = refl

-- tokens that are settled one after the other
pub passed-run : (rule : Rule) (front : List Carrier) (before : Option Carrier) (ts : List Carrier) (u : Carrier) (parts : List Part) →
    put_before ((front ++ tokens_of before) ++ ts) (paste_from rule false (Some u) parts) ≡ put_before front (paste_from rule false before (map as_part (ts ++ u ∷ []) ++ parts))
passed-run rule front before [] u parts =
    ap (λ f. put_before f (paste_from rule false (Some u) parts)) (append-nil (front ++ tokens_of before)) ∙ passed-plain rule front (front ++ tokens_of before) before (Some u) parts refl
passed-run rule front before (t ∷ ts) u parts =
    ap (λ f. put_before f (paste_from rule false (Some u) parts)) (sym (append_assoc (front ++ tokens_of before) (t ∷ []) ts))
    ∙ passed-run rule (front ++ tokens_of before) (Some t) ts u parts
    ∙ passed-plain rule front (front ++ tokens_of before) before (Some t) (map as_part (ts ++ u ∷ []) ++ parts) refl

---- the same at the joiner's fields

pub joined-at : (rule r : Rule) (j k : Bool) (front new : List Carrier) (before q after : Option Carrier) (parts : List Part) → r ≡ rule → j ≡ false → k ≡ true → new ≡ front →
    pasted rule before q ≡ Ok after → put_before new (paste_from r j after parts) ≡ put_before front (paste_from rule k before (Piece q ∷ parts))
joined-at rule r j k front new before q after parts w x y e p =
    ap (λ z. put_before new (paste_from z j after parts)) w
    ∙ ap (λ b. put_before new (paste_from rule b after parts)) x ∙ passed-joined rule front new before q after parts e p ∙ ap (λ b. put_before front (paste_from rule b before (Piece q ∷ parts))) (sym y)

pub joined-fault-at : (rule : Rule) (k : Bool) (front : List Carrier) (before q : Option Carrier) (parts : List Part) (fault : ExpandFault) → k ≡ true → pasted rule before q ≡ Err fault →
    put_before front (paste_from rule k before (Piece q ∷ parts)) ≡ Err fault
joined-fault-at rule k front before q parts fault y p =
    ap (λ b. put_before front (paste_from rule b before (Piece q ∷ parts))) y ∙ joined-fault rule front before q parts fault p

pub plain-at : (rule r : Rule) (j k : Bool) (front new : List Carrier) (before q after : Option Carrier) (parts : List Part) → r ≡ rule → j ≡ k → k ≡ false → new ≡ front ++ tokens_of before →
    after ≡ q → put_before new (paste_from r j after parts) ≡ put_before front (paste_from rule k before (Piece q ∷ parts))
plain-at rule r j k front new before q after parts w x y e f =
    ap (λ z. put_before new (paste_from z j after parts)) w
    ∙ ap (λ b. put_before new (paste_from rule b after parts)) (x ∙ y) ∙ ap (λ a. put_before new (paste_from rule false a parts)) f
    ∙ passed-plain rule front new before q parts e ∙ ap (λ b. put_before front (paste_from rule b before (Piece q ∷ parts))) (sym y)

-- a list is its front and its last token
pub last-split : {A : Type 0} (ts : List A) (n : ℕ) (d : A) → length ts ≡ n + 1 → ts ≡ take n ts ++ get_or ts n d ∷ []
last-split ts n d l =
    sym (take-append-drop n ts) ∙ ap (λ us. take n ts ++ us) (drop-at ts n d (omega (arith, l)) ∙ ap (λ us. get_or ts n d ∷ us) (drop_all (n + 1) ts (omega (arith, l))))

pub run-at : (rule r : Rule) (s : Sets) (j k : Bool) (new front done : List Carried) (before : Option Carrier) (all : List Carried) (n : ℕ) (d : Carried) (parts : List Part) → r ≡ rule → j ≡ k → k ≡ false →
    new ≡ front ++ take n all → carriers s front ≡ carriers s done ++ tokens_of before → length all ≡ n + 1 →
    put_before (carriers s new) (paste_from r j (Some (carrier s (get_or all n d))) parts)
    ≡ put_before (carriers s done) (paste_from rule k before (map as_part (carriers s all) ++ parts))
run-at rule r s j k new front done before all n d parts v x y w e l =
    ap (λ z. put_before (carriers s new) (paste_from z j (Some (carrier s (get_or all n d))) parts)) v
    ∙ ap (λ b. put_before (carriers s new) (paste_from rule b (Some (carrier s (get_or all n d))) parts)) (x ∙ y)
    ∙ ap (λ ts. put_before ts (paste_from rule false (Some (carrier s (get_or all n d))) parts)) (ap (carriers s) w ∙ map-append (carrier s) front (take n all) ∙ ap (λ ts. ts ++ carriers s (take n all)) e)
    ∙ passed-run rule (carriers s done) before (carriers s (take n all)) (carrier s (get_or all n d)) parts
    ∙ ap (λ ts. put_before (carriers s done) (paste_from rule false before (map as_part ts ++ parts))) (sym (ap (carriers s) (last-split all n d l) ∙ map-append (carrier s) (take n all) (get_or all n d ∷ [])))
    ∙ ap (λ b. put_before (carriers s done) (paste_from rule b before (map as_part (carriers s all) ++ parts))) (sym y)

pub known-take : (n k : ℕ) (ts : List Carried) → AreKnown n ts → AreKnown n (take k ts)
known-take n zero ts h = tt
known-take n (suc k) [] h = tt
known-take n (suc k) (t ∷ ts) h = (h.0, known-take n k ts h.1)

pub known-drop : (n k : ℕ) (ts : List Carried) → AreKnown n ts → AreKnown n (drop k ts)
known-drop n zero ts h = h
known-drop n (suc k) [] h = tt
known-drop n (suc k) (t ∷ ts) h = known-drop n k ts h.1

pub known-at : (n k : ℕ) (d : Carried) (ts : List Carried) → k < length ts → AreKnown n ts → (get_or ts k d).set < n
known-at n k d [] l h = absurd (omega arith)
known-at n zero d (t ∷ ts) l h = h.0
known-at n (suc k) d (t ∷ ts) l h = known-at n k d ts (omega (arith, l)) h.1

-- an argument is its first token, spaced as its parameter, and the others
pub argument-parts : (s u : Sets) → Keeps s u → (ts rest : List Carried) (d : Carried) (space : Bool) (parts : List Part) → 0 < length ts → AreKnown (size s) ts →
    rest ≡ drop 1 ts →
    as_part (carrier s (record (get_or ts 0 d) { space = space })) ∷ (map as_part (carriers u rest) ++ parts) ≡ map as_part (spaced space (carriers s ts)) ++ parts
argument-parts s u k [] rest d space parts l h e = absurd (omega arith)
argument-parts s u k (t ∷ ts) rest d space parts l h e =
    ap (λ us. as_part (carrier s (record t { space = space })) ∷ (map as_part us ++ parts)) (ap (carriers u) e ∙ same-carriers s u k ts h.1)

pub operand-some : (s : Sets) (space : Bool) (ts : List Carried) → 0 < length ts →
    operand (spaced space (carriers s ts)) ≡ map as_part (spaced space (carriers s ts))
operand-some s space [] l = absurd (omega arith)
operand-some s space (t ∷ ts) l = refl

-- all tokens after an argument, where its first token and then the others are passed
pub argument-rest : (s u : Sets) → Keeps s u → (ts rest : List Carried) (d : Carried) (space : Bool) (before_all after_first : List Part → Result (List Carrier) ExpandFault)
    (after : Result (List Carrier) ExpandFault) (parts : List Part) → 0 < length ts → AreKnown (size s) ts → rest ≡ drop 1 ts →
    ((ps : List Part) → after_first ps ≡ before_all (as_part (carrier s (record (get_or ts 0 d) { space = space })) ∷ ps)) →
    after ≡ after_first (map as_part (carriers u rest) ++ parts) → after ≡ before_all (map as_part (spaced space (carriers s ts)) ++ parts)
argument-rest s u k ts rest d space before_all after_first after parts l h e first others =
    others ∙ first (map as_part (carriers u rest) ++ parts) ∙ ap before_all (argument-parts s u k ts rest d space parts l h e)

---- the same with the token that was read at a place

pub run-with : (rule r : Rule) (s : Sets) (j k : Bool) (new front done : List Carried) (before : Option Carrier) (all : List Carried) (n : ℕ) (t : Carried) (parts : List Part) → r ≡ rule → j ≡ k → k ≡ false →
    new ≡ front ++ take n all → carriers s front ≡ carriers s done ++ tokens_of before → length all ≡ n + 1 → get_or all n t ≡ t →
    put_before (carriers s new) (paste_from r j (Some (carrier s t)) parts)
    ≡ put_before (carriers s done) (paste_from rule k before (map as_part (carriers s all) ++ parts))
run-with rule r s j k new front done before all n t parts v x y w e l there =
    ap (λ u. put_before (carriers s new) (paste_from r j (Some (carrier s u)) parts)) (sym there) ∙ run-at rule r s j k new front done before all n t parts v x y w e l

pub known-with : (n k : ℕ) (t : Carried) (ts : List Carried) → k < length ts → get_or ts k t ≡ t → AreKnown n ts → t.set < n
known-with n k t ts l there h = subst (λ (u : Carried). u.set < n) there (known-at n k t ts l h)

pub argument-parts-with : (s u : Sets) → Keeps s u → (ts rest : List Carried) (t : Carried) (space : Bool) (parts : List Part) → 0 < length ts → AreKnown (size s) ts →
    rest ≡ drop 1 ts → get_or ts 0 t ≡ t →
    as_part (carrier s (record t { space = space })) ∷ (map as_part (carriers u rest) ++ parts) ≡ map as_part (spaced space (carriers s ts)) ++ parts
argument-parts-with s u k ts rest t space parts l h e there =
    ap (λ (v : Carried). as_part (carrier s (record v { space = space })) ∷ (map as_part (carriers u rest) ++ parts)) (sym there)
    ∙ argument-parts s u k ts rest t space parts l h e

pub argument-rest-with : (s u : Sets) → Keeps s u → (ts rest : List Carried) (t : Carried) (space : Bool) (before_all after_first : List Part → Result (List Carrier) ExpandFault)
    (after : Result (List Carrier) ExpandFault) (parts : List Part) → 0 < length ts → AreKnown (size s) ts → rest ≡ drop 1 ts → get_or ts 0 t ≡ t →
    ((ps : List Part) → after_first ps ≡ before_all (as_part (carrier s (record t { space = space })) ∷ ps)) →
    after ≡ after_first (map as_part (carriers u rest) ++ parts) → after ≡ before_all (map as_part (spaced space (carriers s ts)) ++ parts)
argument-rest-with s u k ts rest t space before_all after_first after parts l h e there first others =
    argument-rest s u k ts rest t space before_all after_first after parts l h e
    (λ ps. first ps ∙ ap (λ (v : Carried). before_all (as_part (carrier s (record v { space = space })) ∷ ps)) (sym there)) others
