-- The lists of parameters that are read name by name are the good ones of the definition.
use Rattle.std.proofs.Common.{◌≡◌, ℕ, ◌&&◌, ◌||◌, not, Bool, true, false, List, [], ◌∷◌, ◌++◌, Option, Some, None, option_map, drop, refl, sym, ap, ◌∙◌, cond, subst, codes, bytes_eq, append_assoc, ⊎_elim}
use Rattle.std.specs.Bool.{if◌then◌else◌}
use Rattle.std.specs.Cmp.Lexicographic.{nat_list_eq_equiv}
use Rattle.std.proofs.lemmas.Bool.{cases_Bool}
use Rattle.std.proofs.lemmas.List.{append-nil}
use Rattle.inc_token.specs.TokenLines.{Tok}
use Rattle.inc_text.specs.declared.languages.Language.{Language}
use Rattle.inc_macro.specs.Macros.{Params, Variable, are_good, is_among, is_distinct, are_good_names, is_dots, is_identifier_kind, is_other, is_spelled, named, named_last, parameters, parameter_list, stands_first, unnamed, with_name, va_args}
use Rattle.inc_macro.specs.NameLists.{named_with, names_from, names_in}

or_assoc : (a b c : Bool) → ((a || b) || c) ≡ (a || (b || c))
or_assoc true b c = refl
or_assoc false b c = refl

pub is_among-append : (n : List ℕ) (xs ys : List (List ℕ)) → is_among n (xs ++ ys) ≡ (is_among n xs || is_among n ys)
is_among-append n [] ys = refl
is_among-append n (x ∷ xs) ys = ap (λ t. bytes_eq n x || t) (is_among-append n xs ys) ∙ sym (or_assoc (bytes_eq n x) (is_among n xs) (is_among n ys))

one_more : (a b d e : Bool) → (not (a || (b || false)) && (d && not e)) ≡ ((not a && d) && not (b || e))
one_more true b d e = refl
one_more false true true e = refl
one_more false true false e = refl
one_more false false d e = refl

is_distinct-snoc : (xs : List (List ℕ)) (n : List ℕ) → is_distinct (xs ++ n ∷ []) ≡ (is_distinct xs && not (is_among n xs))
is_distinct-snoc [] n = refl
is_distinct-snoc (x ∷ xs) n =
    ap (λ t. not t && is_distinct (xs ++ n ∷ [])) (is_among-append x xs (n ∷ []))
    ∙ ap (λ t. not (is_among x xs || (bytes_eq x n || false)) && t) (is_distinct-snoc xs n)
    ∙ one_more (is_among x xs) (bytes_eq x n) (is_distinct xs) (is_among n xs)
    ∙ ap (λ t. (not (is_among x xs) && is_distinct xs) && not (t || is_among n xs)) (nat_list_eq_equiv.symm x n)

is_distinct-prefix : (xs ys : List (List ℕ)) → is_distinct xs ≡ false → is_distinct (xs ++ ys) ≡ false
is_distinct-prefix [] ys h = cc
is_distinct-prefix (x ∷ xs) ys h =
    ap (λ t. not t && is_distinct (xs ++ ys)) (is_among-append x xs ys) ∙ by (is_among x xs) (is_among x ys) h (is_distinct-prefix xs ys)
  where
    by : (a b : Bool) → (not a && is_distinct xs) ≡ false → (is_distinct xs ≡ false → is_distinct (xs ++ ys) ≡ false)
        → (not (a || b) && is_distinct (xs ++ ys)) ≡ false
    by true b h' rest = refl
    by false true h' rest = refl
    by false false h' rest = rest h'

-- one more name
new_good : (d v n e : Bool) → (d && not v) ≡ true → ((d && not e) && not (v || (n || false))) ≡ (not n && not e)
new_good true true n e h = cc
new_good true false true true h = refl
new_good true false true false h = refl
new_good true false false true h = refl
new_good true false false false h = refl
new_good false v n e h = cc

good-snoc : (done : List (List ℕ)) (n : List ℕ) → are_good_names done ≡ true → are_good_names (done ++ n ∷ []) ≡ (not (bytes_eq n va_args) && not (is_among n done))
good-snoc done n good =
    ap (λ t. t && not (is_among va_args (done ++ n ∷ []))) (is_distinct-snoc done n)
    ∙ ap (λ t. (is_distinct done && not (is_among n done)) && not t) (is_among-append va_args done (n ∷ []))
    ∙ new_good (is_distinct done) (is_among va_args done) (bytes_eq va_args n) (is_among n done) good
    ∙ ap (λ t. not t && not (is_among n done)) (nat_list_eq_equiv.symm va_args n)

good-prefix : (xs ys : List (List ℕ)) → are_good_names xs ≡ false → are_good_names (xs ++ ys) ≡ false
good-prefix xs ys bad =
    ⊎_elim
    (λ (distinct : is_distinct xs ≡ true).
    let holds : not (is_among va_args xs) ≡ false = rw distinct at bad in
    ap (λ t. is_distinct (xs ++ ys) && not t) (is_among-append va_args xs ys) ∙ lost (is_distinct (xs ++ ys)) (is_among va_args xs) (is_among va_args ys) holds)
    (λ (twice : is_distinct xs ≡ false). rw (is_distinct-prefix xs ys twice) refl)
    (cases_Bool (is_distinct xs))
  where
    lost : (d a b : Bool) → not a ≡ false → (d && not (a || b)) ≡ false
    lost true true b h = refl
    lost false true b h = refl
    lost d false b h = cc

-- the parameters, if their names are good
abbrev pub good : Option (Params × List Tok) → Option (Params × List Tok)
good None = None
good (Some x) = cond (are_good x.0) (Some x) None

-- these names before the parameters
abbrev with_names : List (List ℕ) → Params × List Tok → Params × List Tok
with_names done x = (record { names = done ++ x.0.names; variable = x.0.variable }, x.1)

-- what is not good without regard to the variable arguments is not good
not_good : (p : Params) → are_good_names p.names ≡ false → are_good p ≡ false
not_good p bad = ap (λ t. t && is_other p.variable p.names) bad

-- names that are good, and variable arguments that are called otherwise
all_good : (p : Params) → are_good_names p.names ≡ true → is_other p.variable p.names ≡ true → are_good p ≡ true
all_good p is other = ap (λ t. t && is_other p.variable p.names) is ∙ other

-- a list that goes on after a name that may not be in it
bad_rest : (done : List (List ℕ)) (n : List ℕ) (o : Option (Params × List Tok)) → are_good_names (done ++ n ∷ []) ≡ false
    → good (option_map (with_names done) (option_map (with_name n) o)) ≡ None
bad_rest done n None bad = refl
bad_rest done n (Some x) bad =
    let more : are_good_names ((done ++ n ∷ []) ++ x.0.names) ≡ false = good-prefix (done ++ n ∷ []) x.0.names bad in
    let whole : are_good_names (done ++ n ∷ x.0.names) ≡ false = subst (λ ns. are_good_names ns ≡ false) (append_assoc done (n ∷ []) x.0.names) more in
    let all : Params = record { names = done ++ n ∷ x.0.names; variable = x.0.variable } in
    ap (λ t. cond t (Some (all, x.1)) None) (not_good all whole)

-- and one that goes on after a good name
good_rest : (done : List (List ℕ)) (n : List ℕ) (o : Option (Params × List Tok))
    → good (option_map (with_names (done ++ n ∷ [])) o) ≡ good (option_map (with_names done) (option_map (with_name n) o))
good_rest done n None = refl
good_rest done n (Some x) =
    let shown : List (List ℕ) → Option (Params × List Tok) = λ ns. good (Some (record { names = ns; variable = x.0.variable }, x.1)) in
    ap shown (append_assoc done (n ∷ []) x.0.names)

-- names alone
good_alone : (done : List (List ℕ)) (rest : List Tok) → are_good_names done ≡ true → good (Some (record { names = done; variable = None }, rest)) ≡ Some (record { names = done; variable = None }, rest)
good_alone done rest is = let p : Params = record { names = done; variable = None } in ap (λ t. cond t (Some (p, rest)) None) (all_good p is refl)

bad_alone : (done : List (List ℕ)) (rest : List Tok) → are_good_names done ≡ false → good (Some (record { names = done; variable = None }, rest)) ≡ None
bad_alone done rest bad = let p : Params = record { names = done; variable = None } in ap (λ t. cond t (Some (p, rest)) None) (not_good p bad)

-- names and variable arguments
good_with : (done : List (List ℕ)) (v : Variable) (rest : List Tok) → are_good_names done ≡ true
    → good (Some (record { names = done; variable = Some v }, rest)) ≡ cond (not (is_among v.name done)) (Some (record { names = done; variable = Some v }, rest)) None
good_with done v rest is =
    let p : Params = record { names = done; variable = Some v } in ap (λ t. cond (t && not (is_among v.name done)) (Some (p, rest)) None) is

-- `__VA_ARGS__` is among no good names
no_va_args : (done : List (List ℕ)) → are_good_names done ≡ true → not (is_among va_args done) ≡ true
no_va_args done is = second (is_distinct done) (not (is_among va_args done)) is
  where
    second : (a b : Bool) → (a && b) ≡ true → b ≡ true
    second true b h = h
    second false b h = cc

-- a list that ends in `...`
dots_end : (language : Language) (done : List (List ℕ)) (rest : List Tok) → are_good_names done ≡ true
    → Some (record { names = done; variable = Some (unnamed language) }, rest) ≡ good (option_map (with_names done) (Some (record { names = []; variable = Some (unnamed language) }, rest)))
dots_end language done rest is =
    let shown : List (List ℕ) → Option (Params × List Tok) = λ ns. good (Some (record { names = ns; variable = Some (unnamed language) }, rest)) in
    sym (ap shown (append-nil done) ∙ good_with done (unnamed language) rest is
    ∙ ap (λ t. cond t (Some (record { names = done; variable = Some (unnamed language) }, rest)) None) (no_va_args done is))

-- a list that ends in a name with a `...` after it
name_end : (done : List (List ℕ)) (t : Tok) (rest : List Tok) → are_good_names done ≡ true
    → named_with done t (stands_first (codes ")") rest) (drop 1 rest) ≡ good (option_map (with_names done) (named_last t rest))
name_end done t rest is =
    let shown : List (List ℕ) → Option (Params × List Tok) = λ ns. good (Some (record { names = ns; variable = Some (named t.spelling) }, drop 1 rest)) in
    by (is_identifier_kind t.kind) (not (bytes_eq t.spelling va_args)) (is_among t.spelling done) (stands_first (codes ")") rest)
    (ap shown (append-nil done) ∙ good_with done (named t.spelling) (drop 1 rest) is)
  where
    whole : List (List ℕ) → Option (Params × List Tok)
    whole ns = Some (record { names = ns; variable = Some (named t.spelling) }, drop 1 rest)

    by : (a b e d : Bool) → good (whole (done ++ [])) ≡ cond (not e) (whole done) None
        → (if (a && (b && not e)) && d then whole done else None) ≡ good (option_map (with_names done) (if (a && b) && d then whole [] else None))
    by true true true true h = sym h
    by true true false true h = sym h
    by true true true false h = refl
    by true true false false h = refl
    by true false e d h = refl
    by false b e d h = refl

names_from-good : (language : Language) (done : List (List ℕ)) (ts : List Tok) → are_good_names done ≡ true
    → names_from language done ts ≡ good (option_map (with_names done) (parameters language ts))
names_from-good language done [] is = refl
names_from-good language done (t ∷ []) is = refl
names_from-good language done (t ∷ u ∷ rest) is =
    ⊎_elim (λ (dots : is_spelled (codes "...") t ≡ true).
    ⊎_elim (λ (closes : is_spelled (codes ")") u ≡ true). rw (dots, closes) (dots_end language done rest is))
    (λ (more : is_spelled (codes ")") u ≡ false). rw (dots, more) refl)
    (cases_Bool (is_spelled (codes ")") u)))
    (λ (plain : is_spelled (codes "...") t ≡ false).
    ⊎_elim (λ (own : is_dots language u ≡ true). rw (plain, own) (name_end done t rest is))
    (λ (other : is_dots language u ≡ false).
    ⊎_elim (λ (name : is_identifier_kind t.kind ≡ true).
    among plain other name (good-snoc done t.spelling is) (not (bytes_eq t.spelling va_args) && not (is_among t.spelling done)) refl
    (λ fresh. names_from-good language (done ++ t.spelling ∷ []) rest (good-snoc done t.spelling is ∙ fresh)))
    (λ (none : is_identifier_kind t.kind ≡ false). rw (plain, other, none) refl)
    (cases_Bool (is_identifier_kind t.kind)))
    (cases_Bool (is_dots language u)))
    (cases_Bool (is_spelled (codes "...") t))
  where
    among : is_spelled (codes "...") t ≡ false → is_dots language u ≡ false → is_identifier_kind t.kind ≡ true
        → are_good_names (done ++ t.spelling ∷ []) ≡ (not (bytes_eq t.spelling va_args) && not (is_among t.spelling done))
        → (fresh : Bool) → (not (bytes_eq t.spelling va_args) && not (is_among t.spelling done)) ≡ fresh
        → ((not (bytes_eq t.spelling va_args) && not (is_among t.spelling done)) ≡ true
        → names_from language (done ++ t.spelling ∷ []) rest ≡ good (option_map (with_names (done ++ t.spelling ∷ [])) (parameters language rest)))
        → names_from language done (t ∷ u ∷ rest) ≡ good (option_map (with_names done) (parameters language (t ∷ u ∷ rest)))
    among plain other name snoc true fresh later =
        ⊎_elim (λ (closes : is_spelled (codes ")") u ≡ true). rw (plain, other, name, fresh, closes) (sym (good_alone (done ++ t.spelling ∷ []) rest (snoc ∙ fresh))))
        (λ (more : is_spelled (codes ")") u ≡ false).
        ⊎_elim (λ (comma : is_spelled (codes ",") u ≡ true).
        rw (plain, other, name, fresh, more, comma) (later fresh ∙ good_rest done t.spelling (parameters language rest)))
        (λ (none : is_spelled (codes ",") u ≡ false). rw (plain, other, name, fresh, more, none) refl)
        (cases_Bool (is_spelled (codes ",") u)))
        (cases_Bool (is_spelled (codes ")") u))
    among plain other name snoc false stale later =
        ⊎_elim (λ (closes : is_spelled (codes ")") u ≡ true). rw (plain, other, name, stale, closes) (sym (bad_alone (done ++ t.spelling ∷ []) rest (snoc ∙ stale))))
        (λ (more : is_spelled (codes ")") u ≡ false).
        ⊎_elim (λ (comma : is_spelled (codes ",") u ≡ true).
        rw (plain, other, name, stale, more, comma) (sym (bad_rest done t.spelling (parameters language rest) (snoc ∙ stale))))
        (λ (none : is_spelled (codes ",") u ≡ false). rw (plain, other, name, stale, more, none) refl)
        (cases_Bool (is_spelled (codes ",") u)))
        (cases_Bool (is_spelled (codes ")") u))

with_none : (o : Option (Params × List Tok)) → option_map (with_names []) o ≡ o
with_none None = refl
with_none (Some x) = refl

-- the lists that are read are those of the definition whose names are good
pub names_in-good : (language : Language) (ts : List Tok) → names_in language ts ≡ good (parameter_list language ts)
names_in-good language [] = refl
names_in-good language (t ∷ rest) =
    ⊎_elim (λ (closes : is_spelled (codes ")") t ≡ true). rw closes refl)
    (λ (more : is_spelled (codes ")") t ≡ false). rw more (names_from-good language [] (t ∷ rest) refl ∙ ap good (with_none (parameters language (t ∷ rest)))))
    (cases_Bool (is_spelled (codes ")") t))
