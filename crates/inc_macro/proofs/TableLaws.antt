-- What holds of the table before and after a definition, and before and after its removal.
use Rattle.std.proofs.Common.{◌≡◌, ◌≢◌, ℕ, Bool, true, false, cond, List, [], ◌∷◌, Option, Some, None, Result, Ok, Err, IfOk, is_some, bytes_eq, refl, sym, ap, ◌∙◌, subst, arith, ⊎_elim}
use Rattle.std.proofs.Math.Path.{fun_ext}
use Rattle.std.specs.Cmp.Lexicographic.{nat_list_eq_equiv}
use Rattle.std.proofs.lemmas.Bool.{cases_Bool, cond_both}
use Rattle.std.proofs.lemmas.Slice.Eq.{bytes_eq-Decides}
use Rattle.inc_text.specs.declared.languages.Language.{Language}
use Rattle.inc_text.specs.declared.languages.Language.TheVariants.{C17, Extended, Gnu}
use Rattle.inc_token.specs.TokenLines.{Tok}
use Rattle.inc_macro.specs.Macros.{BodyToken, Params, Variable, Definition, Table, after_first, define, definition_after, definition_in, name_at, or_fault, redefined, same_bool, same_body, same_definition, same_names, same_params, same_variables, undef, with_definition, with_new, with_other, without}
use Rattle.inc_macro.specs.NameLists.{signature_of}
use Rattle.inc_macro.specs.Results.{◌>>=◌}
use Rattle.inc_macro.specs.declared.faults.DefineFault.{DefineFault}
use Rattle.inc_macro.proofs.DefinitionSteps.{definition_after-is, with_body}
use Rattle.inc_macro.proofs.TableSteps.{same_table}

-- a definition is the same as itself

same_bool-refl : (b : Bool) → same_bool b b ≡ true
same_bool-refl true = refl
same_bool-refl false = refl

same_names-refl : (ns : List (List ℕ)) → same_names ns ns ≡ true
same_names-refl [] = refl
same_names-refl (n ∷ ns) = rw (nat_list_eq_equiv.refl n) (same_names-refl ns)

same_variables-refl : (o : Option Variable) → same_variables o o ≡ true
same_variables-refl None = refl
same_variables-refl (Some v) = nat_list_eq_equiv.refl v.name

same_params-refl : (o : Option Params) → same_params o o ≡ true
same_params-refl None = refl
same_params-refl (Some p) = rw (same_names-refl p.names) (same_variables-refl p.variable)

same_body-refl : (bs : List BodyToken) → same_body bs bs ≡ true
same_body-refl [] = refl
same_body-refl (b ∷ bs) = rw (nat_list_eq_equiv.refl b.spelling, same_bool-refl b.space) (same_body-refl bs)

same_definition-refl : (d : Definition) → same_definition d d ≡ true
same_definition-refl d = rw (same_params-refl d.params) (same_body-refl d.body)

-- a definition twice

-- the table of the same definition once more
abbrev again : Definition → Table → Result Table DefineFault
again d table = with_definition d table (table.find d.name)

again_new : (d : Definition) (table : Table) → again d (with_new d table) ≡ Ok (with_new d table)
again_new d table = rw (nat_list_eq_equiv.refl d.name) (rw (same_definition-refl d) refl)

again_other : (d : Definition) (table : Table) → again d (with_other d table) ≡ Ok (with_other d table)
again_other d table = rw (nat_list_eq_equiv.refl d.name) (rw (same_definition-refl d) refl)

module _ (given : Language → Result Definition DefineFault) (table : Table) (d : Definition) (is : given table.language ≡ Ok d) where
  -- the same tokens give the same definition in a table of this language
  abbrev Settled : Table → Type 0
  Settled after = (given after.language >>= (λ e. again e after)) ≡ Ok after

  given_again : (after : Table) → after.language ≡ table.language → again d after ≡ Ok after → Settled after
  given_again after spoken h = ap (λ l. given l >>= (λ e. again e after)) spoken ∙ ap (λ (r : Result Definition DefineFault). r >>= (λ e. again e after)) is ∙ h

  twice_other : (language : Language) → IfOk (redefined language d table) Settled
  twice_other C17 = tt
  twice_other Extended = tt
  twice_other Gnu = given_again (with_other d table) refl (again_other d table)

  twice_where : (o : Option Definition) → table.find d.name ≡ o → IfOk (with_definition d table o) Settled
  twice_where None finds = given_again (with_new d table) refl (again_new d table)
  twice_where (Some old) finds =
      cond_both (same_definition old d) (Ok table) (redefined table.language d table) (λ r. IfOk r Settled)
      (λ same. given_again table refl (ap (with_definition d table) finds ∙ rw same refl)) (λ _. twice_other table.language)

twice_of : (given : Language → Result Definition DefineFault) (table : Table) (r : Result Definition DefineFault) → given table.language ≡ r
    → IfOk (r >>= (λ d. again d table)) (λ after. (given after.language >>= (λ d. again d after)) ≡ Ok after)
twice_of given table (Err fault) is = tt
twice_of given table (Ok d) is = twice_where given table d is (table.find d.name) refl

pub twice : (ts : List Tok) (table : Table) → IfOk (define ts table) (λ after. define ts after ≡ Ok after)
twice ts table = twice_of (λ l. definition_in l ts) table (definition_in table.language ts) refl

-- the name of a definition

name_of_body : (language : Language) (name : List ℕ) (s : Result (Option Params × List Tok) DefineFault) (d : Definition) → (s >>= with_body language name) ≡ Ok d → d.name ≡ name
name_of_body language name (Err fault) d is = cc
name_of_body language name (Ok s) d is = name_of_fault _ _ is
  where
    name_of_fault : (e : Definition) (o : Option DefineFault) → or_fault e o ≡ Ok d → d.name ≡ e.name
    name_of_fault e None is' = let same : d ≡ e = cc in ap (λ (x : Definition). x.name) same
    name_of_fault e (Some fault) is' = cc

pub named : (language : Language) (ts : List Tok) (name : List ℕ) (d : Definition) → name_at language ts ≡ Ok name → definition_in language ts ≡ Ok d → d.name ≡ name
named language ts name d name_is is =
    name_of_body language name (signature_of language (after_first ts)) d
    (sym (definition_after-is language name (after_first ts)) ∙ ap (λ (r : Result (List ℕ) DefineFault). r >>= (λ n. definition_after language n (after_first ts))) (sym name_is) ∙ is)

pub differ : (other name : List ℕ) → other ≢ name → bytes_eq other name ≡ false
differ other name apart =
    ⊎_elim (λ (is : bytes_eq other name ≡ true). absurd (apart ((bytes_eq-Decides other name).0 is))) (λ (no' : bytes_eq other name ≡ false). no')
    (cases_Bool (bytes_eq other name))

-- other names

kept_other : (language : Language) (d : Definition) (table : Table) (other : List ℕ) → bytes_eq other d.name ≡ false
    → IfOk (redefined language d table) (λ after. after.find other ≡ table.find other)
kept_other C17 d table other apart = tt
kept_other Extended d table other apart = tt
kept_other Gnu d table other apart = rw apart refl

kept_where : (d : Definition) (table : Table) (other : List ℕ) (o : Option Definition) → bytes_eq other d.name ≡ false
    → IfOk (with_definition d table o) (λ after. after.find other ≡ table.find other)
kept_where d table other None apart = rw apart refl
kept_where d table other (Some old) apart =
    cond_both (same_definition old d) (Ok table) (redefined table.language d table) (λ r. IfOk r (λ after. after.find other ≡ table.find other)) (λ _. refl)
    (λ _. kept_other table.language d table other apart)

kept_of : (r : Result Definition DefineFault) (table : Table) (name other : List ℕ) → ((d : Definition) → r ≡ Ok d → d.name ≡ name) → other ≢ name
    → IfOk (r >>= (λ d. with_definition d table (table.find d.name))) (λ after. after.find other ≡ table.find other)
kept_of (Err fault) table name other named' apart = tt
kept_of (Ok d) table name other named' apart =
    kept_where d table other (table.find d.name) (differ other d.name (λ is. apart (is ∙ named' d refl)))

pub define_keeps : (ts : List Tok) (name other : List ℕ) (table : Table) → name_at table.language ts ≡ Ok name → other ≢ name
    → IfOk (define ts table) (λ after. after.find other ≡ table.find other)
define_keeps ts name other table is apart = kept_of (definition_in table.language ts) table name other (λ d. named table.language ts name d is) apart

without_keeps : (name other : List ℕ) (table : Table) (o : Option Definition) → other ≢ name → (without name table o).find other ≡ table.find other
without_keeps name other table None apart = refl
without_keeps name other table (Some d) apart = rw (differ other name apart) refl

pub undef_keeps : (ts : List Tok) (name other : List ℕ) (table : Table) → name_at table.language ts ≡ Ok name → other ≢ name
    → IfOk (undef ts table) (λ (r : Bool × Table). r.1.find other ≡ table.find other)
undef_keeps ts name other table is apart =
    subst (λ (n : Result (List ℕ) DefineFault). IfOk (n >>= (λ m. Ok (is_some (table.find m), without m table (table.find m)))) (λ (r : Bool × Table). r.1.find other ≡ table.find other))
    (sym is) (without_keeps name other table (table.find name) apart)

-- a new macro removed

removed_new : (d : Definition) (table : Table) (name : List ℕ) → d.name ≡ name → table.find name ≡ None
    → without name (with_new d table) (Some d) ≡ table
removed_new d table name is none =
    same_table _ _ _ _ _ _
    (fun_ext λ n.
    cond_both (bytes_eq n name) None (cond (bytes_eq n d.name) (Some d) (table.find n)) (λ o. o ≡ table.find n)
    (λ here. sym (ap table.find ((bytes_eq-Decides n name).0 here) ∙ none))
    (λ apart. rw (ap (bytes_eq n) is ∙ apart) refl))
    (omega arith)

undef_new : (us : List Tok) (name : List ℕ) (d : Definition) (table : Table) → name_at table.language us ≡ Ok name → d.name ≡ name → table.find name ≡ None
    → undef us (with_new d table) ≡ Ok (true, table)
undef_new us name d table us_is is none =
    let after : Table = with_new d table in
    let here : after.find name ≡ Some d = rw (ap (bytes_eq name) is ∙ nat_list_eq_equiv.refl name) refl in
    let answer : Option Definition → Result (Bool × Table) DefineFault = λ o. Ok (is_some o, without name after o) in
    ap (λ (n : Result (List ℕ) DefineFault). n >>= (λ m. Ok (is_some (after.find m), without m after (after.find m)))) us_is
    ∙ ap answer here ∙ ap (λ (t : Table). Ok (true, t)) (removed_new d table name is none)

undone_of : (r : Result Definition DefineFault) (us : List Tok) (name : List ℕ) (table : Table) → ((d : Definition) → r ≡ Ok d → d.name ≡ name)
    → name_at table.language us ≡ Ok name → table.find name ≡ None
    → IfOk (r >>= (λ d. with_definition d table (table.find d.name))) (λ after. undef us after ≡ Ok (true, table))
undone_of (Err fault) us name table named' us_is none = tt
undone_of (Ok d) us name table named' us_is none =
    let is = named' d refl in
    subst (λ o. IfOk (with_definition d table o) (λ after. undef us after ≡ Ok (true, table))) (sym (ap table.find is ∙ none)) (undef_new us name d table us_is is none)

pub undone : (ts us : List Tok) (name : List ℕ) (table : Table) → name_at table.language ts ≡ Ok name → name_at table.language us ≡ Ok name → table.find name ≡ None
    → IfOk (define ts table) (λ after. undef us after ≡ Ok (true, table))
undone ts us name table ts_is us_is none = undone_of (definition_in table.language ts) us name table (λ d. named table.language ts name d ts_is) us_is none
