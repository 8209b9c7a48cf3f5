-- The table in which something is put aside, or something that was put aside is back.
use Rattle.std.proofs.Common.{◌≡◌, ◌≢◌, ℕ, Bool, true, false, refl, sym, ap, ◌∙◌, ◌++◌, cond, List, [], ◌∷◌, Option, Some, None, bytes_eq, is_some}
use Rattle.std.specs.Prelude.{reverse}
use Rattle.std.proofs.Math.Path.{fun_ext}
use Rattle.std.specs.Cmp.Lexicographic.{nat_list_eq_equiv}
use Rattle.std.proofs.lemmas.List.{reverse-append}
use Rattle.std.proofs.lemmas.Slice.Eq.{bytes_eq-Decides}
use Rattle.inc_text.specs.declared.languages.Language.{Language}
use Rattle.inc_macro.specs.Macros.{Definition, Table, pop_macro, popped, push_macro, with_found, with_new, with_other, without}
use Rattle.inc_macro.specs.Tables.{Entries, Stacks, found, stack_of}
use Rattle.inc_macro.proofs.TableLaws.{differ}
use Rattle.inc_macro.proofs.TableSteps.{same_table, table_in}

same_aside : (l : Language) (f : List ℕ → Option Definition) (n : ℕ) (a b : List ℕ → List (Option Definition)) → a ≡ b
    → ◌≡◌ {A = Table} (record { language = l; find = f; size = n; aside = a }) (record { language = l; find = f; size = n; aside = b })
same_aside l f n a b same =
    let by_aside : (List ℕ → List (Option Definition)) → Table = λ c. record { language = l; find = f; size = n; aside = c } in
    ap by_aside same

module _ (l : Language) (entries : Entries) (old new : Stacks) (name : List ℕ) where
  ---- one more put aside

  pub pushed : (o : Option Definition) → o ≡ found entries name
      → ((other : List ℕ) → stack_of new other ≡ cond (bytes_eq name other) (stack_of old name ++ o ∷ []) (stack_of old other))
      → push_macro name (table_in l old entries) ≡ table_in l new entries
  pushed o is stacks =
      same_aside _ _ _ _ _
      (fun_ext λ n.
      ap (λ d. cond (bytes_eq n name) (d ∷ reverse (stack_of old name)) (reverse (stack_of old n))) (sym is)
      ∙ ap (λ b. cond b (o ∷ reverse (stack_of old name)) (reverse (stack_of old n))) (nat_list_eq_equiv.symm n name)
      ∙ by (bytes_eq name n) (stack_of old n) ∙ ap reverse (sym (stacks n)))
    where
      by : (b : Bool) (other : List (Option Definition)) → cond b (o ∷ reverse (stack_of old name)) (reverse other) ≡ reverse (cond b (stack_of old name ++ o ∷ []) other)
      by true other = sym (reverse-append (stack_of old name) (o ∷ []))
      by false other = refl

  ---- the last taken back

  -- what is left
  module _ (others : (other : List ℕ) → bytes_eq name other ≡ false → stack_of new other ≡ stack_of old other) where
    left : (n : List ℕ) → cond (bytes_eq n name) (reverse (stack_of new name)) (reverse (stack_of old n)) ≡ reverse (stack_of new n)
    left n = ap (λ b. cond b (reverse (stack_of new name)) (reverse (stack_of old n))) (nat_list_eq_equiv.symm n name) ∙ by (bytes_eq name n) refl
      where
        by : (b : Bool) → bytes_eq name n ≡ b → cond b (reverse (stack_of new name)) (reverse (stack_of old n)) ≡ reverse (stack_of new n)
        by true same = ap (λ m. reverse (stack_of new m)) ((bytes_eq-Decides name n).0 same)
        by false apart = sym (ap reverse (others n apart))

    pub popped-one : (o : Option Definition) → stack_of old name ≡ stack_of new name ++ o ∷ []
        → pop_macro name (table_in l old entries) ≡ with_found name o (table_in l new entries)
    popped-one o is =
        ap (λ os. popped name os (table_in l old entries)) (ap reverse is ∙ reverse-append (stack_of new name) (o ∷ []))
        ∙ same_aside _ _ _ _ _ (fun_ext left)

    pub popped-none : stack_of old name ≡ [] → stack_of new name ≡ [] → pop_macro name (table_in l old entries) ≡ table_in l new entries
    popped-none none none' =
        ap (λ os. popped name os (table_in l old entries)) (ap reverse none)
        ∙ same_aside _ _ _ _ _ (fun_ext λ n. by n (bytes_eq name n) refl)
      where
        by : (n : List ℕ) (b : Bool) → bytes_eq name n ≡ b → reverse (stack_of old n) ≡ reverse (stack_of new n)
        by n true same = let here = (bytes_eq-Decides name n).0 same in ap reverse (ap (stack_of old) (sym here) ∙ none ∙ sym none' ∙ ap (stack_of new) here)
        by n false apart = ap reverse (sym (others n apart))

---- a definition, or none

pub found-none : (name : List ℕ) (table : Table) → with_found name None table ≡ without name table (table.find name)
found-none name table = by (table.find name) refl
  where
    nothing : Option Definition
    nothing = None

    by : (o : Option Definition) → table.find name ≡ o → with_found name None table ≡ without name table o
    by (Some d) is = rw is refl
    by None is =
        rw is (same_table _ _ _ _ _ _ (fun_ext λ n. at n (bytes_eq n name) refl) refl)
      where
        at : (n : List ℕ) (b : Bool) → bytes_eq n name ≡ b → cond b nothing (table.find n) ≡ table.find n
        at n true same = sym (ap table.find ((bytes_eq-Decides n name).0 same) ∙ is)
        at n false apart = refl

pub found-new : (d : Definition) (table : Table) → table.find d.name ≡ None → with_found d.name (Some d) table ≡ with_new d table
found-new d table none = rw none refl

pub found-some : (d : Definition) (table : Table) → is_some (table.find d.name) ≡ true → with_found d.name (Some d) table ≡ with_other d table
found-some d table some = by (table.find d.name) refl some
  where
    by : (o : Option Definition) → table.find d.name ≡ o → is_some o ≡ true → with_found d.name (Some d) table ≡ with_other d table
    by None is some' = cc
    by (Some old) is some' = rw is refl

---- what a name has after it

pub taken-back : (name : List ℕ) (table after : Table) → after.aside ≡ (push_macro name table).aside
    → ((pop_macro name after).find name ≡ table.find name) × ((pop_macro name after).aside name ≡ table.aside name)
taken-back name table after is =
    let here : bytes_eq name name ≡ true = nat_list_eq_equiv.refl name in
    let stack : after.aside name ≡ table.find name ∷ table.aside name =
    ap (λ (a : List ℕ → List (Option Definition)). a name) is ∙ ap (λ b. cond b (table.find name ∷ table.aside name) (table.aside name)) here in (
      ap (λ os. (popped name os after).find name) stack ∙ ap (λ b. cond b (table.find name) (after.find name)) here,
      ap (λ os. (popped name os after).aside name) stack ∙ ap (λ b. cond b (table.aside name) (after.aside name)) here,
    )

pub pushed-others : (name other : List ℕ) (table : Table) → other ≢ name → (push_macro name table).aside other ≡ table.aside other
pushed-others name other table apart = ap (λ b. cond b (table.find name ∷ table.aside name) (table.aside other)) (differ other name apart)

pub others-kept : (name other : List ℕ) (table : Table) (os : List (Option Definition)) → other ≢ name
    → ((popped name os table).find other ≡ table.find other) × ((popped name os table).aside other ≡ table.aside other)
others-kept name other table [] apart = (refl, refl)
others-kept name other table (o ∷ os) apart = (
  ap (λ b. cond b o (table.find other)) (differ other name apart),
  ap (λ b. cond b os (table.aside other)) (differ other name apart),
)
