-- The finite map that entries are, after one of them is added or removed.
use Rattle.std.proofs.Common.{◌≡◌, ℕ, Bool, true, false, refl, subst, ◌+◌, cond, List, Option, Some, None, length, is_some, bytes_eq, sym, ap, ◌∙◌, arith}
use Rattle.std.proofs.Math.Path.{fun_ext}
use Rattle.std.proofs.lemmas.Slice.Eq.{bytes_eq-Decides}
use Rattle.std.specs.Bool.{OnFalse}
use Rattle.std.specs.Cmp.Lexicographic.{nat_list_eq_equiv}
use Rattle.std.specs.Ordering.{on}
use Rattle.indexmap.specs.IndexSet.{replace_key}
use Rattle.inc_text.specs.declared.languages.Language.{Language}
use Rattle.inc_macro.specs.Macros.{Definition, Table, without, with_new, with_other}
use Rattle.inc_macro.specs.NameSlots.{HasSlots, is_taken, slot_of}
use Rattle.inc_macro.specs.Tables.{Entries, Stacks, entries_of, found, table_of}
use Rattle.inc_macro.proofs.NamedEntries.{found-exchanged, length-entries, length-exchanged}

pub same_table : (l : Language) (aside : List ℕ → List (Option Definition)) (f g : List ℕ → Option Definition) (m n : ℕ) → f ≡ g → m ≡ n
    → ◌≡◌ {A = Table} (record { language = l; find = f; size = m; aside = aside }) (record { language = l; find = g; size = n; aside = aside })
same_table l aside f g m n finds sizes =
    let by_find : (List ℕ → Option Definition) → Table = λ h. record { language = l; find = h; size = m; aside = aside } in
    let by_size : ℕ → Table = λ k. record { language = l; find = g; size = k; aside = aside } in
    ap by_find finds ∙ ap by_size sizes

-- the table of this language with these entries, where this is put aside
abbrev pub table_in : Language → Stacks → Entries → Table
table_in l stacks entries = table_of (record { language = l; entries = entries; stacks = stacks })

pub removed : (l : Language) (stacks : Stacks) (old new : List Definition) (name : List ℕ) (o : Option Definition) (was : Bool) → is_some o ≡ was
    → ((q : List ℕ) → found (entries_of new) q ≡ cond (bytes_eq name q) None (found (entries_of old) q))
    → OnFalse was (new ≡ old) → length new + cond was 1 0 ≡ length old → without name (table_in l stacks (entries_of old)) o ≡ table_in l stacks (entries_of new)
removed l stacks old new name None false is updates same len = ap (λ (ds : List Definition). table_in l stacks (entries_of ds)) (sym same)
removed l stacks old new name None true is updates same len = cc
removed l stacks old new name (Some d) false is updates same len = cc
removed l stacks old new name (Some d) true is updates same len =
    same_table _ _ _ _ _ _
    (fun_ext λ n. ap (λ t. cond t None (found (entries_of old) n)) (nat_list_eq_equiv.symm n name) ∙ sym (updates n))
    (omega (arith, len, length-entries old, length-entries new))

pub added : (l : Language) (stacks : Stacks) (old new : Entries) (d : Definition) → ((q : List ℕ) → found new q ≡ cond (bytes_eq d.name q) (Some d) (found old q))
    → length new ≡ length old + 1 → with_new d (table_in l stacks old) ≡ table_in l stacks new
added l stacks old new d updates len =
    same_table _ _ _ _ _ _
    (fun_ext λ n. ap (λ t. cond t (Some d) (found old n)) (nat_list_eq_equiv.symm n d.name) ∙ sym (updates n))
    (sym len)

pub exchanged : (l : Language) (stacks : Stacks) (old new : List Definition) (d : Definition) → is_some (found (entries_of old) d.name) ≡ true
    → new ≡ replace_key (on (λ (x : Definition). x.name) bytes_eq) old d → with_other d (table_in l stacks (entries_of old)) ≡ table_in l stacks (entries_of new)
exchanged l stacks old new d some is =
    same_table _ _ _ _ _ _
    (fun_ext λ n. ap (λ t. cond t (Some d) (found (entries_of old) n)) (nat_list_eq_equiv.symm n d.name) ∙ sym (found-exchanged old new d some is n))
    (sym (length-exchanged old new d some is))

---- slots of names

pub slots-kept : (slots wider : List ℕ) (entries : Entries) → ((i : ℕ) → is_taken slots i ≡ true → is_taken wider i ≡ true) → HasSlots slots entries → HasSlots wider entries
slots-kept slots wider entries k h n d e = k (slot_of n) (h n d e)

pub slots-removed : (slots : List ℕ) (old new : Entries) (name : List ℕ) → ((q : List ℕ) → found new q ≡ cond (bytes_eq name q) None (found old q)) →
    HasSlots slots old → HasSlots slots new
slots-removed slots old new name updates h n d e = by (bytes_eq name n) (sym (updates n) ∙ e)
  where
    by : (b : Bool) → cond b None (found old n) ≡ Some d → is_taken slots (slot_of n) ≡ true
    by true f = cc
    by false f = h n d f

pub slots-added : (slots wider : List ℕ) (old new : Entries) (key : List ℕ) (d : Definition) → ((q : List ℕ) → found new q ≡ cond (bytes_eq key q) (Some d) (found old q)) →
    ((i : ℕ) → is_taken slots i ≡ true → is_taken wider i ≡ true) → is_taken wider (slot_of key) ≡ true → HasSlots slots old → HasSlots wider new
slots-added slots wider old new key d updates k is h n e f = by (bytes_eq key n) refl (sym (updates n) ∙ f)
  where
    by : (b : Bool) → bytes_eq key n ≡ b → cond b (Some d) (found old n) ≡ Some e → is_taken wider (slot_of n) ≡ true
    by true same g = subst (λ m. is_taken wider (slot_of m) ≡ true) ((bytes_eq-Decides key n).0 same) is
    by false same g = k (slot_of n) (h n e g)

-- a name that has a definition keeps its slot
pub slots-exchanged : (slots : List ℕ) (old new : List Definition) (d : Definition) → is_some (found (entries_of old) d.name) ≡ true
    → new ≡ replace_key (on (λ (x : Definition). x.name) bytes_eq) old d → HasSlots slots (entries_of old) → HasSlots slots (entries_of new)
slots-exchanged slots old new d some is h =
    slots-added slots slots (entries_of old) (entries_of new) d.name d (found-exchanged old new d some is) (λ i t. t) (here (found (entries_of old) d.name) refl some) h
  where
    here : (o : Option Definition) → found (entries_of old) d.name ≡ o → is_some o ≡ true → is_taken slots (slot_of d.name) ≡ true
    here None e s = cc
    here (Some x) e s = h d.name x e
