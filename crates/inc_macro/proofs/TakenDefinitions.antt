-- The table out of which a definition is taken.
use Rattle.std.proofs.Common.{◌≡◌, ℕ, Bool, true, false, refl, sym, ap, ◌∙◌, ◌+◌, cond, List, Option, Some, None, length, is_some, bytes_eq, arith}
use Rattle.std.specs.Prelude.{IfSome}
use Rattle.std.proofs.Math.Path.{fun_ext}
use Rattle.std.specs.Cmp.Lexicographic.{nat_list_eq_equiv}
use Rattle.std.proofs.lemmas.Slice.Eq.{bytes_eq-Decides}
use Rattle.inc_text.specs.declared.languages.Language.{Language}
use Rattle.inc_macro.specs.Macros.{Definition, with_new}
use Rattle.inc_macro.specs.Tables.{IsNamed, Stacks, entries_of, found}
use Rattle.inc_macro.proofs.NamedEntries.{found-in, length-entries}
use Rattle.inc_macro.proofs.TableSteps.{same_table, table_in}

pub named : (name : List ℕ) (ds : List Definition) (o : Option Definition) → o ≡ found (entries_of ds) name → IsNamed name o
named name ds None is = _
named name ds (Some d) is = (bytes_eq-Decides d.name name).0 (found-in name ds d (sym is)).1

module _ (l : Language) (stacks : Stacks) (old new : List Definition) (name : List ℕ)
    (updates : (q : List ℕ) → found (entries_of new) q ≡ cond (bytes_eq name q) None (found (entries_of old) q)) where
  -- it is not found then
  pub absent : (o : Option Definition) → o ≡ found (entries_of old) name → IfSome o (λ (d : Definition). found (entries_of new) d.name ≡ None)
  absent None is = _
  absent (Some d) is =
      updates d.name
      ∙ ap (λ b. cond b None (found (entries_of old) d.name)) (nat_list_eq_equiv.symm name d.name ∙ (found-in name old d (sym is)).1)

  -- the table with it again is as before
  pub again : (o : Option Definition) → o ≡ found (entries_of old) name → length new + cond (is_some o) 1 0 ≡ length old
      → IfSome o (λ (d : Definition). with_new d (table_in l stacks (entries_of new)) ≡ table_in l stacks (entries_of old))
  again None is len = _
  again (Some d) is len =
      same_table _ _ _ _ _ _ (fun_ext λ n. by n (bytes_eq n d.name) refl) (omega (arith, len, length-entries old, length-entries new))
    where
      own : d.name ≡ name
      own = (bytes_eq-Decides d.name name).0 (found-in name old d (sym is)).1

      by : (n : List ℕ) (b : Bool) → bytes_eq n d.name ≡ b → cond b (Some d) (found (entries_of new) n) ≡ found (entries_of old) n
      by n true same = is ∙ ap (found (entries_of old)) (sym own ∙ sym ((bytes_eq-Decides n d.name).0 same))
      by n false apart =
          updates n
          ∙ ap (λ b. cond b None (found (entries_of old) n)) (nat_list_eq_equiv.symm name n ∙ ap (bytes_eq n) (sym own) ∙ apart)
