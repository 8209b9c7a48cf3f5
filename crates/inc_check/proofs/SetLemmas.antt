-- Sets of edges by flags, and their costs.
use Rattle.std.proofs.Common.{◌≡◌, ℕ, Bool, true, false, List, [], ◌∷◌, ◌++◌, ◌||◌, replicate, refl, sym, ap, subst, ◌∙◌, inl, inr}
use Rattle.std.specs.Prelude.{◌==◌, ◌&&◌, not}
use Rattle.std.proofs.lemmas.Bool.{cases_eq, eq-eqb, ne_eqb}
use Rattle.std.proofs.lemmas.List.{length-replicate, get_or-replicate}
use Rattle.std.proofs.lemmas.List.Folds.{list_any-append}
use Rattle.inc_graph.specs.Members.{is_member, is_distinct}
use Rattle.inc_check.specs.Checking.{IsSetOf}

---- lists of numbers

member_push : (t : ℕ) (ns : List ℕ) (n : ℕ) → is_member t (ns ++ n ∷ []) ≡ (is_member t ns || ((n == t) || false))
member_push t ns n = list_any-append (λ m. m == t) ns (n ∷ [])

or_true : (b : Bool) → (b || (true || false)) ≡ true
or_true true = refl
or_true false = refl

or_none : (b : Bool) → (b || (false || false)) ≡ b
or_none true = refl
or_none false = refl

pub member_self : (n : ℕ) (ns : List ℕ) → is_member n (ns ++ n ∷ []) ≡ true
member_self n ns = member_push n ns n ∙ ap (λ b. is_member n ns || (b || false)) (eq-eqb n n refl) ∙ or_true (is_member n ns)

pub member_other : (t : ℕ) (ns : List ℕ) (n : ℕ) → (n ≡ t → ⊥) → is_member t (ns ++ n ∷ []) ≡ is_member t ns
member_other t ns n apart = member_push t ns n ∙ ap (λ b. is_member t ns || (b || false)) (ne_eqb n t apart) ∙ or_none (is_member t ns)

-- a number that is before itself
pub distinct_met : (ns : List ℕ) (n : ℕ) (rest : List ℕ) → is_member n ns ≡ true → is_distinct (ns ++ n ∷ rest) ≡ false
distinct_met [] n rest met = absurd (cc)
distinct_met (m ∷ ms) n rest met =
    elim (cases_eq m n) [
      | inl same ↦
          let there : is_member m (ms ++ n ∷ rest) ≡ true =
          list_any-append (λ k. k == m) ms (n ∷ rest) ∙ ap (λ b. is_member m ms || (b || is_member m rest)) (eq-eqb n m (sym same)) ∙ or_left_true (is_member m ms) (is_member m rest) in
          ap (λ b. not b && is_distinct (ms ++ n ∷ rest)) there
      | inr apart ↦
          let later : is_member n ms ≡ true = sym (ap (λ b. b || is_member n ms) (ne_eqb m n apart)) ∙ met in
          ap (λ b. not (is_member m (ms ++ n ∷ rest)) && b) (distinct_met ms n rest later) ∙ and_false (not (is_member m (ms ++ n ∷ rest)))
    ]
  where
    or_left_true : (a b : Bool) → (a || (true || b)) ≡ true
    or_left_true true b = refl
    or_left_true false b = refl

    and_false : (b : Bool) → (b && false) ≡ false
    and_false true = refl
    and_false false = refl

---- a set, an edge at a time

pub no_flags : (count : ℕ) (flags : List Bool) → flags ≡ replicate count false → IsSetOf count [] flags
no_flags count flags none = subst (λ (fs : List Bool). IsSetOf count [] fs) (sym none) (record {
  once = refl;
  long = length-replicate count false;
  are = λ i low. get_or-replicate count i false false low;
})
