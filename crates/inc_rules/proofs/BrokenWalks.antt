-- Walks to the right side of a rule have an edge by which the graph breaks it.
use Rattle.std.proofs.Common.{◌≡◌, ℕ, zero, suc, Bool, true, false, List, [], ◌∷◌, ◌++◌, ◌||◌, Some, inl, inr, refl, sym, ap, ◌∙◌, subst}
use Rattle.std.specs.Prelude.{◌==◌, slice_get}
use Rattle.std.specs.List.{list_any}
use Rattle.std.proofs.lemmas.Bool.{and_parts, cases_Bool, eq-eqb, eqb-true, false≢true, not-true, not_from_false, or_from, or_left, or_right}
use Rattle.std.proofs.lemmas.List.Folds.{list_any-append}
use Rattle.std.proofs.lemmas.Option.{none-some, same_Some}
use Rattle.inc_graph.specs.Chains.{files_on, is_walk, leaves, target}
use Rattle.inc_graph.specs.IncludeGraph.{Graph}
use Rattle.inc_graph.specs.Members.{is_member}
use Rattle.inc_graph.proofs.Walks.{files_push, walk_push}
use Rattle.inc_lookup.specs.Projects.{Layout}
use Rattle.inc_rules.specs.Breaking.{AreBreaking, BreaksSome, IsBreaking, IsReachedPast}
use Rattle.inc_rules.specs.Judging.{is_right_file, left_files}
use Rattle.inc_rules.specs.Rules.{Rule}
use Rattle.inc_rules.specs.declared.rules.Verb.{Verb}
use Rattle.inc_rules.specs.declared.rules.Verb.TheVariants.{NotInclude, NotReach}
use Rattle.inc_rules.proofs.BreakingLemmas.{BoundBy}
use Rattle.inc_rules.proofs.ReachingLemmas.{left_not_right}

module _ (layout : Layout) (g : Graph) where
  -- one of the rules
  some_at : (rs : List Rule) (k : ℕ) (r : Rule) (edge : ℕ) → slice_get rs k ≡ Some r → IsBreaking layout g r edge → BreaksSome layout g rs edge
  some_at [] k r edge at breaks = absurd (none-some r at)
  some_at (q ∷ qs) zero r edge at breaks = inl (subst (λ (x : Rule). IsBreaking layout g x edge) (sym (same_Some q r at)) breaks)
  some_at (q ∷ qs) (suc k) r edge at breaks = inr (some_at qs k r edge at breaks)

  one_of : (rs : List Rule) (edge : ℕ) → BreaksSome layout g rs edge → (k : ℕ) × (r : Rule) × (slice_get rs k ≡ Some r) × IsBreaking layout g r edge
  one_of [] edge never = absurd never
  one_of (q ∷ qs) edge (inl here) = (0, q, refl, here)
  one_of (q ∷ qs) edge (inr later) = let rest = one_of qs edge later in (suc rest.0, rest.1, rest.2, rest.3)

  module _ (r : Rule) where
    abbrev other : ℕ → Bool
    other f = is_right_file layout r f

    abbrev IsPast : ℕ → Type 0
    IsPast f = IsReachedPast (left_files layout g r) other g f

    first_past : (a : ℕ) → is_member a (left_files layout g r) ≡ true → IsPast a
    first_past a begins = record {
      source = a;
      among = begins;
      walk = [];
      real = eq-eqb a a refl;
      past = not_from_false (other a || false) (or_from (other a) false (left_not_right layout g r a begins) refl);
    }

    further_past : (a i : ℕ) → IsPast a → leaves g a i ≡ true → other (target g i) ≡ false → IsPast (target g i)
    further_past a i w leads clear = record {
      source = w.source;
      among = w.among;
      walk = w.walk ++ i ∷ [];
      real = walk_push g w.source w.walk a i w.real leads;
      past = not_from_false (list_any other (files_on g w.source (w.walk ++ i ∷ [])))
          (ap (list_any other) (files_push g w.source w.walk i) ∙ list_any-append other (files_on g w.source w.walk) (target g i ∷ [])
          ∙ or_from (list_any other (files_on g w.source w.walk)) (other (target g i) || false) (not-true (list_any other (files_on g w.source w.walk)) w.past)
          (or_from (other (target g i)) false clear refl));
    }

    -- an edge by which the graph breaks a rule that files do not reach others
    breaks_reach : (a i : ℕ) → r.verb ≡ NotReach → IsPast a → leaves g a i ≡ true → other (target g i) ≡ true → IsBreaking layout g r i
    breaks_reach a i is past leads right =
        record { file = a; leaves = leads; bound = subst (λ (v : Verb). BoundBy layout g r v a) (sym is) past; right = right }

    walk_breaks : (walk : List ℕ) (a b : ℕ) → r.verb ≡ NotReach → IsPast a → other a ≡ false → is_walk g a walk b ≡ true → other b ≡ true
        → (i : ℕ) × (is_member i walk ≡ true) × IsBreaking layout g r i
    walk_breaks [] a b is past clear real right = absurd (false≢true (sym clear ∙ ap other (eqb-true a b real) ∙ right))
    walk_breaks (i ∷ is') a b is past clear real right =
        let steps = and_parts (leaves g a i) (is_walk g (target g i) is' b) real in
        elim (cases_Bool (other (target g i))) [
          | inl there ↦ (i, or_left (i == i) (is_member i is') (eq-eqb i i refl), breaks_reach a i is past steps.0 there)
          | inr apart ↦
              let rest = walk_breaks is' (target g i) b is (further_past a i past steps.0 apart) apart steps.1 right in
              (rest.0, or_right (i == rest.0) (is_member rest.0 is') rest.1, rest.2)
        ]

  module _ (rules : List Rule) (edges : List ℕ) (are : AreBreaking layout g rules edges) where
    pub reach_broken : (k : ℕ) (r : Rule) (source file : ℕ) (walk : List ℕ) → slice_get rules k ≡ Some r → r.verb ≡ NotReach → is_member source (left_files layout g r) ≡ true
        → is_walk g source walk file ≡ true → is_right_file layout r file ≡ true → (edge : ℕ) × (is_member edge walk ≡ true) × (is_member edge edges ≡ true)
    reach_broken k r source file walk at is begins real right =
        let found = walk_breaks r walk source file is (first_past r source begins) (left_not_right layout g r source begins) real right in
        (found.0, found.1, (are.1 found.0).1 (some_at rules k r found.0 at found.2))

    pub include_broken : (k : ℕ) (r : Rule) (source edge : ℕ) → slice_get rules k ≡ Some r → r.verb ≡ NotInclude → is_member source (left_files layout g r) ≡ true
        → leaves g source edge ≡ true → is_right_file layout r (target g edge) ≡ true → is_member edge edges ≡ true
    include_broken k r source edge at is begins leads right =
        (are.1 edge).1 (some_at rules k r edge at (record {
          file = source;
          leaves = leads;
          bound = subst (λ (v : Verb). BoundBy layout g r v source) (sym is) begins;
          right = right;
        }))

    pub one_breaks : (edge : ℕ) → is_member edge edges ≡ true → (k : ℕ) × (r : Rule) × (slice_get rules k ≡ Some r) × IsBreaking layout g r edge
    one_breaks edge there = one_of rules edge ((are.1 edge).0 there)
