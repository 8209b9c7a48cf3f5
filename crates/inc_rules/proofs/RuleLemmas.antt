-- The rule of a line by its parts.
use Rattle.std.proofs.Common.{◌≡◌, ℕ, suc, ◌-◌, ◌<◌, ◌≤◌, List, [], ◌∷◌, Option, Some, None, Result, Ok, Err, IfOk, IfErr, length, take, drop, get_or, map, refl, sym, ap, ◌∙◌, arith}
use Rattle.std.proofs.Math.ListN.{get_or-map}
use Rattle.std.proofs.lemmas.List.{drop_all, drop-map, length-drop, length-map, take_rest}
use Rattle.inc_rules.specs.Rules.{Fault, Rule, behind, by_verb, checked, exceptions, fault, last_of, rule_of, verb_of, with_exceptions, with_first, with_rest, with_right}
use Rattle.inc_rules.specs.Views.{IsFault, seen_rule}
use Rattle.inc_rules.specs.declared.rules.FaultKind.TheVariants.{Ends}
use Rattle.inc_rules.specs.declared.rules.Rule.{Rule as RuleValue}
use Rattle.inc_rules.specs.declared.rules.RuleFault.{RuleFault}
use Rattle.inc_rules.specs.declared.rules.Verb.{Verb}
use Rattle.inc_rules.proofs.TextLemmas.{fault_on}

-- the last of some words, by its place
at_last : (w d : List ℕ) (ws : List (List ℕ)) → get_or (w ∷ ws) (length ws) d ≡ last_of w ws
at_last w d [] = refl
at_last w d (x ∷ xs) = at_last x d xs

-- a verb is found among words alone
verb_found : (line : ℕ) (words : List (List ℕ)) (l : List ℕ) (r : List (List ℕ)) (x : Verb × List (List ℕ)) → verb_of r ≡ Some x → by_verb line words l r (verb_of r) ≡ with_right line words l x.0 x.1
verb_found line words l [] x found = cc
verb_found line words l (w ∷ ws) x found = ap (by_verb line words l (w ∷ ws)) found

module _ {A : Type 0} (f : A → List ℕ) where
  -- words of which the first ones are met, but which are too few
  no_words : (first : List A) → 0 < length first → behind (map f first) [] ≡ None
  no_words [] some = absurd (omega (arith, some))
  no_words (x ∷ xs) some = refl

  pub too_few : (first words : List A) (at : ℕ) (all : Option (List (List ℕ))) → at < length first → length words ≤ at → behind (map f (drop at first)) (map f (drop at words)) ≡ all → None ≡ all
  too_few first words at all more few so_far =
      let some : 0 < length (drop at first) = rw length-drop (omega (arith, more)) in
      sym (no_words (drop at first) some) ∙ ap (λ ws. behind (map f (drop at first)) (map f ws)) (sym (drop_all at words few)) ∙ so_far

  first_of : (xs : List A) (x : A) → 1 ≤ length xs → map f xs ≡ f (get_or xs 0 x) ∷ map f (drop 1 xs)
  first_of [] x some = absurd (omega (arith, some))
  first_of (y ∷ ys) x some = refl

  left_of : (xs : List A) (x : A) (l : List ℕ) (r : List (List ℕ)) → map f xs ≡ l ∷ r → x ≡ get_or xs 0 x → l ≡ f x
  left_of [] x l r are is = cc
  left_of (y ∷ ys) x l r are is = let e : x ≡ y = is in rw e cc

  module _ (line : ℕ) (items from : List A) (value : from ≡ items) (l : List ℕ) (r : List (List ℕ)) (are : map f items ≡ l ∷ r)
      (v : Verb) (ws : List (List ℕ)) (found : Some (v, ws) ≡ verb_of (map f (take (length from - 1) (drop 1 from)))) where
    rest_is : map f (take (length from - 1) (drop 1 from)) ≡ r
    rest_is = ap (map f) (take_rest from 1) ∙ ap (λ xs. map f (drop 1 xs)) value ∙ sym (drop-map f 1 items) ∙ ap (λ (xs : List (List ℕ)). drop 1 xs) are

    by_found : rule_of line l r ≡ with_right line (map f items) l v ws
    by_found = verb_found line (l ∷ r) l r (v, ws) (ap verb_of (sym rest_is) ∙ sym found) ∙ ap (λ words. with_right line words l v ws) (sym are)

    last_is : (x : A) → x ≡ get_or items (length items - 1) x → last_of l (map f items) ≡ f x
    last_is x is =
        let long : length items ≡ suc (length r) = sym (length-map items f) ∙ ap length are in
        let place : length items - 1 ≡ length r = omega (arith, long) in
        ap (last_of l) are
        ∙ sym (at_last l (f x) r)
        ∙ ap (λ (xs : List (List ℕ)). get_or xs (length r) (f x)) (sym are)
        ∙ ap (λ n. get_or (map f items) n (f x)) (sym place)
        ∙ get_or-map f items (length items - 1) x
        ∙ ap f (sym is)

    nothing : (xs : List A) → length xs < 1 → with_right line (map f items) l v (map f xs) ≡ Err (fault Ends (last_of l (map f items) ∷ []))
    nothing [] none = refl
    nothing (x ∷ xs) none = absurd (omega (arith, none))

    pub no_right : (back : List A) → ws ≡ map f back → length back < 1 → (x : A) → x ≡ get_or items (length items - 1) x → rule_of line l r ≡ Err (fault Ends (f x ∷ []))
    no_right back backs none x is = by_found ∙ ap (with_right line (map f items) l v) backs ∙ nothing back none ∙ ap (λ w. Err (fault Ends (w ∷ []))) (last_is x is)

    module _ (back : List A) (backs : ws ≡ map f back) (some : 1 ≤ length back) (y : A) (v2 : Verb) (rest : List (List ℕ)) (first : (v2, rest) ≡ with_first v (map f (take (length back - 1) (drop 1 back)))) where
      by_rest : rule_of line l r ≡ with_rest line (map f items) l (f (get_or back 0 y)) (v2, rest)
      by_rest =
          by_found ∙ ap (with_right line (map f items) l v) (backs ∙ first_of back y some)
          ∙ ap (λ xs. with_rest line (map f items) l (f (get_or back 0 y)) (with_first v (map f xs))) (sym (take_rest back 1))
          ∙ ap (with_rest line (map f items) l (f (get_or back 0 y))) (sym first)

      pub excepted_bad : (e : Fault) → exceptions rest ≡ Err e → rule_of line l r ≡ Err e
      excepted_bad e bad = by_rest ∙ rw bad refl

      excepted : (gs : List (List ℕ)) → exceptions rest ≡ Ok gs → (x : A) → x ≡ get_or items 0 x
          → rule_of line l r ≡ checked (record { line = line; words = map f items; left = f x; verb = v2; right = f (get_or back 0 y); except = gs })
      excepted gs good x is =
          by_rest ∙ ap (λ w. with_rest line (map f items) w (f (get_or back 0 y)) (v2, rest)) (left_of items x l r are is)
          ∙ ap (with_exceptions (record { line = line; words = map f items; left = f x; verb = v2; right = f (get_or back 0 y); except = [] })) good

  -- what is checked in place of a line
  module _ (line : ℕ) (items from : List A) (value : from ≡ items) (v : Verb) (ws : List (List ℕ)) (found : Some (v, ws) ≡ verb_of (map f (take (length from - 1) (drop 1 from))))
      (back : List A) (backs : ws ≡ map f back) (some : 1 ≤ length back) (v2 : Verb) (rest : List (List ℕ)) (first : (v2, rest) ≡ with_first v (map f (take (length back - 1) (drop 1 back))))
      (gs : List (List ℕ)) (good : exceptions rest ≡ Ok gs) (x : A) (is : x ≡ get_or items 0 x) (y : A) where
    abbrev asked : Rule
    asked = record { line = line; words = map f items; left = f x; verb = v2; right = f (get_or back 0 y); except = gs }

    same_rule : (l : List ℕ) (r : List (List ℕ)) → map f items ≡ l ∷ r → rule_of line l r ≡ checked asked
    same_rule l r are = excepted line items from value l r are v ws found back backs some y v2 rest first gs good x is

    pub ok_on : {E : Type 0} (o : Result RuleValue E) → IfOk o (λ r. checked asked ≡ Ok (seen_rule r))
        → IfOk o (λ n. (l : List ℕ) → (r : List (List ℕ)) → map f items ≡ l ∷ r → rule_of line l r ≡ Ok (seen_rule n))
    ok_on (Ok n) told = λ l r are. same_rule l r are ∙ told
    ok_on (Err e) told = tt

    pub err_on : {V : Type 0} (o : Result V RuleFault) → IfErr o (λ e. IsFault e line (checked asked))
        → IfErr o (λ e. (l : List ℕ) → (r : List (List ℕ)) → map f items ≡ l ∷ r → IsFault e line (rule_of line l r))
    err_on (Ok n) told = tt
    err_on (Err e) told = λ l r are. fault_on e line (checked asked) (rule_of line l r) told (λ b bad. same_rule l r are ∙ bad)
