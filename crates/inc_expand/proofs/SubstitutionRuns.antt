-- A whole substitution.
use Rattle.std.proofs.Common.{◌≡◌, ℕ, ◌+◌, ◌≤◌, false, List, [], ◌∷◌, length, drop, slice_get, Some, None, Result, Ok, Err, refl, sym, ap, ap₂, ◌∙◌, arith}
use Rattle.std.proofs.lemmas.List.{drop_all}
use Rattle.inc_macro.specs.Results.{◌>>=◌}
use Rattle.inc_expand.specs.declared.carried.Carried.{Carried}
use Rattle.inc_expand.specs.declared.faults.ExpandFault.{ExpandFault}
use Rattle.inc_expand.specs.declared.pastes.Joiner.{Joiner}
use Rattle.inc_expand.specs.declared.rules.Rule.{Rule}
use Rattle.inc_expand.specs.Sets.{Sets, size, Keeps}
use Rattle.inc_expand.specs.Elements.{Element}
use Rattle.inc_expand.specs.Expansion.{Carrier, Argument, Part, joined, paste_from}
use Rattle.inc_expand.specs.Carriers.{carriers, AreKnown}
use Rattle.inc_expand.specs.Arguments.{ArgumentValue, argument_values, AreKnownIn}
use Rattle.inc_expand.specs.Joins.{put_before, rest_of, IsKnown}
use Rattle.inc_expand.specs.Substitutions.{made_strings, parts_with}
use Rattle.inc_expand.proofs.Tables.{keeps-itself}
use Rattle.inc_expand.proofs.JoinSteps.{same-carriers, known-wider, known-drop, keeps-more}
use Rattle.inc_expand.proofs.ElementSteps.{place-at}
use Rattle.inc_expand.proofs.SubstitutionSteps.{strings-first}

pub same-arguments : (s u : Sets) → Keeps s u → (as' : List ArgumentValue) → AreKnownIn (size s) as' → argument_values u as' ≡ argument_values s as'
same-arguments s u k [] h = refl
same-arguments s u k (a ∷ as') h =
    ap₂ (λ (b : Argument) (bs : List Argument). b ∷ bs)
    (ap₂ (λ (w e : List Carrier). record { written = w; expanded = e; given = a.given }) (same-carriers s u k a.written h.0) (same-carriers s u k a.expanded h.1.0))
    (same-arguments s u k as' h.1.1)

pub known_in-wider : (m n : ℕ) → m ≤ n → (as' : List ArgumentValue) → AreKnownIn m as' → AreKnownIn n as'
known_in-wider m n l [] h = tt
known_in-wider m n l (a ∷ as') h = (known-wider m n l a.written h.0, (known-wider m n l a.expanded h.1.0, known_in-wider m n l as' h.1.1))

nothing-before : (r : Result (List Carrier) ExpandFault) → put_before [] r ≡ r
nothing-before (Ok ts) = refl
nothing-before (Err fault) = refl

-- the places before i are passed, with so many of the strings
pub record IsJoined (rule : Rule) (u now : Sets) (as' : List ArgumentValue) (es : List Element) (strings : List Carried) (i at : ℕ) (j : Joiner) : Type 0 where
  -- the sets of before are still there
  pub keeps : Keeps u now
  -- what is left gives what the whole would give
  pub rest : rest_of now j (parts_with (argument_values u as') (carriers u (drop at strings)) (drop i es))
      ≡ paste_from rule false None (parts_with (argument_values u as') (carriers u strings) es)
  -- what is being joined is known to the sets
  pub known : IsKnown (size now) j
  -- no more strings were taken than there are
  pub within : at ≤ length strings

pub joined-none : (rule : Rule) (u : Sets) (as' : List ArgumentValue) (es : List Element) (strings : List Carried) (j : Joiner) →
    ((s : Sets) (parts : List Part) → rest_of s j parts ≡ put_before [] (paste_from rule false None parts)) → ((n : ℕ) → IsKnown n j) → IsJoined rule u u as' es strings 0 0 j
joined-none rule u as' es strings j h k = record {
  keeps = keeps-itself u;
  rest = h u (parts_with (argument_values u as') (carriers u strings) es) ∙ nothing-before _;
  known = k (size u);
  within = omega arith;
}

module _ (rule : Rule) (u now : Sets) (as' : List ArgumentValue) (es : List Element) (strings : List Carried) (i at : ℕ) (j : Joiner) (p : IsJoined rule u now as' es strings i at j)
    (args_known : AreKnownIn (size u) as') (strings_known : (s : Sets) → AreKnown (size s) strings) (e : Element) (here : slice_get es i ≡ Some e) where
  same-parts : (k : ℕ) (rest : List Element) → parts_with (argument_values now as') (carriers now (drop k strings)) rest ≡ parts_with (argument_values u as') (carriers u (drop k strings)) rest
  same-parts k rest =
      ap₂ (λ (a : List Argument) (ts : List Carrier). parts_with a ts rest) (same-arguments u now p.keeps as' args_known)
      (same-carriers u now p.keeps (drop k strings) (known-drop (size u) k strings (strings_known u)))

  before : rest_of now j (parts_with (argument_values now as') (carriers now (drop at strings)) (e ∷ drop (i + 1) es))
      ≡ paste_from rule false None (parts_with (argument_values u as') (carriers u strings) es)
  before =
      ap (rest_of now j) (same-parts at (e ∷ drop (i + 1) es))
      ∙ ap (λ rest. rest_of now j (parts_with (argument_values u as') (carriers u (drop at strings)) rest)) (sym (place-at es i e here)) ∙ p.rest

  pub joined-more : (new : Sets) (after : ℕ) (k : Joiner) → Keeps now new → IsKnown (size new) k → after ≤ length strings →
      ((rest : List Element) → rest_of new k (parts_with (argument_values now as') (carriers now (drop after strings)) rest)
      ≡ rest_of now j (parts_with (argument_values now as') (carriers now (drop at strings)) (e ∷ rest))) →
      IsJoined rule u new as' es strings (i + 1) after k
  joined-more new after k keeps known within h = record {
    keeps = keeps-more u now new p.keeps keeps;
    rest = ap (rest_of new k) (sym (same-parts after (drop (i + 1) es))) ∙ h (drop (i + 1) es) ∙ before;
    known = known;
    within = within;
  }

  pub joined-fault : (fault : ExpandFault) →
      ((rest : List Element) → rest_of now j (parts_with (argument_values now as') (carriers now (drop at strings)) (e ∷ rest)) ≡ Err fault) →
      paste_from rule false None (parts_with (argument_values u as') (carriers u strings) es) ≡ Err fault
  joined-fault fault h = sym before ∙ h (drop (i + 1) es)

pub joined-all : (rule : Rule) (u now : Sets) (as' : List ArgumentValue) (es : List Element) (strings : List Carried) (i at : ℕ) (j : Joiner) → IsJoined rule u now as' es strings i at j →
    length es ≤ i → (r : Result (List Carrier) ExpandFault) → rest_of now j [] ≡ r → paste_from rule false None (parts_with (argument_values u as') (carriers u strings) es) ≡ r
joined-all rule u now as' es strings i at j p l r h =
    sym p.rest ∙ ap (λ rest. rest_of now j (parts_with (argument_values u as') (carriers u (drop at strings)) rest)) (drop_all i es l) ∙ h

-- the strings come first
pub joined-is : (rule : Rule) (args : List Argument) (es : List Element) (ts : List Carrier) → made_strings args es ≡ Ok ts →
    joined rule args es ≡ paste_from rule false None (parts_with args ts es)
joined-is rule args es ts h =
    ap (λ r. r >>= (λ ps. paste_from rule false None ps)) (strings-first args es ∙ ap (λ r. r >>= (λ x. Ok (parts_with args x es))) h)

pub strings-fault : (rule : Rule) (args : List Argument) (es : List Element) (fault : ExpandFault) → made_strings args es ≡ Err fault → joined rule args es ≡ Err fault
strings-fault rule args es fault h =
    ap (λ r. r >>= (λ ps. paste_from rule false None ps)) (strings-first args es ∙ ap (λ r. r >>= (λ x. Ok (parts_with args x es))) h)
