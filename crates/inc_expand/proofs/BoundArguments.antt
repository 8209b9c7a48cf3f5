-- The arguments of a call, bound to the parameters.
use Rattle.std.proofs.Common.{◌≡◌, ◌≢◌, ℕ, Bool, true, false, ◌&&◌, ◌==◌, List, [], ◌∷◌, ◌++◌, map, length, is_some, Some, Result, Ok, Err, refl, sym, ap, ◌∙◌, arith, eqb-true, eq-eqb}
use Rattle.std.proofs.lemmas.List.{map-append, length-map}
use Rattle.std.proofs.lemmas.Bool.{cond-true, cond-false}
use Rattle.inc_macro.specs.Macros.{Params, parameter_names}
use Rattle.inc_expand.specs.declared.carried.Carried.{Carried}
use Rattle.inc_expand.specs.declared.faults.ExpandFault.{ExpandFault}
use Rattle.inc_expand.specs.declared.faults.ExpandFault.TheVariants.{ArgumentCount}
use Rattle.inc_expand.specs.Sets.{Sets}
use Rattle.inc_expand.specs.Expansion.{Argument, split_at_commas, filled_up, left_out, bound, unexpanded}
use Rattle.inc_expand.specs.Carriers.{carriers}
use Rattle.inc_expand.specs.Arguments.{ArgumentValue, argument_value, argument_values, few_arguments}
use Rattle.inc_expand.proofs.ArgumentCounts.{few-bound}

-- none
pub arguments-none : (p : Params) (s : Sets) (ts : List Carried) → length ts ≡ 0 → length p.names ≡ 0 →
    [] ≡ map unexpanded (few_arguments p (carriers s ts))
arguments-none p s [] e n = ap (map unexpanded) (sym (cond-true (length p.names == 0) [] ([] ∷ []) (eq-eqb _ _ n)))
arguments-none p s (t ∷ ts) e n = absurd (omega arith)

-- split
pub arguments-some : (p : Params) (s : Sets) (ts : List Carried) (most : ℕ) → most ≡ length p.names →
    (length ts ≡ 0 → length p.names ≢ 0) →
    map unexpanded (split_at_commas most 0 (carriers s ts)) ≡ map unexpanded (few_arguments p (carriers s ts))
arguments-some p s [] most e some =
    ap (map unexpanded) (sym (cond-false (length p.names == 0) [] ([] ∷ []) (no (length p.names == 0) refl)))
  where
    no : (b : Bool) → (length p.names == 0) ≡ b → b ≡ false
    no true h = absurd (some refl (eqb-true _ _ h))
    no false h = refl
arguments-some p s (t ∷ ts) most e some = ap (λ m. map unexpanded (split_at_commas m 0 (carriers s (t ∷ ts)))) e

-- the variable arguments
value-out : (s : Sets) (w e : List Carried) (g : Bool) → w ≡ [] → e ≡ [] → g ≡ false → argument_value s (record { written = w; expanded = e; given = g }) ≡ left_out
value-out s w e g h k l = rw (h, k, l) refl

module _ (p : Params) (s : Sets) (as' : List ArgumentValue) where
  values-length : length (argument_values s as') ≡ length as'
  values-length = length-map as' (argument_value s)

  pub filled-one : (a : ArgumentValue) → is_some p.variable ≡ true → length as' ≡ length p.names → a.written ≡ [] → a.expanded ≡ [] → a.given ≡ false →
      argument_values s (as' ++ a ∷ []) ≡ filled_up p (argument_values s as')
  filled-one a v n w x g =
      map-append (argument_value s) as' (a ∷ [])
      ∙ ap (λ (b : Argument). argument_values s as' ++ b ∷ []) (value-out s a.written a.expanded a.given w x g)
      ∙ sym (cond-true (is_some p.variable && (length (argument_values s as') == length p.names)) (argument_values s as' ++ left_out ∷ []) (argument_values s as')
      (both (is_some p.variable) v (eq-eqb _ _ (values-length ∙ n))))
    where
      both : {b : Bool} (a : Bool) → a ≡ true → b ≡ true → (a && b) ≡ true
      both true h k = k
      both false h k = h

  pub filled-none : (is_some p.variable ≡ true → length as' ≢ length p.names) → argument_values s as' ≡ filled_up p (argument_values s as')
  filled-none other =
      sym (cond-false (is_some p.variable && (length (argument_values s as') == length p.names)) (argument_values s as' ++ left_out ∷ []) (argument_values s as')
      (by (is_some p.variable) (length (argument_values s as') == length p.names) refl refl))
    where
      by : (a b : Bool) → is_some p.variable ≡ a → (length (argument_values s as') == length p.names) ≡ b → (a && b) ≡ false
      by false b v h = refl
      by true false v h = refl
      by true true v h = absurd (other v (sym values-length ∙ eqb-true _ _ h))

  -- the count
  pub bound-right : (ts : List Carried) → argument_values s as' ≡ filled_up p (map unexpanded (few_arguments p (carriers s ts))) →
      length as' ≡ length (parameter_names (Some p)) → bound p (carriers s ts) ≡ Ok (argument_values s as')
  bound-right ts e n =
      sym (few-bound p (carriers s ts))
      ∙ cond-true {A = Result (List Argument) ExpandFault} _ _ _ (eq-eqb _ _ (ap length (sym e) ∙ values-length ∙ n)) ∙ ap Ok (sym e)

  pub bound-wrong : (ts : List Carried) → argument_values s as' ≡ filled_up p (map unexpanded (few_arguments p (carriers s ts))) →
      length as' ≢ length (parameter_names (Some p)) → bound p (carriers s ts) ≡ Err ArgumentCount
  bound-wrong ts e n = sym (few-bound p (carriers s ts)) ∙ cond-false {A = Result (List Argument) ExpandFault} _ _ _ (by _ refl)
    where
      by : (b : Bool) → (length (filled_up p (map unexpanded (few_arguments p (carriers s ts)))) == length (parameter_names (Some p))) ≡ b → b ≡ false
      by true h = absurd (n (sym values-length ∙ ap length e ∙ eqb-true _ _ h))
      by false h = refl
