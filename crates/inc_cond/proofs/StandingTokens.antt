-- Controlling expressions of which no token is replaced.
use Rattle.std.proofs.Common.{◌≡◌, Bool, true, false, not, List, [], ◌∷◌, Option, Some, None, Result, Ok, Err, is_some, map, refl, sym, ap, ◌∙◌}
use Rattle.std.proofs.lemmas.Bool.{and_parts, cond-false, or_parts}
use Rattle.std.proofs.lemmas.List.Elements.{All-nil, All-cons}
use Rattle.std.specs.List.{All}
use Rattle.inc_token.specs.TokenLines.{Tok}
use Rattle.inc_macro.specs.Macros.{Definition, Table, definition_of, is_among, predefined_names}
use Rattle.inc_macro.specs.Results.{◌>>=◌}
use Rattle.inc_expand.specs.Expansion.{Item, Meter, Place, Surroundings, expansion}
use Rattle.inc_expand.specs.Sinks.{item_of_source}
use Rattle.inc_expand.specs.declared.places.Mode.TheVariants.{Condition}
use Rattle.inc_expand.proofs.LawSteps.{IsOrdinary, itself}
use Rattle.inc_cond.specs.Conditions.{condition, expanded, value_of_items}
use Rattle.inc_cond.specs.Headers.{HeaderSearch}
use Rattle.inc_cond.specs.Operands.{outcome}
use Rattle.inc_cond.specs.Standing.{all_stand, stands}
use Rattle.inc_cond.specs.Values.{cond_value}
use Rattle.inc_cond.specs.declared.faults.CondFault.{CondFault}
use Rattle.inc_cond.specs.declared.operands.Operands.{Operands}
use Rattle.inc_cond.specs.declared.values.CondValue.{CondValue}
use Rattle.inc_cond.specs.declared.values.Value.{Value}

is-false : (b : Bool) → not b ≡ true → b ≡ false
is-false true h = cc
is-false false h = refl

none-there : (o : Option Definition) → is_some o ≡ false → o ≡ None
none-there None h = refl
none-there (Some d) h = cc

-- where a condition is expanded
abbrev around : Table → Place → Surroundings
around table place = record { table = table; mode = Condition; place = place }

-- the value of the tokens of an expansion, and the meter after it
abbrev valued : HeaderSearch → Table → List Item × Meter → Result (CondValue × Meter) CondFault
valued search table r = value_of_items search table r.0 >>= λ v. Ok (cond_value v, r.1)

module _ (table : Table) (place : Place) where
  ordinary : (t : Tok) → stands table t ≡ true → IsOrdinary (around table place) t
  ordinary t h =
      let parts = or_parts (is_among t.spelling (predefined_names table.language)) (is_some (definition_of t.spelling table)) (is-false _ h) in
      (cond-false _ _ _ parts.0, none-there (definition_of t.spelling table) parts.1)

  all-ordinary : (ts : List Tok) → all_stand table ts ≡ true → All (IsOrdinary (around table place)) ts
  all-ordinary [] h = All-nil (IsOrdinary (around table place))
  all-ordinary (t ∷ ts) h =
      let parts = and_parts (stands table t) (all_stand table ts) h in
      All-cons (IsOrdinary (around table place)) t ts (ordinary t parts.0) (all-ordinary ts parts.1)

  standing : (meter : Meter) (ts : List Tok) → all_stand table ts ≡ true → expansion (around table place) meter ts ≡ Ok (map item_of_source ts, meter)
  standing meter ts h = itself (around table place) meter ts (all-ordinary ts h)

  module _ (search : HeaderSearch) (meter : Meter) (ts : List Tok) (h : all_stand table ts ≡ true) where
    pub standing-value : (v : Value) → value_of_items search table (map item_of_source ts) ≡ Ok v → condition search table place meter ts ≡ Ok (cond_value v, meter)
    standing-value v e = ap (λ x. expanded x >>= valued search table) (standing meter ts h) ∙ ap (λ y. y >>= λ v. Ok (cond_value v, meter)) e

    pub standing-fault : (f : CondFault) → value_of_items search table (map item_of_source ts) ≡ Err f → condition search table place meter ts ≡ Err f
    standing-fault f e = ap (λ x. expanded x >>= valued search table) (standing meter ts h) ∙ ap (λ y. y >>= λ v. Ok (cond_value v, meter)) e

-- where no token is left
pub none-left : (o : Operands) (ts : List Tok) (r s : Result Value CondFault) → ts ≡ [] → outcome o (map item_of_source ts) ≡ r → outcome o [] ≡ s → r ≡ s
none-left o ts r s is answer last = sym answer ∙ ap (λ us. outcome o (map item_of_source us)) is ∙ last
