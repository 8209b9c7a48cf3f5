-- A name that is not defined begins its own expansion.
use Rattle.std.proofs.Common.{◌≡◌, ℕ, suc, true, false, not, List, [], ◌∷◌, ◌++◌, Result, Ok, Err, IfOk, map, refl, sym, ap, ◌∙◌, subst}
use Rattle.std.proofs.lemmas.Bool.{cond-false, or_from}
use Rattle.inc_token.specs.TokenLines.{Tok}
use Rattle.inc_macro.specs.Macros.{is_identifier_kind}
use Rattle.inc_macro.specs.Results.{◌>>=◌}
use Rattle.inc_macro.proofs.UndefinedNames.{Lacks}
use Rattle.inc_expand.specs.declared.faults.ExpandFault.{ExpandFault}
use Rattle.inc_expand.specs.declared.places.Mode.{Mode}
use Rattle.inc_expand.specs.declared.places.Mode.TheVariants.{Plain}
use Rattle.inc_expand.specs.Expansion.{Carrier, Item, Passes, Surroundings, Meter, all_levels, case_of, expansion, is_asking, item_of, levels, macro_case, name_case, of_source, treated, rule_in}
use Rattle.inc_expand.proofs.ExpansionSteps.{one_step}

-- outside conditions such a name passes alone
passes_alone : (s : Surroundings) (t : Carrier) (ts : List Carrier) → s.mode ≡ Plain → is_identifier_kind t.kind ≡ true → t.hidden t.spelling ≡ false → Lacks t.spelling s.table
    → case_of s t ts ≡ Passes (t ∷ []) ts
passes_alone s t ts plain name shown lacks =
    cond-false _ _ _ (ap (λ (m : Mode). is_asking m s.table.language t) plain)
    ∙ cond-false _ _ _ (or_from (not (is_identifier_kind t.kind)) (t.hidden t.spelling) (ap not name) shown)
    ∙ ap (name_case s t ts) (cond-false _ _ _ lacks.0)
    ∙ ap (macro_case t ts) lacks.1

-- the tokens begin with this one
abbrev BeginWith : Carrier → Result (List Carrier × Meter) ExpandFault → Type 0
BeginWith t r = IfOk r (λ x. (more : List Carrier) × (x.0 ≡ t ∷ more))

levels_begin : (s : Surroundings) (n : ℕ) (meter : Meter) (t : Carrier) (ts : List Carrier) → case_of s t ts ≡ Passes (t ∷ []) ts → BeginWith t (levels s (suc n) meter (t ∷ ts))
levels_begin s n meter t ts is =
    subst (BeginWith t) (sym (one_step s n meter t ts ∙ ap (treated (rule_in s) (levels s n) (levels s (suc n)) t meter ts) is)) (after (levels s (suc n) meter ts))
  where
    after : (r : Result (List Carrier × Meter) ExpandFault) → BeginWith t (r >>= (λ x. Ok ((t ∷ []) ++ x.0, x.1)))
    after (Ok x) = (x.0, refl)
    after (Err fault) = tt

all_begin : (s : Surroundings) (meter : Meter) (t : Carrier) (ts : List Carrier) → case_of s t ts ≡ Passes (t ∷ []) ts → BeginWith t (levels s all_levels meter (t ∷ ts))
unfolding all_levels
all_begin s meter t ts is = levels_begin s 1000 meter t ts is

-- the first item is the name as it is
pub expansion_begins : (s : Surroundings) (meter : Meter) (t : Tok) (ts : List Tok) → s.mode ≡ Plain → is_identifier_kind t.kind ≡ true → Lacks t.spelling s.table
    → IfOk (expansion s meter (t ∷ ts)) (λ r. (more : List Item) × (r.0 ≡ item_of (of_source t) ∷ more))
expansion_begins s meter t ts plain name lacks =
    by (levels s all_levels meter (map of_source (t ∷ ts))) (all_begin s meter (of_source t) (map of_source ts) (passes_alone s (of_source t) (map of_source ts) plain name refl lacks))
  where
    by : (r : Result (List Carrier × Meter) ExpandFault) → BeginWith (of_source t) r
        → IfOk {T = List Item × Meter} (r >>= (λ x. Ok (map item_of x.0, x.1))) (λ x. (more : List Item) × (x.0 ≡ item_of (of_source t) ∷ more))
    by (Ok x) h = (map item_of h.0, ap (map item_of) h.1)
    by (Err fault) h = tt
