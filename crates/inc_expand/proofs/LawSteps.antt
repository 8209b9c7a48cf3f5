-- The laws of expansion.
use Rattle.std.proofs.Common.{◌≡◌, suc, ◌+◌, ◌≤◌, List, [], ◌∷◌, length, map, None, Result, Ok, Err, IfOk, refl, ap, ◌∙◌, arith}
use Rattle.std.specs.List.{All}
use Rattle.inc_macro.specs.Results.{◌>>=◌}
use Rattle.inc_macro.specs.Macros.{definition_of}
use Rattle.inc_token.specs.TokenLines.{Tok}
use Rattle.inc_expand.specs.declared.faults.ExpandFault.{ExpandFault}
use Rattle.inc_expand.specs.Expansion.{Surroundings, Carrier, Item, Meter, predefined, levels, all_levels, of_source, item_of, expansion}
use Rattle.inc_expand.proofs.ExpansionSteps.{SpendsOnly, levels_spend, ArePlain, plain-levels}

pub never-grows : (s : Surroundings) (meter : Meter) (ts : List Tok) → IfOk (expansion s meter ts) (λ r. r.1.units ≤ meter.units)
unfolding SpendsOnly
never-grows s meter ts = by (levels s all_levels meter (map of_source ts)) (levels_spend s all_levels meter (map of_source ts))
  where
    by : (r : Result (List Carrier × Meter) ExpandFault) → IfOk r (λ x. x.1.units ≤ meter.units) →
        IfOk {T = List Item × Meter} (r >>= (λ x. Ok (map item_of x.0, x.1))) (λ x. x.1.units ≤ meter.units)
    by (Ok x) h = h
    by (Err e) h = tt

-- a token that no definition and no predefined name is spelled as
abbrev pub IsOrdinary : Surroundings → Tok → Type 0
IsOrdinary s t = (predefined s t.line t.spelling ≡ None) × (definition_of t.spelling s.table ≡ None)

plain-source : (s : Surroundings) (ts : List Tok) → All (IsOrdinary s) ts → ArePlain s (map of_source ts)
plain-source s [] h = tt
plain-source s (t ∷ ts) h = (h 0 t (omega arith), plain-source s ts (λ k d l. h (suc k) d (omega (arith, l))))

pub itself : (s : Surroundings) (meter : Meter) (ts : List Tok) → All (IsOrdinary s) ts →
    expansion s meter ts ≡ Ok (map (λ t. item_of (of_source t)) ts, meter)
unfolding all_levels
itself s meter ts h =
    ap (λ r. r >>= put) (plain-levels s 1000 (length (map of_source ts) + 1) meter (map of_source ts) (omega arith) (plain-source s ts h))
    ∙ ap (λ is. Ok (is, meter)) (both ts)
  where
    put : List Carrier × Meter → Result (List Item × Meter) ExpandFault
    put x = Ok (map item_of x.0, x.1)

    both : (us : List Tok) → map item_of (map of_source us) ≡ map (λ t. item_of (of_source t)) us
    both [] = refl
    both (u ∷ us) = ap (λ is. item_of (of_source u) ∷ is) (both us)
