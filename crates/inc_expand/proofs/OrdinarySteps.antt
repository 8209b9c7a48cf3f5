-- Arguments whose tokens all pass alone.
use Rattle.std.proofs.Common.{◌≡◌, ◌≢◌, ℕ, zero, suc, ◌+◌, ◌<◌, true, List, [], ◌∷◌, map, nat_eq, take, length, get_or, Ok, refl, sym, ap, subst, ◌∙◌, arith}
use Rattle.std.proofs.lemmas.Bool.{eqb-true}
use Rattle.inc_token.specs.declared.lines.Token.{Token}
use Rattle.inc_token.specs.Views.{seen}
use Rattle.std.proofs.Math.Seq.{take-suc}
use Rattle.std.proofs.lemmas.List.{append-nil, map-append, take_all}
use Rattle.inc_expand.specs.declared.carried.Carried.{Carried}
use Rattle.inc_expand.specs.Sets.{Sets}
use Rattle.inc_expand.specs.Carriers.{carried_of, carrier, carriers}
use Rattle.inc_expand.specs.Expansion.{Carrier, Surroundings, Meter, levels, of_source}
use Rattle.inc_expand.specs.Streams.{PassAlone, PassesAlone}
use Rattle.inc_expand.specs.Walks.{behind}
use Rattle.inc_expand.proofs.ExpansionSteps.{no_step}
use Rattle.inc_expand.proofs.PutSteps.{source-carriers}
use Rattle.inc_expand.proofs.StreamSteps.{alone-both, passed-levels}

-- one more token that passes alone
pub alone-next : (s : Surroundings) (sets : Sets) (ts : List Carried) (k : ℕ) (d : Carried) → k < length ts →
    PassAlone s (carriers sets (take k ts)) → PassesAlone s (carrier sets (get_or ts k d)) → PassAlone s (carriers sets (take (k + 1) ts))
alone-next s sets ts k d l h t =
    let n : k + 1 ≡ suc k = omega arith in
    subst (PassAlone s)
    (sym (ap (λ j. carriers sets (take j ts)) n ∙ ap (carriers sets) (take-suc ts k d l) ∙ map-append (carrier sets) (take k ts) (get_or ts k d ∷ [])))
    (alone-both s (carriers sets (take k ts)) (carrier sets (get_or ts k d) ∷ []) h (t, tt))

-- tokens that pass alone expand to themselves
pub alone-levels : (s : Surroundings) (n : ℕ) (meter : Meter) (ts : List Carrier) → PassAlone s ts → levels s (suc n) meter ts ≡ Ok (ts, meter)
alone-levels s n meter ts h =
    ap (levels s (suc n) meter) (sym (append-nil ts)) ∙ passed-levels s n meter ts [] h ∙ ap (behind ts) (no_step s n meter) ∙ ap (λ us. Ok (us, meter)) (append-nil ts)

pub alone-levels-at : (s : Surroundings) (n : ℕ) (meter : Meter) (ts : List Carrier) → n ≢ 0 → PassAlone s ts → levels s n meter ts ≡ Ok (ts, meter)
alone-levels-at s zero meter ts l h = absurd (l refl)
alone-levels-at s (suc n) meter ts l h = alone-levels s n meter ts h

-- all tokens of a list that is handed in
pub source-alone : (s : Surroundings) (source : List Token) (k : ℕ) → nat_eq k (length source) ≡ true → PassAlone s (map of_source (map seen (take k source))) →
    (sets : Sets) → PassAlone s (carriers sets (map carried_of source))
source-alone s source k e h sets =
    subst (PassAlone s) (sym (source-carriers sets source))
    (subst (λ ts. PassAlone s (map of_source (map seen ts))) (take_all k source (let l = eqb-true _ _ e in omega (arith, l))) h)
