-- Lists of which some tokens are not copied.
use Rattle.std.proofs.Common.{◌≡◌, ℕ, ◌+◌, ◌-◌, ◌<◌, Bor, List, [], ◌∷◌, ◌++◌, map, take, drop, reverse, length, sym, ap, ◌∙◌, arith}
use Rattle.std.proofs.lemmas.List.{drop-drop, drop-take, take-map}
use Rattle.inc_token.specs.declared.lines.Token.{Token}
use Rattle.inc_expand.specs.declared.carried.Carried.{Carried}
use Rattle.inc_expand.specs.declared.stacks.Below.{Below}
use Rattle.inc_expand.specs.declared.stacks.Below.TheVariants.{Source}
use Rattle.inc_expand.specs.Below.{below_tokens}
use Rattle.inc_expand.specs.Carriers.{carried_of}

-- the first ones left out of a part of a list
pub shared-skipped : (all : List Carried) (b e c : ℕ) → c < e - b → take (e - (b + c)) (drop (b + c) all) ≡ drop c
    (take (e - b) (drop b all))
shared-skipped all b e c l =
    let k : e - b ≡ c + (e - (b + c)) = omega (arith, l) in
    ap (take (e - (b + c))) (sym (drop-drop c b all)) ∙ sym (drop-take c (e - (b + c)) (drop b all)) ∙ ap
    (λ n. drop c (take n (drop b all))) (sym k)

-- the front of a list that is handed in
pub source-front : (ts : List Carried) (below : Below) (source : Bor (List Token)) (all : List Carried) → length ts
    ≡ 0 → below ≡ Source source → reverse ts ++ below_tokens below ≡ all →
    (n : ℕ) → take n all ≡ map carried_of (take n source.now)
source-front [] below source all l is e n = ap (take n) (sym e ∙ ap below_tokens is) ∙ take-map carried_of n source.now
source-front (t ∷ ts) below source all l is e n = absurd (omega (arith, l))
