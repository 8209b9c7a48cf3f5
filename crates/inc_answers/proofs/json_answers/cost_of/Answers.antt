use Rattle.std.proofs.Common.{◌≡◌, ◌∙◌, ℕ, ◌+◌, ◌++◌, ◌<◌, ◌≤◌, List, [], ◌∷◌, ap, arith, get_or, length, rules, sym, take}
use Rattle.std.proofs.lemmas.List.{take_more}
use Rattle.std.proofs.lemmas.List.Sums.{sum_by-append}
use Rattle.std.proofs.lemmas.Option.{get_or_from_slice_get}
use Rattle.inc_graph.specs.Cuts.{Counted, total_count}
use Rattle.inc_answers.proofs.CutLemmas.{chain_at}
use Rattle.inc_answers.proofs.json_answers.cost_of.Goals as goal

-- one chain more
total_more : (cs : List Counted) (i : ℕ) (c : Counted) → i < length cs → c ≡ get_or cs i c → total_count (take (i + 1) cs) ≡ total_count (take i cs) + c.count
total_more cs i c low at =
    ap total_count (take_more cs i c low ∙ ap (λ (d : Counted). take i cs ++ d ∷ []) (sym at))
    ∙ sum_by-append (λ (d : Counted). d.count) (take i cs) (c ∷ []) ∙ ap (λ n. total_count (take i cs) + n) (omega arith)

pub loop-place-preserved : goal.loop-place-preserved
loop-place-preserved c =
    let chains = c.args.chains.now in
    let i = c.loop-place.place in
    let low : i < length chains = omega (arith, c.loop-place-test.true, c.len-place-end.ensures) in
    let x = chain_at chains i low in
    let count : c.from-cost.result ≡ x.0.count = c.from-cost.ensures ∙ c.count.ensures x.0 x.1 in
    let small : c.count.result ≤ 4_294_967_295 = search rules in
    record {
      sum = ap (λ (n : ℕ). n + c.from-cost.result) c.loop-place.invariant.sum ∙ ap (λ (n : ℕ). total_count (take i chains) + n) count
          ∙ sym (total_more chains i x.0 low (sym (get_or_from_slice_get chains i x.0 x.0 x.1)));
      bound = omega (arith, c.loop-place.invariant.bound, c.from-cost.ensures, small);
    }

pub overflow_add-cost : goal.overflow_add-cost
overflow_add-cost c =
    let small : c.count.result ≤ 4_294_967_295 = search rules in
    omega (arith, c.loop-place.invariant.bound, c.from-cost.ensures, small, c.loop-place-test.true, c.len-place-end.ensures, c.requires)
