use Rattle.std.proofs.Common.{◌∙◌, ◌≡◌, ◌<◌, ℕ, List, [], Some, ap, arith, drop, get_or, length, refl, sym}
use Rattle.std.specs.Prelude.{flat_map, slice_get}
use Rattle.std.specs.List.{All}
use Rattle.std.proofs.lemmas.List.{drop_all}
use Rattle.inc_graph.specs.Cuts.{Counted}
use Rattle.inc_answers.proofs.FlagLemmas.{counted_at, counted_edges, flagging_chain, flagging_ends}
use Rattle.inc_answers.proofs.dot_text.flag_counted.Goals as goal

pub flag_edges-requires : goal.flag_edges-requires
flag_edges-requires c =
    let low : c.loop-place.place < length c.args.chains.now = omega (arith, c.loop-place-test.true, c.len-place-end.ensures) in
    let chain = counted_at c.args.chains.now c.loop-place.place low in
    let within : All (λ i. i < length c.args.flags.now) chain.0.chain = counted_edges (length c.args.flags.now) c.args.chains.now c.loop-place.place chain.0 low chain.1 c.requires in
    rw (c.edges.ensures chain.0 chain.1, c.loop-place.invariant.long) within

pub loop-place-preserved : goal.loop-place-preserved
loop-place-preserved c =
    let low : c.loop-place.place < length c.args.chains.now = omega (arith, c.loop-place-test.true, c.len-place-end.ensures) in
    let chain = counted_at c.args.chains.now c.loop-place.place low in
    record {
      flagging = flagging_chain (λ (x : Counted). x.chain) c.args.flags.now c.loop-place.flags c.flag_edges.new.flags c.args.chains.now _ c.loop-place.place chain.0 low chain.1
          (rw (c.edges.ensures chain.0 chain.1) at c.flag_edges.ensures.flags) c.loop-place.invariant.flagging;
      long = c.flag_edges.ensures.long ∙ c.loop-place.invariant.long;
    }

pub returns-clause-flags : goal.returns-clause-flags
returns-clause-flags c =
    let none : flat_map (λ (x : Counted). x.chain) (drop c.loop-place.place c.args.chains.now) ≡ [] =
    ap (λ (cs : List Counted). flat_map (λ (x : Counted). x.chain) cs) (drop_all c.loop-place.place c.args.chains.now (omega (arith, c.len-place-end.ensures, c.loop-place-test.false))) in
    flagging_ends c.args.flags.now c.loop-place.flags _ _ none c.loop-place.invariant.flagging
