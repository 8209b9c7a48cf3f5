use Rattle.std.proofs.Common.{◌≡◌, ◌∙◌, ◌<◌, List, [], ℕ, ap, arith, drop, length, subst, sym}
use Rattle.std.specs.Prelude.{flat_map}
use Rattle.std.specs.List.{All}
use Rattle.std.proofs.lemmas.List.{drop_all}
use Rattle.inc_answers.proofs.FlagLemmas.{flagging_ends, flagging_item}
use Rattle.inc_answers.proofs.dot_text.flag_lists.Goals as goal

pub flag_edges-requires : goal.flag_edges-requires
flag_edges-requires c =
    let within = subst (λ v. All (λ i. i < length c.args.flags.now) v.items) (sym c.edges-item.is) (c.requires c.loop-edges.edges-index c.edges-item.result c.loop-edges-test.true) in
    rw (c.deref.ensures.value, c.loop-edges.invariant.long) within

pub loop-edges-preserved : goal.loop-edges-preserved
loop-edges-preserved c = record {
  flagging = flagging_item (λ v. v.items) c.args.flags.now c.loop-edges.flags c.flag_edges.new.flags c.args.lists.now _ c.loop-edges.edges-index c.edges-item.result c.loop-edges-test.true c.edges-item.is
      (rw c.deref.ensures.value at c.flag_edges.ensures.flags) c.loop-edges.invariant.flagging;
  long = c.flag_edges.ensures.long ∙ c.loop-edges.invariant.long;
}

pub returns-clause-flags : goal.returns-clause-flags
returns-clause-flags c =
    let none : flat_map (λ v. v.items) (drop c.loop-edges.edges-index c.args.lists.now) ≡ [] =
    ap (λ vs. flat_map (λ v. v.items) vs) (drop_all c.loop-edges.edges-index c.args.lists.now c.loop-edges-test.false) in
    flagging_ends c.args.flags.now c.loop-edges.flags _ _ none c.loop-edges.invariant.flagging
