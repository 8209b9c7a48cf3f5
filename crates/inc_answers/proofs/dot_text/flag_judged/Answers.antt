use Rattle.std.proofs.Common.{◌≡◌, ◌∙◌, ◌<◌, List, [], ℕ, ap, arith, drop, length, subst, sym}
use Rattle.std.specs.Prelude.{flat_map}
use Rattle.std.specs.List.{All}
use Rattle.std.proofs.lemmas.List.{drop_all}
use Rattle.inc_answers.proofs.FlagLemmas.{flagging_ends, flagging_item}
use Rattle.inc_answers.proofs.dot_text.flag_judged.Goals as goal

pub flag_lists-requires : goal.flag_lists-requires
flag_lists-requires c =
    let within =
    subst (λ j. All (λ v. All (λ i. i < length c.args.flags.now) v.items) j.chains.items) (sym c.rule-item.is) (c.requires c.loop-rule.rule-index c.rule-item.result c.loop-rule-test.true) in
    rw (c.deref.ensures.value, c.loop-rule.invariant.long) within

pub loop-rule-preserved : goal.loop-rule-preserved
loop-rule-preserved c = record {
  flagging = flagging_item (λ j. flat_map (λ v. v.items) j.chains.items) c.args.flags.now c.loop-rule.flags c.flag_lists.new.flags c.args.judged.now _ c.loop-rule.rule-index c.rule-item.result
      c.loop-rule-test.true c.rule-item.is (rw c.deref.ensures.value at c.flag_lists.ensures.flags) c.loop-rule.invariant.flagging;
  long = c.flag_lists.ensures.long ∙ c.loop-rule.invariant.long;
}

pub returns-clause-flags : goal.returns-clause-flags
returns-clause-flags c =
    let none : flat_map (λ j. flat_map (λ v. v.items) j.chains.items) (drop c.loop-rule.rule-index c.args.judged.now) ≡ [] =
    ap (λ js. flat_map (λ j. flat_map (λ v. v.items) j.chains.items) js) (drop_all c.loop-rule.rule-index c.args.judged.now c.loop-rule-test.false) in
    flagging_ends c.args.flags.now c.loop-rule.flags _ _ none c.loop-rule.invariant.flagging
