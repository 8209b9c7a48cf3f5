use Rattle.std.proofs.Common.{◌≡◌, ◌<◌, ◌∙◌, List, ap, arith, get_or, length, set, sym}
use Rattle.std.proofs.lemmas.List.{set-get_or}
use Rattle.inc_rules.specs.Sides.{Sides}
use Rattle.inc_rules.proofs.SideLemmas.{found_there, passed_over}
use Rattle.inc_rules.proofs.rule_subjects.is_subject.Goals as goal

pub returns-then-branch-clause-is : goal.returns-then-branch-clause-is
returns-then-branch-clause-is c rules made =
    let low : c.loop-index.index < length c.args.sides.now.items = omega (arith, c.loop-index-test.true, c.len-index-end.ensures) in
    let is : c.index_mut.result.now ≡ get_or c.args.sides.now.items c.loop-index.index c.index_mut.result.now =
    c.index_mut.ensures.value ∙ ap (λ (l : List Sides). get_or l c.loop-index.index c.index_mut.result.now) c.loop-index.invariant.same in
    sym (c.loop-index.invariant.left rules made
    ∙ found_there c.args.path.now c.args.sides.now.items rules c.loop-index.index c.index_mut.result.now made low is
    (λ r same. sym (c.in_ok-is_left.ensures.left r same) ∙ c.if-branch.true))

pub loop-index-preserved : goal.loop-index-preserved
loop-index-preserved c =
    let low : c.loop-index.index < length c.args.sides.now.items = omega (arith, c.loop-index-test.true, c.len-index-end.ensures) in
    let is : c.index_mut.result.now ≡ get_or c.args.sides.now.items c.loop-index.index c.index_mut.result.now =
    c.index_mut.ensures.value ∙ ap (λ (l : List Sides). get_or l c.loop-index.index c.index_mut.result.now) c.loop-index.invariant.same in
    record {
      same = ap (λ (s : Sides). set c.loop-index.sides.items c.loop-index.index s) (c.is_left.ensures.same ∙ c.index_mut.ensures.value)
          ∙ set-get_or c.loop-index.sides.items c.loop-index.index c.index_mut.result.now ∙ c.loop-index.invariant.same;
      left = λ rules made.
          c.loop-index.invariant.left rules made
          ∙ passed_over c.args.path.now c.args.sides.now.items rules c.loop-index.index c.index_mut.result.now made low is
          (λ r same. sym (c.in_ok-is_left.ensures.left r same) ∙ c.if-branch.false);
    }
