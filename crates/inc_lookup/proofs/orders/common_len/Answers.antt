use Rattle.std.proofs.Common.{◌+◌, ◌-◌, sym, subst, arith}
use lib.Count.{count_trailing_zeros}
use Rattle.inc_lookup.specs.PathLists.{IsCommon}
use Rattle.inc_lookup.proofs.OrderLemmas.{common_to, same_on}
use Rattle.inc_lookup.proofs.orders.common_len.Goals as goal

pub returns-then-differ-ne0 : goal.returns-then-differ-ne0
returns-then-differ-ne0 c =
    let p = c.args.path.now in
    let q = c.args.other.now in
    subst (λ m. IsCommon p q c.args.both (c.loop-at.at + count_trailing_zeros 64 m)) (sym c.differing-differ.ensures)
    (common_to p q c.args.both c.loop-at.at c.requires.left c.requires.right (omega arith) c.loop-at.invariant.same (omega (arith, c.differing-differ.ensures)))

pub loop-at-preserved : goal.loop-at-preserved
loop-at-preserved c = record {
  within = omega arith;
  same = same_on c.args.path.now c.args.other.now c.loop-at.at (omega arith) (omega arith) c.loop-at.invariant.same (omega (arith, c.differing-differ.ensures));
}

pub returns-then-rest-ne0 : goal.returns-then-rest-ne0
returns-then-rest-ne0 c =
    let p = c.args.path.now in
    let q = c.args.other.now in
    let last = c.args.both - 16 in
    subst (λ m. IsCommon p q c.args.both (last + count_trailing_zeros 64 m)) (sym c.differing-rest.ensures)
    (common_to p q c.args.both last c.requires.left c.requires.right (omega arith) (λ k low. c.loop-at.invariant.same k (omega arith)) (omega (arith, c.differing-rest.ensures)))

pub returns : goal.returns
returns c = record {
  within = omega arith;
  same = λ k low. same_on c.args.path.now c.args.other.now (c.args.both - 16) (omega arith) (omega arith) (λ j below. c.loop-at.invariant.same j (omega arith)) (omega (arith, c.differing-rest.ensures)) k (omega arith);
  differ = λ inside. absurd (omega arith);
}
