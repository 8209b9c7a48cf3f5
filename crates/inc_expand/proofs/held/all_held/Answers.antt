use Rattle.std.proofs.Common.{◌≡◌, ◌++◌, ap, length, map, subst, arith}
use Rattle.inc_expand.specs.Carriers.{carriers, AreKnown}
use Rattle.inc_expand.specs.Openings.{held}
use Rattle.inc_expand.specs.HeldTokens.{seen_held}
use Rattle.inc_expand.specs.Sets.{size}
use Rattle.inc_expand.proofs.HeldSteps.{held-begun, held-done, held-more}
use Rattle.inc_expand.proofs.held.all_held.Goals as goal

pub loop-token-init : goal.loop-token-init
loop-token-init c = (c.requires, held-begun c.args.sets.now c.in_ok-all.all.items c.args.list.now c.in_ok-all.ensures.items)

pub held_of-requires : goal.held_of-requires
held_of-requires c = (subst (AreKnown (size c.args.sets.now)) c.in-Some.ensures.some c.loop-token.invariant.0).0

pub loop-token-smaller : goal.loop-token-smaller
loop-token-smaller c = let n = ap length c.in-Some.ensures.some in omega (arith, n)

pub loop-token-preserved : goal.loop-token-preserved
loop-token-preserved c = (
  (subst (AreKnown (size c.args.sets.now)) c.in-Some.ensures.some c.loop-token.invariant.0).1,
  held-more c.args.sets.now c.loop-token.all.items c.push.new.self.items c.in_ok-it.it c.in-Some.token c.loop-token.list c.pop.new.self _ c.in-Some.ensures.some c.in_ok-push.ensures.items c.in_ok-it.ensures
      c.loop-token.invariant.1,
)

pub returns : goal.returns
returns c = held-done c.args.sets.now c.loop-token.all.items c.loop-token.list _ c.in_default.ensures.none c.loop-token.invariant.1
