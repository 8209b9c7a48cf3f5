use Rattle.inc_lookup.proofs.ReducedLemmas.{without_more, without_stop}
use Rattle.inc_lookup.proofs.header_names.drop_lasts.Goals as goal

pub returns-then-not-drop_last : goal.returns-then-not-drop_last
returns-then-not-drop_last c =
    without_stop c.args.root c.loop.counter c.args.count c.args.out.now.items c.loop.out.items c.drop_last.new.out.items c.loop.invariant c.loop-test.true (rw c.if-not-drop_last.true at c.drop_last.ensures.shows)

pub loop-preserved : goal.loop-preserved
loop-preserved c =
    without_more c.args.root c.loop.counter c.args.out.now.items c.loop.out.items c.drop_last.new.out.items c.loop.invariant (rw c.if-not-drop_last.false at c.drop_last.ensures.shows)
