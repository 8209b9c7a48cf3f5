use Rattle.inc_expand.proofs.ItemSteps.{items-more}
use Rattle.inc_expand.proofs.items.items_of.Goals as goal

pub loop-token-preserved : goal.loop-token-preserved
loop-token-preserved c s =
    items-more s c.args.tokens.now _ _ _ _ _ c.loop-token-test.true c.in_ok-push.ensures.items (c.in_ok-item.ensures s) (c.loop-token.invariant s)
