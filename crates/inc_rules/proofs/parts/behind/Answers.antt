use Rattle.std.proofs.Common.{arith}
use Rattle.inc_rules.proofs.RuleLemmas.{too_few}
use Rattle.inc_rules.proofs.parts.behind.Goals as goal

pub returns-then-at-words : goal.returns-then-at-words
returns-then-at-words c =
    too_few (λ w. w.now) c.args.first.now c.args.words.now c.loop-at.at _ (omega (arith, c.loop-at-test.true)) (omega (arith, c.if-at-words.true)) c.loop-at.invariant.left
