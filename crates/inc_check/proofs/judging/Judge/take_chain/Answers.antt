use Rattle.std.proofs.Common.{ℕ, ◌-◌, ◌<◌, ap, refl, arith}
use Rattle.inc_check.specs.Reading.{closed}
use Rattle.inc_check.proofs.JudgeLemmas.{chain_begun}
use Rattle.inc_check.proofs.judging.Judge.take_chain.Goals as goal

pub returns-clause-judged : goal.returns-clause-judged
returns-clause-judged c layout amounts s h b =
    let some : 0 < c.args.self.now.chains_left = omega (arith, c.if-self-eq0.false) in
    let shut = c.close.ensures.closed layout amounts s h b in
    chain_begun layout c.args.graph.now amounts c.args.self.now c.close.new.self _ s c.args.line.now c.in-Some.head c.head_in.result h some c.head_in.ensures c.in-Some.is shut refl
    (c.in_ok-begin.ensures.begun layout (closed s) shut.chains) refl refl refl (ap (λ (n : ℕ). n - 1) c.close.ensures.left)
