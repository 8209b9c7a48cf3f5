use Rattle.std.proofs.Common.{ℕ, ◌+◌, ap, ◌∙◌}
use Rattle.std.specs.Prelude.{◌&&◌}
use Rattle.inc_check.specs.Checking.{capped}
use Rattle.inc_check.proofs.ChainSumLemmas.{ended}
use Rattle.inc_check.proofs.checking.chain_sums.ChainSums.end.Goals as goal

pub returns-clause-summed : goal.returns-clause-summed
returns-clause-summed c layout chains marks so_far =
    ended layout c.args.graph.now chains c.args.count marks c.args.self.now c.saturating_add-self.result c.are_both-self.result c.requires.fitted
    (c.saturating_add-self.ensures ∙ ap (λ (n : ℕ). capped (c.args.self.now.total + n)) c.from.ensures)
    (c.are_both-self.ensures ∙ ap (λ b. c.args.self.now.good && b) c.ends-ends.ensures) so_far
