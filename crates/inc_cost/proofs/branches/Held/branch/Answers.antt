use Rattle.std.proofs.Common.{◌≡◌, ◌+◌, rules}
use Rattle.inc_cost.specs.Trees.{own}
use Rattle.inc_cost.proofs.BranchLemmas.{pushed}
use Rattle.inc_cost.proofs.branches.Held.branch.Goals as goal

pub returns-clause-held : goal.returns-clause-held
returns-clause-held c = λ nodes h.
    (let mine : c.weight-own.result ≡ own c.args.weights.now c.args.node.now = search rules in
    let whole : c.in_ok-whole.whole ≡ c.weight-own.result + c.in_ok-under.under = search rules in
    pushed c.args.weights.now c.args.node.now nodes c.args.self.now c.take_below.new.self c.push.new.self c.weight-own.result c.in_ok-under.under c.in_ok-whole.whole mine c.in_ok-under.ensures.sum
    c.in_ok-under.ensures.behind whole c.in_ok-push.ensures h)
