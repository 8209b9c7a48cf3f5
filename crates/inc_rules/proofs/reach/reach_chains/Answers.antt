use Rattle.std.proofs.Common.{◌≡◌, ◌∙◌, List, [], ℕ, ap, map, subst, sym}
use Rattle.std.proofs.lemmas.Result.{IfOk-weaker}
use Rattle.inc_graph.specs.Between.{between}
use Rattle.inc_graph.specs.Reaching.{AreReaching, no_more}
use Rattle.inc_rules.proofs.JudgeLemmas.{no_elements, reaching_within}
use Rattle.inc_rules.proofs.reach.reach_chains.Goals as goal

pub returns-then-is_empty : goal.returns-then-is_empty
returns-then-is_empty c =
    let none : c.args.from.now ≡ [] = no_elements c.args.from.now (sym c.is_empty.ensures ∙ c.if-is_empty.true) in
    ([], subst (λ (from : List ℕ). AreReaching (between c.args.from.now c.args.to.now c.args.graph.now) from []) (sym none) no_more, ap (map (λ c. c.items)) c.new.ensures.items)

pub whole_chains-requires : goal.whole_chains-requires
whole_chains-requires c =
    rw (c.deref.ensures.value, c.in_ok-part.ensures.long) (reaching_within c.in_ok-part.part.graph _ c.in_ok-reaching.reaching.left c.in_ok-reaching.ensures.all)

pub returns : goal.returns
returns c =
    let all = rw c.in_ok-part.ensures.graph at c.in_ok-reaching.ensures.all in
    let chains = rw (c.deref.ensures.value, c.in_ok-part.ensures.numbers) at c.whole_chains.ensures in
    IfOk-weaker c.whole_chains.result _ _ (λ made is. (c.in_ok-reaching.reaching.left, all, is)) chains
