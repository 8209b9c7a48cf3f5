use Rattle.std.proofs.Common.{◌<◌, ◌∙◌, List, All, ap, subst, sym}
use Rattle.inc_cost.specs.Trees.{branches}
use Rattle.inc_cost.specs.declared.branches.Branch.{Branch}
use Rattle.inc_answers.proofs.StackLemmas.{branches_within}
use Rattle.inc_answers.proofs.trees.tree_branches.Goals as goal

pub returns-clause-within : goal.returns-clause-within
returns-clause-within c =
    let weights = c.args.sizes.now in
    let most = c.args.graph.now.files in
    subst (λ (bs : List Branch). All (λ (b : Branch). b.file < most) bs) (sym (c.in_ok-branches.ensures ∙ ap (branches weights) c.deref.ensures.value))
    (branches_within weights most c.in_ok-nodes.nodes.items c.in_ok-nodes.ensures.within)
