use Rattle.std.proofs.Common.{◌∙◌, ◌<◌, List, ℕ, ap, length, rules, subst}
use Rattle.std.proofs.lemmas.Result.{IfOk-weaker}
use Rattle.inc_graph.specs.Between.{between}
use Rattle.inc_graph.specs.IncludeGraph.{Graph}
use Rattle.inc_answers.specs.CostGroups.{IsCounted}
use Rattle.inc_answers.specs.declared.cost_groups.CutCount.TheVariants.{Blocked}
use Rattle.inc_answers.proofs.CostGroupLemmas.{counted_cut, cut_before}
use Rattle.inc_answers.proofs.cost_groups.count_cut.Goals as goal

pub returns-then-branch : goal.returns-then-branch
returns-then-branch c =
    let some : 0 < length c.args.headers.now = search rules in
    cut_before c.args.graph.now c.args.headers.now Blocked some (rw c.if-branch.true at c.in_ok-is_open.ensures.chain)

pub returns : goal.returns
returns c =
    let g = c.args.graph.now in
    let headers = c.args.headers.now in
    let some : 0 < length headers = search rules in
    let part = c.in_ok-part.ensures.graph ∙ ap (λ (from : List ℕ). between from headers g) c.sources.ensures.sources in
    IfOk-weaker c.count_smallest.result _ _
    (λ count is. cut_before g headers count some (counted_cut g headers count (c.in_ok-is_open.ensures.none c.if-branch.false) (subst (λ (h : Graph). IsCounted h count) part is)))
    c.count_smallest.ensures
