use Rattle.std.proofs.Common.{◌≡◌, ◌∙◌, ℕ, length, rules, subst, sym}
use Rattle.inc_answers.specs.CostGroups.{IsCounted}
use Rattle.inc_answers.specs.declared.cost_groups.CutCount.TheVariants.{Smallest}
use Rattle.inc_answers.proofs.CostGroupLemmas.{counted_of, none_counted}
use Rattle.inc_answers.proofs.cost_groups.count_smallest.Goals as goal

pub returns-in-Cut : goal.returns-in-Cut
returns-in-Cut c =
    let answer = rw c.in-Cut.is at c.in_ok-answer.ensures.answer in
    let long : c.in-Cut.edges.len ≡ length c.in-Cut.edges.items = search rules in
    subst (λ (n : ℕ). IsCounted c.args.part.now (Smallest n)) (sym (c.len.ensures ∙ long))
    (counted_of c.args.project.now c.args.part.now c.in_ok-fixed.fixed c.in-Cut.edges.items c.in_ok-fixed.ensures answer.nearest.cheapest)

pub returns : goal.returns
returns c =
    let answer = rw c.in-Fixed.is at c.in_ok-answer.ensures.answer in
    none_counted c.args.project.now c.args.part.now c.in_ok-fixed.fixed c.in-Fixed.chain.edges c.in_ok-fixed.ensures answer
