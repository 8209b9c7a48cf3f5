use Rattle.std.proofs.Common.{◌∙◌, Bool, List, ℕ, ap, subst, sym}
use Rattle.inc_cost.specs.Costs.{Group}
use Rattle.inc_graph.specs.FileSets.{AreFlags}
use Rattle.inc_answers.specs.CostGroups.{IsCutBefore, group_headers}
use Rattle.inc_answers.proofs.cost_groups.cost_group.Goals as goal

pub returns : goal.returns
returns c =
    let g = c.args.graph.now in
    let headers = group_headers c.args.project.now g c.args.group.now in
    let flags = subst (λ (hs : List ℕ). AreFlags hs c.in_ok-flags.flags.items) (c.deref.ensures.value ∙ c.in_ok-headers.ensures.headers) c.in_ok-flags.ensures.flags in
    record {
      name = ap (λ (x : Group). x.name) c.group.view_is;
      costs = (c.deref-2.result.now, subst (λ (bs : List Bool). AreFlags headers bs) (sym c.deref-2.ensures.value) flags, c.in_ok-cost.ensures);
      cut = subst (λ (hs : List ℕ). IsCutBefore g hs c.in_ok-cut.cut) (c.deref-3.ensures.value ∙ c.in_ok-headers.ensures.headers) c.in_ok-cut.ensures;
    }
