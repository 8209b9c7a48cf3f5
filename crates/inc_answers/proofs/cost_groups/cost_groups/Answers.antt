use Rattle.std.proofs.Common.{[], subst, sym}
use Rattle.inc_answers.specs.CostGroups.{AreCosted, no_group}
use Rattle.inc_answers.proofs.CostGroupLemmas.{more_costed}
use Rattle.inc_answers.proofs.cost_groups.cost_groups.Goals as goal

pub loop-group-init : goal.loop-group-init
loop-group-init c = subst (λ cs. AreCosted c.args.project.now c.args.graph.now c.args.sizes.now [] cs) (sym c.new-costed.ensures.items) no_group

pub loop-group-preserved : goal.loop-group-preserved
loop-group-preserved c =
    more_costed c.args.project.now c.args.graph.now c.args.sizes.now c.args.groups.now c.loop-group.group-index c.group-item.result c.in_ok-cost_group.field-0 c.loop-group.costed.items c.push.new.self.items
    c.loop-group-test.true c.group-item.is c.in_ok-push.ensures.items c.loop-group.invariant c.in_ok-cost_group.ensures
