use Rattle.std.proofs.Common.{Some, arith, ap, ◌∙◌}
use Rattle.inc_directive.specs.LineKinds.{Other}
use Rattle.inc_pp.proofs.GuardSteps.{guard_at}
use Rattle.inc_pp.proofs.guards.guard_of.Goals as goal

pub returns : goal.returns
returns c =
    guard_at c.args.lines.now c.args.plan.now c.count-count.ensures.parts c.requires.planned c.run_end-open.result (omega (arith, c.if-open-count.false, c.count-count.ensures.count))
    c.run_end-open.ensures.text c.run_end-open.ensures.end (c.are_blank.ensures.0 c.if-not-are_blank.false) (c.in-Other-Ifndef.ensures ∙ ap (λ k. Some (Other k)) c.in-Other-Ifndef.field-0-is)
    c.in_Some-close.close c.in_Some-close.ensures (omega (arith, c.if-close-count.false, c.count-count.ensures.count)) c.role.result c.in-EndifLine.is c.role.ensures
    c.run_end-end.result c.run_end-end.ensures.after c.run_end-end.ensures.within (omega (arith, c.if-end-count.false, c.count-count.ensures.count))
    c.run_end-end.ensures.text c.run_end-end.ensures.end (c.are_blank-2.ensures.0 c.if-not-are_blank-2.false)
