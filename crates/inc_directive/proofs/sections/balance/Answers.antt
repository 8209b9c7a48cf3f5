use Rattle.std.proofs.Common.{◌≡◌, ◌-◌, ◌++◌, ◌∷◌, [], Err, Option, arith, ap, sym, ◌∙◌, subst}
use Rattle.inc_directive.specs.Below.{outlook_of}
use Rattle.inc_directive.specs.declared.sections.BalanceFault.{BalanceFault}
use Rattle.inc_directive.specs.declared.sections.Lead.{Lead}
use Rattle.inc_directive.proofs.PartPlans.{IsWalked, fault_over, plan_over, walked_begun, walked_part}
use Rattle.inc_directive.proofs.sections.balance.Goals as goal

pub loop-i-init : goal.loop-i-init
loop-i-init c = walked_begun c.args.lines.now c.count-i.result (outlook_of c.new-below.result) c.new-leads.result.items c.count-i.ensures.count c.new-below.ensures c.new-leads.ensures.items

pub loop-i-preserved : goal.loop-i-preserved
loop-i-preserved c =
    let i = c.loop-i.i - 1 in
    let pushed = c.in_ok-push.ensures.items ∙ ap (λ (d : Option Lead). c.loop-i.leads.items ++ d ∷ []) c.lead_of.ensures in
    walked_part c.args.lines.now i c.loop-i.i (outlook_of c.loop-i.below) (outlook_of c.take.new.self) c.loop-i.leads.items c.push.new.self.items c.role.result c.in_ok-jump.jump
    (omega (arith, c.loop-i-test.true)) (omega (arith, c.loop-i-test.true, c.loop-i.auto.i, c.count-i.ensures.count)) c.role.ensures c.in_ok-jump.ensures.jump c.in_ok-jump.ensures.outlook pushed c.loop-i.invariant

pub returns-in-Some-clause-fault : goal.returns-in-Some-clause-fault
returns-in-Some-clause-fault c = λ _.
    let o = outlook_of c.loop-i.below in
    let over : c.loop-i.i ≡ 0 = omega (arith, c.loop-i-test.false) in
    let walked = subst (λ k. IsWalked c.args.lines.now k o c.loop-i.leads.items) over c.loop-i.invariant in
    fault_over c.args.lines.now o c.loop-i.leads.items c.in-Some.fault c.count-i.ensures.parts walked (sym c.first_fault.ensures ∙ c.in-Some.is)
    ∙ ap (λ (f : BalanceFault). Err f) (sym c.fault_in.ensures)

pub returns-clause-plan : goal.returns-clause-plan
returns-clause-plan c =
    let o = outlook_of c.loop-i.below in
    let over : c.loop-i.i ≡ 0 = omega (arith, c.loop-i-test.false) in
    let walked = subst (λ k. IsWalked c.args.lines.now k o c.loop-i.leads.items) over c.loop-i.invariant in
    plan_over c.args.lines.now o c.loop-i.leads.items c.reverse.new.self.items c.count-i.ensures.parts walked (sym c.first_fault.ensures ∙ c.in_default.is) c.reverse.ensures.items
