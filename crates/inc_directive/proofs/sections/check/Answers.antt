use Rattle.std.proofs.Common.{◌≡◌, ◌-◌, ◌++◌, ◌∷◌, [], Err, option_map, arith, ap, sym, refl, ◌∙◌, subst}
use Rattle.inc_directive.specs.Below.{outlook_of}
use Rattle.inc_directive.specs.Plans.{lead_of}
use Rattle.inc_directive.specs.declared.sections.BalanceFault.{BalanceFault}
use Rattle.inc_directive.proofs.PartPlans.{IsWalked, fault_over, plan_over, walked_begun, walked_part}
use Rattle.inc_directive.proofs.sections.check.Goals as goal

pub loop-i-init : goal.loop-i-init
loop-i-init c = ([], walked_begun c.args.lines.now c.count-i.result (outlook_of c.new-below.result) [] c.count-i.ensures.count c.new-below.ensures refl)

pub loop-i-preserved : goal.loop-i-preserved
loop-i-preserved c =
    let i = c.loop-i.i - 1 in
    let h = c.loop-i.invariant in (
      h.0 ++ option_map lead_of c.in_ok-take.field-0 ∷ [],
      walked_part c.args.lines.now i c.loop-i.i (outlook_of c.loop-i.below) (outlook_of c.take.new.self) h.0 _ c.role.result c.in_ok-take.field-0
          (omega (arith, c.loop-i-test.true)) (omega (arith, c.loop-i-test.true, c.loop-i.auto.i, c.count-i.ensures.count)) c.role.ensures c.in_ok-take.ensures.jump c.in_ok-take.ensures.outlook refl h.1,
    )

pub returns-in-Some-clause-fault : goal.returns-in-Some-clause-fault
returns-in-Some-clause-fault c = λ _.
    let o = outlook_of c.loop-i.below in
    let over : c.loop-i.i ≡ 0 = omega (arith, c.loop-i-test.false) in
    let h = c.loop-i.invariant in
    let walked = subst (λ k. IsWalked c.args.lines.now k o h.0) over h.1 in
    fault_over c.args.lines.now o h.0 c.in-Some.fault c.count-i.ensures.parts walked (sym c.first_fault.ensures ∙ c.in-Some.is)
    ∙ ap (λ (f : BalanceFault). Err f) (sym c.fault_in.ensures)

pub returns-in-None-clause-tree : goal.returns-in-None-clause-tree
returns-in-None-clause-tree c =
    let o = outlook_of c.loop-i.below in
    let over : c.loop-i.i ≡ 0 = omega (arith, c.loop-i-test.false) in
    let h = c.loop-i.invariant in
    let walked = subst (λ k. IsWalked c.args.lines.now k o h.0) over h.1 in
    let plan = plan_over c.args.lines.now o h.0 _ c.count-i.ensures.parts walked (sym c.first_fault.ensures ∙ c.in-None.is) refl in
    plan.tree
