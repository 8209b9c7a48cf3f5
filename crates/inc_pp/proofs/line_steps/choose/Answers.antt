use Rattle.std.proofs.Common.{◌∙◌, arith}
use Rattle.inc_pp.specs.StateViews.{state_of}
use Rattle.inc_pp.specs.Stops.{IsSearched}
use Rattle.inc_pp.proofs.Choosing.{choosing-from, choosing-true, choosing-none, choosing-within, choosing-elif, choosing-last, stop_of}
use Rattle.inc_pp.proofs.line_steps.choose.Goals as goal

pub loop-fault-init : goal.loop-fault-init
loop-fault-init c = choosing-from c.args.lines.now c.args.plan.now c.requires.planned (IsSearched c.args.settings.now c.args.headers.now) c.args.part (state_of c.args.state.now) c.args.here.now c.requires.within c.requires.opens

pub takes-requires-clause-within : goal.takes-requires-clause-within
takes-requires-clause-within c = c.loop-fault.invariant.within

pub overflow_add-result : goal.overflow_add-result
overflow_add-result c = omega (arith, c.loop-fault.invariant.within, c.count-count.ensures.count, c.count-count.type_inv)

pub returns-in-Ok-true-clause-next : goal.returns-in-Ok-true-clause-next
returns-in-Ok-true-clause-next c = choosing-true c.args.lines.now c.args.plan.now c.requires.planned (IsSearched c.args.settings.now c.args.headers.now) c.args.part (state_of c.args.state.now) c.args.here.now c.loop-fault.at (state_of c.loop-fault.state) c.loop-fault.invariant (state_of c.takes.new.self) c.in-Ok-true.field-0 c.in-Ok-true.field-0-test c.in-Ok-true.ensures.done

pub returns-in-Ok-true-clause-onward : goal.returns-in-Ok-true-clause-onward
returns-in-Ok-true-clause-onward c = omega (arith, c.loop-fault.invariant.onward)

pub returns-in-Err-clause-stop : goal.returns-in-Err-clause-stop
returns-in-Err-clause-stop c = stop_of c.args.lines.now c.args.plan.now c.requires.planned (IsSearched c.args.settings.now c.args.headers.now) c.args.part (state_of c.args.state.now) c.args.here.now c.loop-fault.at (state_of c.loop-fault.state) (state_of c.takes.new.self) c.loop-fault.invariant c.in-Err.fault c.in-Err.ensures.stop

pub unreachable-requires : goal.unreachable-requires
unreachable-requires c = choosing-none c.args.lines.now c.args.plan.now c.requires.planned (IsSearched c.args.settings.now c.args.headers.now) c.args.part (state_of c.args.state.now) c.args.here.now c.loop-fault.at (state_of c.loop-fault.state) c.loop-fault.invariant c.in_default-next.ensures

pub role-requires : goal.role-requires
role-requires c = (choosing-within c.args.lines.now c.args.plan.now c.requires.planned (IsSearched c.args.settings.now c.args.headers.now) c.args.part (state_of c.args.state.now) c.args.here.now c.loop-fault.at (state_of c.loop-fault.state) c.loop-fault.invariant c.in_Some-next.next c.in_Some-next.ensures).0

pub loop-fault-smaller : goal.loop-fault-smaller
loop-fault-smaller c =
    let low = choosing-within c.args.lines.now c.args.plan.now c.requires.planned (IsSearched c.args.settings.now c.args.headers.now) c.args.part (state_of c.args.state.now) c.args.here.now c.loop-fault.at (state_of c.loop-fault.state) c.loop-fault.invariant c.in_Some-next.next c.in_Some-next.ensures in
    omega (arith, low.0, low.1)

pub loop-fault-preserved : goal.loop-fault-preserved
loop-fault-preserved c = choosing-elif c.args.lines.now c.args.plan.now c.requires.planned (IsSearched c.args.settings.now c.args.headers.now) c.args.part (state_of c.args.state.now) c.args.here.now c.loop-fault.at (state_of c.loop-fault.state) c.loop-fault.invariant (state_of c.takes.new.self) c.in-Ok-false.field-0 c.in-Ok-false.field-0-test c.in-Ok-false.ensures.done c.in_Some-next.next c.in_Some-next.ensures c.role.result c.role.ensures c.in-ElifGroup.is c.takes.ensures.reads

pub overflow_add-result-in_default : goal.overflow_add-result-in_default
overflow_add-result-in_default c =
    let low = choosing-within c.args.lines.now c.args.plan.now c.requires.planned (IsSearched c.args.settings.now c.args.headers.now) c.args.part (state_of c.args.state.now) c.args.here.now c.loop-fault.at (state_of c.loop-fault.state) c.loop-fault.invariant c.in_Some-next.next c.in_Some-next.ensures in
    omega (arith, low.0, c.count-count.ensures.count, c.count-count.type_inv)

pub returns-in_default : goal.returns-in_default
returns-in_default c =
    let low = choosing-within c.args.lines.now c.args.plan.now c.requires.planned (IsSearched c.args.settings.now c.args.headers.now) c.args.part (state_of c.args.state.now) c.args.here.now c.loop-fault.at (state_of c.loop-fault.state) c.loop-fault.invariant c.in_Some-next.next c.in_Some-next.ensures in
    record {
      next = choosing-last c.args.lines.now c.args.plan.now c.requires.planned (IsSearched c.args.settings.now c.args.headers.now) c.args.part (state_of c.args.state.now) c.args.here.now c.loop-fault.at (state_of c.loop-fault.state) c.loop-fault.invariant (state_of c.takes.new.self) c.in-Ok-false.field-0 c.in-Ok-false.field-0-test c.in-Ok-false.ensures.done c.in_Some-next.next c.in_Some-next.ensures c.role.result c.role.ensures c.count-count.ensures.parts c.in_default.not-ElifGroup;
      onward = omega (arith, low.1, c.loop-fault.invariant.onward);
      reads = c.takes.ensures.reads ∙ c.loop-fault.invariant.kept;
      stop = tt;
    }

pub returns-in-Ok-true-clause-reads : goal.returns-in-Ok-true-clause-reads
returns-in-Ok-true-clause-reads c = c.takes.ensures.reads ∙ c.loop-fault.invariant.kept

pub returns-in-Err-clause-reads : goal.returns-in-Err-clause-reads
returns-in-Err-clause-reads c = c.takes.ensures.reads ∙ c.loop-fault.invariant.kept
