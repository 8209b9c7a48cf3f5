use Rattle.std.proofs.Common.{◌∙◌, ap}
use Rattle.std.proofs.lemmas.Result.{err_from_is_err_and}
use Rattle.inc_expand.specs.Cases.{surroundings_value}
use Rattle.inc_expand.proofs.OpenSteps.{opening-begun, opening-fault, opening-over, opening-smaller, opening-turn, opening-waits-as}
use Rattle.inc_expand.proofs.cases.Surroundings.opened.Goals as goal

pub loop-token-init : goal.loop-token-init
loop-token-init c = opening-begun (surroundings_value c.args.self.now) c.args.work.now c.args.list.now c.new-out.result.items c.new-out.ensures.items c.requires

pub returns-in_err-more-clause-fault : goal.returns-in_err-more-clause-fault
returns-in_err-more-clause-fault c =
    let p = err_from_is_err_and c.from_residual.result c.from_residual.ensures.1 in
    rw (p.1, p.2) (λ other.
    opening-fault (surroundings_value c.args.self.now) c.args.work.now c.args.list.now c.loop-token.work c.loop-token.list c.loop-token.out.items c.loop-token.invariant c.in-Some.token c.pop.new.self
    c.in-Some.ensures.some _ (c.in_err-more.ensures.fault other))

pub returns-then-not-more-clause-opened : goal.returns-then-not-more-clause-opened
returns-then-not-more-clause-opened c =
    let w = c.in_ok-more.ensures.waits c.if-not-more.true in
    opening-waits-as (surroundings_value c.args.self.now) c.args.work.now c.args.list.now c.loop-token.work c.loop-token.list c.loop-token.out.items c.loop-token.invariant c.in-Some.token c.pop.new.self
    c.in-Some.ensures.some c.open_step.new.work c.open_step.new.list c.open_step.new.out.items w.0 (ap (λ v. v.items) w.1) w.2 w.3

pub loop-token-smaller : goal.loop-token-smaller
loop-token-smaller c =
    opening-smaller (surroundings_value c.args.self.now) c.args.work.now c.args.list.now c.loop-token.work c.loop-token.list c.loop-token.out.items c.loop-token.invariant c.in-Some.token c.pop.new.self
    c.in-Some.ensures.some c.open_step.new.work c.open_step.new.list c.open_step.new.out.items (c.in_ok-more.ensures.onward c.if-not-more.false)

pub loop-token-preserved : goal.loop-token-preserved
loop-token-preserved c =
    opening-turn (surroundings_value c.args.self.now) c.args.work.now c.args.list.now c.loop-token.work c.loop-token.list c.loop-token.out.items c.loop-token.invariant c.in-Some.token c.pop.new.self
    c.in-Some.ensures.some c.open_step.new.work c.open_step.new.list c.open_step.new.out.items (c.in_ok-more.ensures.onward c.if-not-more.false)

pub returns-clause-opened : goal.returns-clause-opened
returns-clause-opened c =
    opening-over (surroundings_value c.args.self.now) c.args.work.now c.args.list.now c.loop-token.work c.loop-token.list c.loop-token.out.items c.loop-token.invariant c.pop.new.self
    c.in_default.ensures.same c.in_default.ensures.none
