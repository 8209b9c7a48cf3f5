use Rattle.std.proofs.lemmas.Result.{err_from_is_err_and}
use Rattle.inc_expand.specs.Cases.{surroundings_value}
use Rattle.inc_expand.proofs.FrameSteps.{at-level}
use Rattle.inc_expand.proofs.cases.Surroundings.expanded.Goals as goal

pub returns-in_err-out-clause-fault : goal.returns-in_err-out-clause-fault
returns-in_err-out-clause-fault c =
    let p = err_from_is_err_and c.from_residual.result c.from_residual.ensures.1 in
    rw (p.1, p.2) (λ other. at-level (surroundings_value c.args.self.now) _ _ _ _ _ c.levels_above.ensures (c.in_err-out.ensures.fault other))

pub returns-clause-expanded : goal.returns-clause-expanded
returns-clause-expanded c = at-level (surroundings_value c.args.self.now) _ _ _ _ _ c.levels_above.ensures c.in_ok-out.ensures.expanded
