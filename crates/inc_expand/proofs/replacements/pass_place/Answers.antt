use Rattle.std.proofs.Common.{sym, Err}
use Rattle.std.proofs.lemmas.Result.{err_from_is_err_and}
use Rattle.inc_expand.specs.Arguments.{argument_values}
use Rattle.inc_expand.specs.Joins.{rest_of}
use Rattle.inc_expand.proofs.SubstitutionSteps.{made-passed}
use Rattle.inc_expand.proofs.replacements.pass_place.Goals as goal

pub returns-in_err-token-in-Made-clause-fault : goal.returns-in_err-token-in-Made-clause-fault
returns-in_err-token-in-Made-clause-fault c es =
    let p = err_from_is_err_and c.from_residual-in_err-token-in-Made.result c.from_residual-in_err-token-in-Made.ensures.1 in
    rw (p.1, p.2) (λ other. sym (made-passed (rest_of c.args.sets.now c.args.joiner.now) (λ ps. Err _) (argument_values c.args.sets.now c.args.args.now) es _ _ _ _ _
    c.in-Made.is (c.made_string.ensures.token c.args.sets.now) (λ ps. sym (c.in_err-token-in-Made.ensures.fault ps other))))

pub returns-in_ok-token-in-Made-clause-rest : goal.returns-in_ok-token-in-Made-clause-rest
returns-in_ok-token-in-Made-clause-rest c es =
    made-passed (rest_of c.args.sets.now c.args.joiner.now) (rest_of c.token.new.sets c.token.new.self) (argument_values c.args.sets.now c.args.args.now) es _ _ _ _ _
    c.in-Made.is (c.made_string.ensures.token c.args.sets.now) c.in_ok-token-in-Made.ensures.rest
