use Rattle.std.proofs.Common.{sym, ◌∙◌}
use Rattle.std.proofs.lemmas.Result.{err_from_is_err_and}
use Rattle.inc_expand.specs.Sets.{size}
use Rattle.inc_expand.specs.Joins.{rest_of}
use Rattle.inc_expand.proofs.SubstitutionSteps.{comma-given}
use Rattle.inc_expand.proofs.replacements.pass_comma.Goals as goal

pub returns-in_err-token-clause-fault : goal.returns-in_err-token-clause-fault
returns-in_err-token-clause-fault c parts =
    let p = err_from_is_err_and c.from_residual.result c.from_residual.ensures.1 in
    rw (p.1, p.2) (λ other. comma-given (rest_of c.args.sets.now c.args.joiner.now) c.args.given c.args.comma _ parts
    c.if-given.true (c.token_of.ensures.token c.args.sets.now) ∙ c.in_err-token.ensures.fault parts other)

pub returns-then-given-clause-rest : goal.returns-then-given-clause-rest
returns-then-given-clause-rest c parts =
    c.in_ok-token.ensures.rest parts
    ∙ sym (comma-given (rest_of c.args.sets.now c.args.joiner.now) c.args.given c.args.comma _ parts c.if-given.true (c.token_of.ensures.token c.args.sets.now))

pub returns-clause-known : goal.returns-clause-known
returns-clause-known c = c.in_ok-placemarker.ensures.known (size c.args.sets.now) c.requires
