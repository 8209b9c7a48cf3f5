use Rattle.std.proofs.Common.{◌++◌, ap, ◌∙◌, arith}
use Rattle.std.proofs.lemmas.Result.{err_from_is_err_and}
use Rattle.inc_expand.specs.Sets.{size}
use Rattle.inc_expand.specs.Joins.{rest_of}
use Rattle.inc_expand.specs.Lent.{lent_tokens}
use Rattle.inc_expand.proofs.JoinSteps.{operand-some}
use Rattle.inc_expand.proofs.pastes.Joiner.operand.Goals as goal

pub returns-then-len-eq0-clause-known : goal.returns-then-len-eq0-clause-known
returns-then-len-eq0-clause-known c = c.in_ok-placemarker.ensures.known (size c.args.sets.now) c.requires.known

pub returns-in_err-argument-clause-fault : goal.returns-in_err-argument-clause-fault
returns-in_err-argument-clause-fault c parts =
    let p = err_from_is_err_and c.from_residual-in_err-argument.result c.from_residual-in_err-argument.ensures.1 in
    rw (p.1, p.2) (λ other.
    ap (λ ps. rest_of c.args.sets.now c.args.self.now (ps ++ parts)) (operand-some c.args.sets.now c.args.space (lent_tokens c.args.tokens) (omega (arith, c.if-len-eq0.false, c.len-len.ensures.len)))
    ∙ c.in_err-argument.ensures.fault parts other)
