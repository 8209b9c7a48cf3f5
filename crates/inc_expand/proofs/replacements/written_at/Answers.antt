use Rattle.std.proofs.Common.{ap, sym, ◌∙◌, subst, arith}
use Rattle.inc_expand.specs.Carriers.{carriers, AreKnown}
use Rattle.inc_expand.proofs.SubstitutionSteps.{argument-some, argument-known, no_argument}
use Rattle.inc_expand.proofs.replacements.written_at.Goals as goal

pub returns-clause-tokens : goal.returns-clause-tokens
returns-clause-tokens c s =
    ap (carriers s) (c.written.ensures no_argument)
    ∙ ap (λ a. a.written) (sym (argument-some s c.args.args.now c.args.n no_argument (omega (arith, c.if-n-len.false, c.len.ensures))))

pub returns-clause-known : goal.returns-clause-known
returns-clause-known c m h =
    subst (AreKnown m) (sym (c.written.ensures no_argument))
    (argument-known m c.args.args.now c.args.n no_argument (omega (arith, c.if-n-len.false, c.len.ensures)) h).0
