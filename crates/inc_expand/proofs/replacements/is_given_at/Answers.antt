use Rattle.std.proofs.Common.{ap, sym, ◌∙◌, arith}
use Rattle.inc_expand.proofs.SubstitutionSteps.{argument-none, argument-some, no_argument}
use Rattle.inc_expand.proofs.replacements.is_given_at.Goals as goal

pub returns-then-n-len : goal.returns-then-n-len
returns-then-n-len c s = ap (λ a. a.given) (sym (argument-none s c.args.args.now c.args.n (omega (arith, c.if-n-len.true, c.len.ensures))))

pub returns : goal.returns
returns c s =
    c.is_given.ensures no_argument
    ∙ ap (λ a. a.given) (sym (argument-some s c.args.args.now c.args.n no_argument (omega (arith, c.if-n-len.false, c.len.ensures))))
