use Rattle.std.proofs.Common.{List, sym, ap, ◌∙◌, arith}
use Rattle.inc_expand.specs.Arguments.{ArgumentValue}
use Rattle.inc_expand.specs.Cases.{surroundings_value}
use Rattle.inc_expand.specs.Lent.{lent_tokens}
use Rattle.inc_expand.proofs.FrameSteps.{passed-skip, passed-one}
use Rattle.inc_expand.proofs.SubstitutionSteps.{no_argument}
use Rattle.inc_expand.proofs.cases.Surroundings.pass_argument.Goals as goal

pub returns-then-not-call-at-clause-passed : goal.returns-then-not-call-at-clause-passed
returns-then-not-call-at-clause-passed c _ =
    let few = c.requires.noted.few in
    let within = c.requires.within in
    passed-skip (surroundings_value c.args.self.now) c.args.deeper c.args.call.now c.args.at within
    (sym (c.requires.noted.wanted c.args.at (omega (arith, few, within))) ∙ c.if-not-call-at.true)

pub returns-clause-passed : goal.returns-clause-passed
returns-clause-passed c _ =
    let few = c.requires.noted.few in
    let within = c.requires.within in
    passed-one (surroundings_value c.args.self.now) c.args.deeper c.args.call.now c.args.at no_argument (lent_tokens c.written.result) _ within
    (sym (c.requires.noted.wanted c.args.at (omega (arith, few, within))) ∙ c.if-not-call-at.false) (c.written.ensures no_argument)
    (λ sets meter. c.pass.ensures sets meter c.if-not-pass.false) (ap (λ (as' : List ArgumentValue). record c.args.call.now { args = as' }) (c.pass-2.ensures no_argument))
