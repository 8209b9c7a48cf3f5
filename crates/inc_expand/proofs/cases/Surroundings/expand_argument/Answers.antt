use Rattle.std.proofs.Common.{◌∙◌, ap, sym, suc, ◌≡◌, List, arith, subst}
use Rattle.std.proofs.lemmas.Result.{err_from_is_err_and}
use Rattle.inc_expand.specs.Arguments.{ArgumentValue}
use Rattle.inc_expand.specs.Carriers.{carriers, AreKnown}
use Rattle.inc_expand.specs.Cases.{surroundings_value}
use Rattle.inc_expand.specs.Expansion.{levels}
use Rattle.inc_expand.specs.Openings.{levels_above}
use Rattle.inc_expand.specs.Sets.{size}
use Rattle.inc_expand.proofs.LevelSteps.{known_in-at}
use Rattle.inc_expand.proofs.OpenSteps.{expanded-one, expanded-skip, of-list, opened-fault}
use Rattle.inc_expand.proofs.SubstitutionSteps.{no_argument}
use Rattle.inc_expand.proofs.cases.Surroundings.expand_argument.Goals as goal

pub returns-then-not-call-at-clause-done : goal.returns-then-not-call-at-clause-done
returns-then-not-call-at-clause-done c =
    let few = c.requires.noted.few in
    let within = c.requires.within in
    expanded-skip (surroundings_value c.args.self.now) c.args.work.now c.args.call.now c.args.at c.requires.call within
    (sym (c.requires.noted.wanted c.args.at (omega (arith, few, within))) ∙ c.if-not-call-at.true)

pub expanded_at-requires : goal.expanded_at-requires
expanded_at-requires c =
    subst (AreKnown (size c.args.work.now.sets)) (sym (c.in_ok-list.ensures no_argument))
    (known_in-at (size c.args.work.now.sets) c.args.at no_argument c.args.call.now.args c.requires.within c.requires.call.args).0

pub returns-in_err-out-clause-fault : goal.returns-in_err-out-clause-fault
returns-in_err-out-clause-fault c =
    let few = c.requires.noted.few in
    let within = c.requires.within in
    let top : suc c.levels_above_arguments.result ≡ levels_above = omega (arith, c.levels_above_arguments.ensures) in
    let p = err_from_is_err_and c.from_residual-in_err-out.result c.from_residual-in_err-out.ensures.1 in
    rw (p.1, p.2) (λ other.
    opened-fault (surroundings_value c.args.self.now) c.args.work.now c.args.call.now c.args.at no_argument within
    (sym (c.requires.noted.wanted c.args.at (omega (arith, few, within))) ∙ c.if-not-call-at.false) _ top _
    (of-list (surroundings_value c.args.self.now) (suc c.levels_above_arguments.result) c.args.work.now _ _ (c.in_ok-list.ensures no_argument) _ (c.in_err-out.ensures.fault other)))

pub returns-clause-done : goal.returns-clause-done
returns-clause-done c =
    let few = c.requires.noted.few in
    let within = c.requires.within in
    let top : suc c.levels_above_arguments.result ≡ levels_above = omega (arith, c.levels_above_arguments.ensures) in
    expanded-one (surroundings_value c.args.self.now) c.args.work.now c.args.call.now c.args.at no_argument within
    (sym (c.requires.noted.wanted c.args.at (omega (arith, few, within))) ∙ c.if-not-call-at.false)
    c.expanded_at.new.work c.in_ok-out.out.items c.in_ok-out.ensures.keeps c.requires.call c.in_ok-out.ensures.known _ top
    (of-list (surroundings_value c.args.self.now) (suc c.levels_above_arguments.result) c.args.work.now _ _ (c.in_ok-list.ensures no_argument) _ c.in_ok-out.ensures.expanded)
    _ (ap (λ (as' : List ArgumentValue). record c.args.call.now { args = as' }) (c.expand.ensures no_argument))
