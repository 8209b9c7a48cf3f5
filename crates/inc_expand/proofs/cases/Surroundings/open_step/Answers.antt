use Rattle.std.proofs.Common.{subst, refl}
use Rattle.std.proofs.lemmas.Result.{err_from_is_err_and}
use Rattle.inc_expand.specs.Carriers.{carrier}
use Rattle.inc_expand.specs.Cases.{HasName, surroundings_value}
use Rattle.inc_expand.specs.Expansion.{levels, rule_in}
use Rattle.inc_expand.specs.Openings.{levels_above}
use Rattle.inc_expand.proofs.CaseSteps.{case-at}
use Rattle.inc_expand.proofs.OpenSteps.{open-passes, open-refused, open-replaced, open-waits}
use Rattle.inc_expand.proofs.cases.Surroundings.open_step.Goals as goal

pub replace_predefined-requires-clause-name : goal.replace_predefined-requires-clause-name
replace_predefined-requires-clause-name c = subst
    (HasName (carrier c.args.work.now.sets c.args.token.now)) c.in-IsPredefined.is
    (c.in_ok-case.ensures.name c.args.work.now.sets)

pub returns-in_err-replace_predefined-in-IsPredefined-clause-fault :
    goal.returns-in_err-replace_predefined-in-IsPredefined-clause-fault
returns-in_err-replace_predefined-in-IsPredefined-clause-fault c =
    let p = err_from_is_err_and c.from_residual-in_err-replace_predefined-in-IsPredefined.result c.from_residual-in_err-replace_predefined-in-IsPredefined.ensures.1 in
    rw (p.1, p.2) (λ other. open-refused (surroundings_value c.args.self.now) c.args.token.now c.args.work.now c.args.list.now _
    (case-at (surroundings_value c.args.self.now) c.args.work.now.sets c.args.token.now c.args.list.now c.in_ok-case.case _ c.in_ok-case.ensures.case c.in-IsPredefined.is)
    tt refl _ (c.in_err-replace_predefined-in-IsPredefined.ensures.fault (rule_in (surroundings_value c.args.self.now)) (levels (surroundings_value c.args.self.now) levels_above) other))

pub returns-in_ok-replace_predefined-in-IsPredefined-clause-onward :
    goal.returns-in_ok-replace_predefined-in-IsPredefined-clause-onward
returns-in_ok-replace_predefined-in-IsPredefined-clause-onward c more =
    open-replaced (surroundings_value c.args.self.now) c.args.token.now c.args.work.now c.args.list.now _
    (case-at (surroundings_value c.args.self.now) c.args.work.now.sets c.args.token.now c.args.list.now c.in_ok-case.case _ c.in_ok-case.ensures.case c.in-IsPredefined.is)
    tt refl c.replace_predefined.new.work c.replace_predefined.new.list c.args.out.now.items c.requires.out
    (c.in_ok-replace_predefined-in-IsPredefined.ensures.replaced (rule_in (surroundings_value c.args.self.now)) (levels (surroundings_value c.args.self.now) levels_above))

pub returns-in_err-replace_object-in-IsObject-clause-fault :
    goal.returns-in_err-replace_object-in-IsObject-clause-fault
returns-in_err-replace_object-in-IsObject-clause-fault c =
    let p = err_from_is_err_and c.from_residual-in_err-replace_object-in-IsObject.result c.from_residual-in_err-replace_object-in-IsObject.ensures.1 in
    rw (p.1, p.2) (λ other. open-refused (surroundings_value c.args.self.now) c.args.token.now c.args.work.now c.args.list.now _
    (case-at (surroundings_value c.args.self.now) c.args.work.now.sets c.args.token.now c.args.list.now c.in_ok-case.case _ c.in_ok-case.ensures.case c.in-IsObject.is)
    tt refl _ (c.in_err-replace_object-in-IsObject.ensures.fault (levels (surroundings_value c.args.self.now) levels_above) other))

pub returns-in_ok-replace_object-in-IsObject-clause-onward :
    goal.returns-in_ok-replace_object-in-IsObject-clause-onward
returns-in_ok-replace_object-in-IsObject-clause-onward c more =
    open-replaced (surroundings_value c.args.self.now) c.args.token.now c.args.work.now c.args.list.now _
    (case-at (surroundings_value c.args.self.now) c.args.work.now.sets c.args.token.now c.args.list.now c.in_ok-case.case _ c.in_ok-case.ensures.case c.in-IsObject.is)
    tt refl c.replace_object.new.work c.replace_object.new.list c.args.out.now.items c.requires.out
    (c.in_ok-replace_object-in-IsObject.ensures.replaced (levels (surroundings_value c.args.self.now) levels_above))

pub returns-in_ok-pass-in-Passes-clause-onward : goal.returns-in_ok-pass-in-Passes-clause-onward
returns-in_ok-pass-in-Passes-clause-onward c more =
    open-passes (surroundings_value c.args.self.now) c.args.token.now c.args.work.now c.args.list.now c.pass.new.list c.args.out.now.items c.push.new.self.items c.pass.new.out.items c.in-Passes.count
    (case-at (surroundings_value c.args.self.now) c.args.work.now.sets c.args.token.now c.args.list.now c.in_ok-case.case _ c.in_ok-case.ensures.case c.in-Passes.is)
    c.requires.token c.requires.list c.requires.out c.in_ok-push-in-Passes.ensures.items c.in_ok-pass-in-Passes.ensures.out c.in_ok-pass-in-Passes.ensures.list

pub returns-in_err-more-in-IsCall-clause-fault : goal.returns-in_err-more-in-IsCall-clause-fault
returns-in_err-more-in-IsCall-clause-fault c =
    let p = err_from_is_err_and c.from_residual-in_err-more-in-IsCall.result c.from_residual-in_err-more-in-IsCall.ensures.1 in
    rw (p.1, p.2) (λ other.
    let r = c.in_err-more-in-IsCall.ensures.fault other in
    open-refused (surroundings_value c.args.self.now) c.args.token.now c.args.work.now c.args.list.now _
    (case-at (surroundings_value c.args.self.now) c.args.work.now.sets c.args.token.now c.args.list.now c.in_ok-case.case _ c.in_ok-case.ensures.case c.in-IsCall.is)
    tt r.0 _ r.1)

pub returns-in_ok-more-in-IsCall-clause-onward : goal.returns-in_ok-more-in-IsCall-clause-onward
returns-in_ok-more-in-IsCall-clause-onward c more =
    let r = c.in_ok-more-in-IsCall.ensures.onward more in
    open-replaced (surroundings_value c.args.self.now) c.args.token.now c.args.work.now c.args.list.now _
    (case-at (surroundings_value c.args.self.now) c.args.work.now.sets c.args.token.now c.args.list.now c.in_ok-case.case _ c.in_ok-case.ensures.case c.in-IsCall.is)
    tt r.0 c.call_step.new.work c.call_step.new.list c.args.out.now.items c.requires.out r.1

pub returns-in_ok-more-in-IsCall-clause-waits : goal.returns-in_ok-more-in-IsCall-clause-waits
returns-in_ok-more-in-IsCall-clause-waits c none =
    let w = c.in_ok-more-in-IsCall.ensures.waits none in (
      w.0,
      refl,
      w.1,
      open-waits (surroundings_value c.args.self.now) c.args.token.now c.args.work.now c.args.list.now _
          (case-at (surroundings_value c.args.self.now) c.args.work.now.sets c.args.token.now c.args.list.now c.in_ok-case.case _ c.in_ok-case.ensures.case c.in-IsCall.is)
          w.2,
    )
