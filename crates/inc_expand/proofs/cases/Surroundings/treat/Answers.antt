use Rattle.std.proofs.Common.{subst, refl}
use Rattle.std.proofs.lemmas.Result.{err_from_is_err_and}
use Rattle.inc_expand.specs.Carriers.{carrier}
use Rattle.inc_expand.specs.Cases.{HasName, surroundings_value}
use Rattle.inc_expand.specs.Expansion.{levels, rule_in}
use Rattle.inc_expand.proofs.CaseSteps.{case-at}
use Rattle.inc_expand.proofs.FrameSteps.{turn-step, turn-fault}
use Rattle.inc_expand.proofs.LevelSteps.{step-passes, step-replaced, step-refused}
use Rattle.inc_expand.proofs.cases.Surroundings.treat.Goals as goal

pub replace_predefined-requires-clause-name : goal.replace_predefined-requires-clause-name
replace_predefined-requires-clause-name c = subst
    (HasName (carrier c.args.work.now.sets c.args.token.now)) c.in-IsPredefined.is
    (c.in_ok-case.ensures.name c.args.work.now.sets)

pub returns-in_err-replace_predefined-in-IsPredefined-clause-fault :
    goal.returns-in_err-replace_predefined-in-IsPredefined-clause-fault
returns-in_err-replace_predefined-in-IsPredefined-clause-fault c =
    let p = err_from_is_err_and c.from_residual-in_err-replace_predefined-in-IsPredefined.result c.from_residual-in_err-replace_predefined-in-IsPredefined.ensures.1 in
    rw (p.1, p.2) (λ other. turn-fault (surroundings_value c.args.self.now) c.args.work.now c.args.frames.now c.args.level.now c.args.token.now _
    (step-refused (surroundings_value c.args.self.now) c.args.level.now.deeper c.args.token.now c.args.work.now c.args.level.now.list _
    (case-at (surroundings_value c.args.self.now) c.args.work.now.sets c.args.token.now c.args.level.now.list c.in_ok-case.case _ c.in_ok-case.ensures.case c.in-IsPredefined.is)
    _ (c.in_err-replace_predefined-in-IsPredefined.ensures.fault (rule_in (surroundings_value c.args.self.now))
    (levels (surroundings_value c.args.self.now) c.args.level.now.deeper) other)))

pub returns-in_ok-replace_predefined-in-IsPredefined-clause-turn :
    goal.returns-in_ok-replace_predefined-in-IsPredefined-clause-turn
returns-in_ok-replace_predefined-in-IsPredefined-clause-turn c =
    turn-step (surroundings_value c.args.self.now) c.args.work.now c.args.frames.now c.replace_predefined.new.work c.args.level.now _ c.args.token.now refl c.requires.frames
    (step-replaced (surroundings_value c.args.self.now) c.args.level.now.deeper c.args.token.now c.args.work.now c.args.level.now.list _
    (case-at (surroundings_value c.args.self.now) c.args.work.now.sets c.args.token.now c.args.level.now.list c.in_ok-case.case _ c.in_ok-case.ensures.case c.in-IsPredefined.is)
    c.replace_predefined.new.work c.replace_predefined.new.list c.args.level.now.out.items c.requires.level.out
    (c.in_ok-replace_predefined-in-IsPredefined.ensures.replaced (rule_in (surroundings_value c.args.self.now))
    (levels (surroundings_value c.args.self.now) c.args.level.now.deeper)))

pub returns-in_err-replace_object-in-IsObject-clause-fault :
    goal.returns-in_err-replace_object-in-IsObject-clause-fault
returns-in_err-replace_object-in-IsObject-clause-fault c =
    let p = err_from_is_err_and c.from_residual-in_err-replace_object-in-IsObject.result c.from_residual-in_err-replace_object-in-IsObject.ensures.1 in
    rw (p.1, p.2) (λ other. turn-fault (surroundings_value c.args.self.now) c.args.work.now c.args.frames.now c.args.level.now c.args.token.now _
    (step-refused (surroundings_value c.args.self.now) c.args.level.now.deeper c.args.token.now c.args.work.now c.args.level.now.list _
    (case-at (surroundings_value c.args.self.now) c.args.work.now.sets c.args.token.now c.args.level.now.list c.in_ok-case.case _ c.in_ok-case.ensures.case c.in-IsObject.is)
    _ (c.in_err-replace_object-in-IsObject.ensures.fault (levels
    (surroundings_value c.args.self.now) c.args.level.now.deeper) other)))

pub returns-in_ok-replace_object-in-IsObject-clause-turn :
    goal.returns-in_ok-replace_object-in-IsObject-clause-turn
returns-in_ok-replace_object-in-IsObject-clause-turn c =
    turn-step (surroundings_value c.args.self.now) c.args.work.now c.args.frames.now c.replace_object.new.work c.args.level.now _ c.args.token.now refl c.requires.frames
    (step-replaced (surroundings_value c.args.self.now) c.args.level.now.deeper c.args.token.now c.args.work.now c.args.level.now.list _
    (case-at (surroundings_value c.args.self.now) c.args.work.now.sets c.args.token.now c.args.level.now.list c.in_ok-case.case _ c.in_ok-case.ensures.case c.in-IsObject.is)
    c.replace_object.new.work c.replace_object.new.list c.args.level.now.out.items c.requires.level.out
    (c.in_ok-replace_object-in-IsObject.ensures.replaced (levels
    (surroundings_value c.args.self.now) c.args.level.now.deeper)))

pub returns-in_ok-pass-in-Passes-clause-turn : goal.returns-in_ok-pass-in-Passes-clause-turn
returns-in_ok-pass-in-Passes-clause-turn c =
    turn-step (surroundings_value c.args.self.now) c.args.work.now c.args.frames.now c.args.work.now c.args.level.now _ c.args.token.now refl c.requires.frames
    (step-passes (surroundings_value c.args.self.now) c.args.level.now.deeper c.args.token.now c.args.work.now c.args.level.now.list c.pass.new.list c.args.level.now.out.items c.push.new.self.items c.pass.new.out.items c.in-Passes.count
    (case-at (surroundings_value c.args.self.now) c.args.work.now.sets c.args.token.now c.args.level.now.list c.in_ok-case.case _ c.in_ok-case.ensures.case c.in-Passes.is)
    c.requires.token c.requires.level.list c.requires.level.out c.in_ok-push-in-Passes.ensures.items c.in_ok-pass-in-Passes.ensures.out c.in_ok-pass-in-Passes.ensures.list)
