use Rattle.std.proofs.Common.{refl}
use Rattle.std.proofs.lemmas.Result.{err_from_is_err_and}
use Rattle.inc_expand.specs.declared.walks.Work.{Work}
use Rattle.inc_expand.specs.Cases.{surroundings_value}
use Rattle.inc_expand.specs.Expansion.{rule_in}
use Rattle.inc_expand.proofs.JoinSteps.{known-wider}
use Rattle.inc_expand.proofs.SubstitutionRuns.{known_in-wider}
use Rattle.inc_expand.proofs.WalkSteps.{call-replaced, call-refused}
use Rattle.inc_expand.proofs.cases.Surroundings.replace_call.Goals as goal

pub replace_by-requires-clause-args : goal.replace_by-requires-clause-args
replace_by-requires-clause-args c = known_in-wider _ _ c.hidden_by_both.ensures.keeps.more _ c.requires.call.args

pub replace_by-requires-clause-list : goal.replace_by-requires-clause-list
replace_by-requires-clause-list c = known-wider _ _ c.hidden_by_both.ensures.keeps.more _ c.requires.list

pub returns-in_err-replace_by-clause-fault : goal.returns-in_err-replace_by-clause-fault
returns-in_err-replace_by-clause-fault c =
    let p = err_from_is_err_and c.from_residual-in_err-replace_by.result c.from_residual-in_err-replace_by.ensures.1 in
    let now : Work = record { sets = c.hidden_by_both.new.sets; meter = c.args.work.now.meter } in
    rw (p.1, p.2) (λ other. call-refused (rule_in (surroundings_value c.args.self.now)) c.args.call.now c.args.work.now now c.in_ok-both.both c.args.list.now _ c.requires.call c.requires.list c.hidden_by_both.ensures.keeps refl
    c.in_ok-both.ensures.members (c.in_err-replace_by.ensures.fault other))

pub returns-clause-replaced : goal.returns-clause-replaced
returns-clause-replaced c =
    let now : Work = record { sets = c.hidden_by_both.new.sets; meter = c.args.work.now.meter } in
    call-replaced (rule_in (surroundings_value c.args.self.now)) c.args.call.now c.args.work.now now c.replace_by.new.work c.in_ok-both.both c.args.list.now c.replace_by.new.list c.requires.call c.requires.list c.hidden_by_both.ensures.keeps refl
    c.in_ok-both.ensures.members c.in_ok-replace_by.ensures.replaced
