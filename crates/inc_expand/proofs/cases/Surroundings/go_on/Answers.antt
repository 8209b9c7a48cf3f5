use Rattle.std.proofs.Common.{◌<◌, ◌≤◌, length, ap, sym, ◌∙◌, subst, refl, arith, Err}
use Rattle.std.proofs.lemmas.Result.{err_from_is_err_and}
use Rattle.inc_expand.specs.Sets.{size}
use Rattle.inc_expand.specs.Cases.{surroundings_value}
use Rattle.inc_expand.specs.Frames.{IsGone}
use Rattle.inc_expand.proofs.FrameSteps.{passed-known, passed-noted, gone-opened, gone-too-deep, gone-replaced, gone-refused, gone-passed, fault-passed}
use Rattle.inc_expand.proofs.SubstitutionSteps.{no_argument}
use Rattle.inc_expand.proofs.cases.Surroundings.go_on.Goals as goal

pub returns-in_err-open-clause-fault : goal.returns-in_err-open-clause-fault
returns-in_err-open-clause-fault c =
    let p = err_from_is_err_and c.from_residual.result c.from_residual.ensures.1 in
    let within : c.pass_arguments-at.result < length c.pass_arguments-at.new.call.args = omega
    (arith, c.if-at-len.true, c.len.ensures) in
    rw (p.1, p.2) (λ other.
    let f = c.in_err-open.ensures.fault other in
    fault-passed (surroundings_value c.args.self.now) c.args.work.now c.args.frames.now c.pass_arguments-at.new.call c.pass_arguments-at.result c.args.level.now c.args.call c.args.from c.pass_arguments-at.ensures.passed _
    (gone-too-deep (surroundings_value c.args.self.now) c.args.work.now c.args.frames.now c.pass_arguments-at.new.call c.pass_arguments-at.result c.args.level.now within
    (c.pass_arguments-at.ensures.stays within) f.1 ∙ ap Err (sym f.0)))

pub returns-then-at-len-clause-gone : goal.returns-then-at-len-clause-gone
returns-then-at-len-clause-gone c =
    let within : c.pass_arguments-at.result < length c.pass_arguments-at.new.call.args = omega
    (arith, c.if-at-len.true, c.len.ensures) in
    let p = c.pass_arguments-at.ensures.passed in
    gone-passed (surroundings_value c.args.self.now) c.args.work.now c.args.frames.now c.pass_arguments-at.new.call c.pass_arguments-at.result c.args.level.now c.args.call c.args.from p
    c.args.work.now c.open.new.frames c.open.new.level
    (subst (λ gs. IsGone (surroundings_value c.args.self.now) c.args.work.now c.args.frames.now c.pass_arguments-at.new.call c.pass_arguments-at.result c.args.level.now c.args.work.now gs c.open.new.level)
    (sym c.in_ok-open.ensures.frames)
    (gone-opened (surroundings_value c.args.self.now) c.args.work.now c.args.frames.now c.pass_arguments-at.new.call c.pass_arguments-at.result c.args.level.now c.open.new.level no_argument within
    (c.pass_arguments-at.ensures.stays within) c.requires.frames
    (passed-known (surroundings_value c.args.self.now) c.args.level.now.deeper c.args.call c.args.from c.pass_arguments-at.new.call c.pass_arguments-at.result (size c.args.work.now.sets) p c.requires.call)
    (passed-noted (surroundings_value c.args.self.now) c.args.level.now.deeper c.args.call c.args.from c.pass_arguments-at.new.call c.pass_arguments-at.result p c.requires.noted)
    c.requires.level c.in_ok-open.ensures.deeper (c.in_ok-open.ensures.list no_argument) c.in_ok-open.ensures.out))

pub replace_call-requires-clause-call : goal.replace_call-requires-clause-call
replace_call-requires-clause-call c =
    passed-known (surroundings_value c.args.self.now) c.args.level.now.deeper c.args.call c.args.from c.pass_arguments-at.new.call c.pass_arguments-at.result (size c.args.work.now.sets)
    c.pass_arguments-at.ensures.passed c.requires.call

pub returns-in_err-replace_call-clause-fault : goal.returns-in_err-replace_call-clause-fault
returns-in_err-replace_call-clause-fault c =
    let p = err_from_is_err_and c.from_residual-in_err-replace_call.result c.from_residual-in_err-replace_call.ensures.1 in
    let over : length c.pass_arguments-at.new.call.args ≤ c.pass_arguments-at.result = omega
    (arith, c.if-at-len.false, c.len.ensures) in
    rw (p.1, p.2) (λ other.
    fault-passed (surroundings_value c.args.self.now) c.args.work.now c.args.frames.now c.pass_arguments-at.new.call c.pass_arguments-at.result c.args.level.now c.args.call c.args.from c.pass_arguments-at.ensures.passed _
    (gone-refused (surroundings_value c.args.self.now) c.args.work.now c.args.frames.now c.pass_arguments-at.new.call c.pass_arguments-at.result c.args.level.now _ over (c.in_err-replace_call.ensures.fault other)))

pub returns-clause-gone : goal.returns-clause-gone
returns-clause-gone c =
    let over : length c.pass_arguments-at.new.call.args ≤ c.pass_arguments-at.result = omega
    (arith, c.if-at-len.false, c.len.ensures) in
    gone-passed (surroundings_value c.args.self.now) c.args.work.now c.args.frames.now c.pass_arguments-at.new.call c.pass_arguments-at.result c.args.level.now c.args.call c.args.from c.pass_arguments-at.ensures.passed
    c.replace_call.new.work c.args.frames.now _
    (gone-replaced (surroundings_value c.args.self.now) c.args.work.now c.args.frames.now c.pass_arguments-at.new.call c.pass_arguments-at.result c.args.level.now c.replace_call.new.work _ over
    c.requires.frames c.requires.level refl refl c.in_ok-replace_call.ensures.replaced)
