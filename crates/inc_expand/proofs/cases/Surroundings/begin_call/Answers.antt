use Rattle.std.proofs.Common.{ap, ◌∙◌, sym}
use Rattle.std.proofs.lemmas.Result.{err_from_is_err_and}
use Rattle.inc_expand.specs.declared.frames.Call.{Call}
use Rattle.inc_expand.specs.Sets.{size}
use Rattle.inc_expand.specs.Expansion.{bound}
use Rattle.inc_expand.specs.Carriers.{carriers}
use Rattle.inc_expand.specs.Cases.{surroundings_value}
use Rattle.inc_expand.specs.Slots.{inside_tokens}
use Rattle.inc_expand.proofs.FrameSteps.{turn-begun, begun-fault, unclosed-fault, unbound-fault}
use Rattle.inc_expand.proofs.cases.Surroundings.begin_call.Goals as goal

pub returns-in_err-written-clause-fault : goal.returns-in_err-written-clause-fault
returns-in_err-written-clause-fault c =
    let p = err_from_is_err_and c.from_residual.result c.from_residual.ensures.1 in
    rw (p.1, p.2) (λ other.
    let f = c.in_err-written.ensures.fault c.args.work.now.sets other in
    unclosed-fault (surroundings_value c.args.self.now) c.args.work.now c.args.frames.now c.args.level.now c.args.token.now c.args.macro_.now c.args.params.now c.requires.case _ f.0 f.1)

pub taken-requires-clause-names : goal.taken-requires-clause-names
taken-requires-clause-names c = (c.in_ok-written.ensures.known (size c.args.work.now.sets) c.requires.level.list).1

pub taken-requires-clause-inside : goal.taken-requires-clause-inside
taken-requires-clause-inside c = (c.in_ok-written.ensures.known (size c.args.work.now.sets) c.requires.level.list).0

pub returns-in_err-args-clause-fault : goal.returns-in_err-args-clause-fault
returns-in_err-args-clause-fault c =
    let p = err_from_is_err_and c.from_residual-in_err-args.result c.from_residual-in_err-args.ensures.1 in
    rw (p.1, p.2) (λ other.
    unbound-fault (surroundings_value c.args.self.now) c.args.work.now c.args.frames.now c.args.level.now c.args.token.now c.args.macro_.now c.args.params.now c.requires.case _
    (c.in_ok-written.ensures.call c.args.work.now.sets) _
    (ap (bound c.args.params.now) (sym (rw c.rule-rule.ensures at c.in_ok-inside.ensures.taken)) ∙ c.in_err-args.ensures.fault c.args.work.now.sets other))

pub go_on-requires-clause-call : goal.go_on-requires-clause-call
go_on-requires-clause-call c =
    let k = c.in_ok-written.ensures.known (size c.args.work.now.sets) c.requires.level.list in
    record { name = c.requires.token; close = k.1; args = c.in_ok-args.ensures.known (size c.args.work.now.sets) c.in_ok-inside.ensures.known }

pub go_on-requires-clause-level : goal.go_on-requires-clause-level
go_on-requires-clause-level c =
    let k = c.in_ok-written.ensures.known (size c.args.work.now.sets) c.requires.level.list in
    record { list = k.2; out = c.requires.level.out }

pub returns-in_err-go_on-clause-fault : goal.returns-in_err-go_on-clause-fault
returns-in_err-go_on-clause-fault c =
    let p = err_from_is_err_and c.from_residual-in_err-go_on.result c.from_residual-in_err-go_on.ensures.1 in
    let call : Call = record { name = c.args.token.now; macro_ = c.args.macro_; close = c.in_ok-written.close; wanted = c.expanded_parameters.result; args = c.in_ok-args.args } in
    rw (p.1, p.2) (λ other.
    begun-fault (surroundings_value c.args.self.now) c.args.work.now c.args.frames.now c.args.level.now call c.args.params.now c.call_of.new.list (carriers c.args.work.now.sets (inside_tokens c.in_ok-written.written))
    c.requires.case (c.in_ok-written.ensures.call c.args.work.now.sets)
    (ap (bound c.args.params.now) (sym (rw c.rule-rule.ensures at c.in_ok-inside.ensures.taken)) ∙ c.in_ok-args.ensures.args c.args.work.now.sets) _ (c.in_err-go_on.ensures.fault other))

pub returns-clause-turn : goal.returns-clause-turn
returns-clause-turn c =
    let call : Call = record { name = c.args.token.now; macro_ = c.args.macro_; close = c.in_ok-written.close; wanted = c.expanded_parameters.result; args = c.in_ok-args.args } in
    turn-begun (surroundings_value c.args.self.now) c.args.work.now c.args.frames.now c.args.level.now call c.args.params.now c.call_of.new.list (carriers c.args.work.now.sets (inside_tokens c.in_ok-written.written))
    c.requires.case (c.in_ok-written.ensures.call c.args.work.now.sets)
    (ap (bound c.args.params.now) (sym (rw c.rule-rule.ensures at c.in_ok-inside.ensures.taken)) ∙ c.in_ok-args.ensures.args c.args.work.now.sets) c.go_on.new.work c.go_on.new.frames c.go_on.new.level c.in_ok-go_on.ensures.gone
