use Rattle.std.proofs.Common.{◌≡◌, ◌∙◌, ap, sym, subst}
use Rattle.std.proofs.lemmas.Result.{err_from_is_err_and}
use Rattle.inc_expand.specs.declared.frames.Call.{Call}
use Rattle.inc_expand.specs.Sets.{size}
use Rattle.inc_expand.specs.Expansion.{bound}
use Rattle.inc_expand.specs.Carriers.{carriers}
use Rattle.inc_expand.specs.Cases.{surroundings_value}
use Rattle.inc_expand.specs.Slots.{inside_tokens}
use Rattle.inc_expand.proofs.JoinSteps.{known-wider}
use Rattle.inc_expand.proofs.OpenSteps.{arguments-refused, unbound-refused, unclosed-refused, whole-refused, whole-replaced}
use Rattle.inc_expand.proofs.cases.Surroundings.replace_whole.Goals as goal

pub returns-in_err-written-clause-fault : goal.returns-in_err-written-clause-fault
returns-in_err-written-clause-fault c =
    let p = err_from_is_err_and c.from_residual.result c.from_residual.ensures.1 in
    rw (p.1, p.2) (λ other.
    let f = c.in_err-written.ensures.fault c.args.work.now.sets other in
    unclosed-refused (surroundings_value c.args.self.now) c.args.work.now c.args.token.now c.args.macro_.now c.args.params.now c.args.list.now _ f.0 f.1)

pub taken-requires-clause-names : goal.taken-requires-clause-names
taken-requires-clause-names c = (c.in_ok-written.ensures.known (size c.args.work.now.sets) c.requires.list).1

pub taken-requires-clause-inside : goal.taken-requires-clause-inside
taken-requires-clause-inside c = (c.in_ok-written.ensures.known (size c.args.work.now.sets) c.requires.list).0

pub returns-in_err-args-clause-fault : goal.returns-in_err-args-clause-fault
returns-in_err-args-clause-fault c =
    let p = err_from_is_err_and c.from_residual-in_err-args.result c.from_residual-in_err-args.ensures.1 in
    rw (p.1, p.2) (λ other.
    unbound-refused (surroundings_value c.args.self.now) c.args.work.now c.args.token.now c.args.macro_.now c.args.params.now c.args.list.now _
    (c.in_ok-written.ensures.call c.args.work.now.sets) _
    (ap (bound c.args.params.now) (sym (rw c.rule.ensures at c.in_ok-inside.ensures.taken)) ∙ c.in_err-args.ensures.fault c.args.work.now.sets other))

pub expand_arguments-requires-clause-call : goal.expand_arguments-requires-clause-call
expand_arguments-requires-clause-call c =
    let k = c.in_ok-written.ensures.known (size c.args.work.now.sets) c.requires.list in
    record { name = c.requires.token; close = k.1; args = c.in_ok-args.ensures.known (size c.args.work.now.sets) c.in_ok-inside.ensures.known }

pub returns-in_err-expand_arguments-clause-fault : goal.returns-in_err-expand_arguments-clause-fault
returns-in_err-expand_arguments-clause-fault c =
    let p = err_from_is_err_and c.from_residual-in_err-expand_arguments.result c.from_residual-in_err-expand_arguments.ensures.1 in
    let call : Call = record { name = c.args.token.now; macro_ = c.args.macro_; close = c.in_ok-written.close; wanted = c.expanded_parameters.result; args = c.in_ok-args.args } in
    rw (p.1, p.2) (λ other.
    arguments-refused (surroundings_value c.args.self.now) c.args.work.now call c.args.params.now c.args.list.now c.call_of.new.list (carriers c.args.work.now.sets (inside_tokens c.in_ok-written.written))
    (c.in_ok-written.ensures.call c.args.work.now.sets)
    (ap (bound c.args.params.now) (sym (rw c.rule.ensures at c.in_ok-inside.ensures.taken)) ∙ c.in_ok-args.ensures.args c.args.work.now.sets) _
    (c.in_err-expand_arguments.ensures.fault other))

pub replace_call-requires-clause-list : goal.replace_call-requires-clause-list
replace_call-requires-clause-list c =
    known-wider _ _ c.in_ok-expand_arguments.ensures.done.keeps.more _ (c.in_ok-written.ensures.known (size c.args.work.now.sets) c.requires.list).2

pub returns-in_err-replace_call-clause-fault : goal.returns-in_err-replace_call-clause-fault
returns-in_err-replace_call-clause-fault c =
    let p = err_from_is_err_and c.from_residual-in_err-replace_call.result c.from_residual-in_err-replace_call.ensures.1 in
    let call : Call = record { name = c.args.token.now; macro_ = c.args.macro_; close = c.in_ok-written.close; wanted = c.expanded_parameters.result; args = c.in_ok-args.args } in
    let k = c.in_ok-written.ensures.known (size c.args.work.now.sets) c.requires.list in
    let done = c.in_ok-expand_arguments.ensures.done in
    rw (p.1, p.2) (λ other.
    whole-refused (surroundings_value c.args.self.now) c.args.work.now call c.args.params.now c.args.list.now c.call_of.new.list (carriers c.args.work.now.sets (inside_tokens c.in_ok-written.written))
    (c.in_ok-written.ensures.call c.args.work.now.sets)
    (ap (bound c.args.params.now) (sym (rw c.rule.ensures at c.in_ok-inside.ensures.taken)) ∙ c.in_ok-args.ensures.args c.args.work.now.sets)
    c.expand_arguments.new.work c.expand_arguments.new.call done
    (record { name = c.requires.token; close = k.1; args = c.in_ok-args.ensures.known (size c.args.work.now.sets) c.in_ok-inside.ensures.known }) k.2 _
    (c.in_err-replace_call.ensures.fault other))

pub returns-clause-replaced : goal.returns-clause-replaced
returns-clause-replaced c =
    let call : Call = record { name = c.args.token.now; macro_ = c.args.macro_; close = c.in_ok-written.close; wanted = c.expanded_parameters.result; args = c.in_ok-args.args } in
    let k = c.in_ok-written.ensures.known (size c.args.work.now.sets) c.requires.list in
    let done = c.in_ok-expand_arguments.ensures.done in
    whole-replaced (surroundings_value c.args.self.now) c.args.work.now call c.args.params.now c.args.list.now c.call_of.new.list (carriers c.args.work.now.sets (inside_tokens c.in_ok-written.written))
    (c.in_ok-written.ensures.call c.args.work.now.sets)
    (ap (bound c.args.params.now) (sym (rw c.rule.ensures at c.in_ok-inside.ensures.taken)) ∙ c.in_ok-args.ensures.args c.args.work.now.sets)
    c.expand_arguments.new.work c.expand_arguments.new.call done
    (record { name = c.requires.token; close = k.1; args = c.in_ok-args.ensures.known (size c.args.work.now.sets) c.in_ok-inside.ensures.known }) k.2
    c.replace_call.new.work c.replace_call.new.list c.in_ok-replace_call.ensures.replaced
