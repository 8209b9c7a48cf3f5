use Rattle.std.proofs.Common.{◌∙◌, Option, map, subst, sym}
use Rattle.inc_inputs.specs.Inputs.{listed}
use Rattle.inc_answers.specs.Questions.{FailsAt}
use Rattle.inc_report.specs.declared.named.NamedForm.{NamedForm}
use Rattle.inc_cli.specs.Questions.{IsKnownIn, Prints}
use Rattle.inc_cli.specs.Views.{asked_in, output_of, seen_command}
use Rattle.inc_cli.proofs.answering.answer.Goals as goal

pub returns-in-Some-clause-printed : goal.returns-in-Some-clause-printed
returns-in-Some-clause-printed g c known notes =
    let gives = g.I.Inputs.gives in
    let paths = map (λ p. p.now) c.args.files.paths.now in
    let a = asked_in paths c.args.project.now c.args.question.now c.args.limits.now c.args.groups.now notes in
    let command = seen_command c.args.command in
    subst (λ (form : Option NamedForm). Prints (λ new p. IsKnownIn known gives (record { opens = g.I.Inputs.opens; left = g.I.Stream.ByteSource.left }) form command a c.args.files.inputs new p)
    (λ new. FailsAt (listed gives paths) c.args.files.inputs new c.args.project.now c.args.question.now)
    (output_of (g.O.ByteSink.written c.args.out) (g.O.ByteSink.written c.answer_named.result.1) (g.O.ByteSink.has_failed c.answer_named.result.1)) c.answer_named.result.0)
    (sym c.in-Some.is ∙ c.named_form.ensures) (c.answer_named.ensures.printed known notes)

pub answer_text-requires-clause-text : goal.answer_text-requires-clause-text
answer_text-requires-clause-text g c = sym c.named_form.ensures ∙ c.in-None.is

pub returns-in-None-clause-printed : goal.returns-in-None-clause-printed
returns-in-None-clause-printed g c known notes =
    let gives = g.I.Inputs.gives in
    let paths = map (λ p. p.now) c.args.files.paths.now in
    let a = asked_in paths c.args.project.now c.args.question.now c.args.limits.now c.args.groups.now notes in
    let command = seen_command c.args.command in
    subst (λ (form : Option NamedForm). Prints (λ new p. IsKnownIn known gives (record { opens = g.I.Inputs.opens; left = g.I.Stream.ByteSource.left }) form command a c.args.files.inputs new p)
    (λ new. FailsAt (listed gives paths) c.args.files.inputs new c.args.project.now c.args.question.now)
    (output_of (g.O.ByteSink.written c.args.out) (g.O.ByteSink.written c.answer_text.result.1) (g.O.ByteSink.has_failed c.answer_text.result.1)) c.answer_text.result.0)
    (sym c.in-None.is ∙ c.named_form.ensures) (c.answer_text.ensures.printed known notes)
