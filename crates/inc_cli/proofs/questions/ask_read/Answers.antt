use Rattle.std.proofs.Common.{◌≡◌, Err, refl, rules, subst, sym}
use Rattle.std.specs.Io.KnownBytes.{Keeps}
use Rattle.inc_args.specs.Views.{seen_limits, seen_question}
use Rattle.inc_cli.specs.Outputs.{IsRun}
use Rattle.inc_cli.specs.Runs.{asked_by}
use Rattle.inc_cli.specs.Questions.{IsAnswered, IsKnown}
use Rattle.inc_cli.specs.Views.{output_of, seen_command, seen_end}
use Rattle.inc_inputs.specs.Reports.{report_of}
use Rattle.inc_inputs.specs.Steps.{next_of}
use Rattle.inc_inputs.specs.Views.{added_in, seen_texts, texts_in}
use Rattle.inc_cli.proofs.Askings.{texts_with}
use Rattle.inc_cli.proofs.RunLemmas.{run_failed}
use Rattle.inc_cli.proofs.questions.ask_read.Goals as goal

pub returns-in-Ok : goal.returns-in-Ok
returns-in-Ok g c known not =
    let command = seen_command c.args.asking.command in
    let next = asked_by g.I.Inputs.gives c.args.setup.now.language command (seen_question c.args.asking.question.now) (seen_limits c.args.asking.limits.now) (added_in c.args.added) in
    let P = IsAnswered g.I.Inputs.gives g.I.Inputs.puts (IsKnown known g.I.Inputs.gives (record { opens = g.I.Inputs.opens; left = g.I.Stream.ByteSource.left }) command) command in
    let out = output_of (g.O.ByteSink.written c.args.out) (g.O.ByteSink.written c.ask_texts.result.1) (g.O.ByteSink.has_failed c.ask_texts.result.1) in
    let t = c.in-Ok.texts in
    let read : texts_with c.deref.result.now t.fixed.items t.without.items c.deref-in-Ok.result.now t.firsts ≡ texts_in t = search rules in
    subst (λ t. IsRun (next_of next (seen_texts t)) P c.args.inputs out (seen_end c.ask_texts.result.0)) (sym c.in-Ok.is)
    (subst (λ t. IsRun (next t) P c.args.inputs out (seen_end c.ask_texts.result.0)) read (c.ask_texts.ensures known not))

pub returns-in-Err : goal.returns-in-Err
returns-in-Err g c known not =
    let command = seen_command c.args.asking.command in
    let next = asked_by g.I.Inputs.gives c.args.setup.now.language command (seen_question c.args.asking.question.now) (seen_limits c.args.asking.limits.now) (added_in c.args.added) in
    let P = IsAnswered g.I.Inputs.gives g.I.Inputs.puts (IsKnown known g.I.Inputs.gives (record { opens = g.I.Inputs.opens; left = g.I.Stream.ByteSource.left }) command) command in
    let written = g.O.ByteSink.written c.args.out in
    let out = output_of written written (g.O.ByteSink.has_failed c.args.out) in
    let report = report_of c.in-Err.failure in
    let keeps : Keeps written written = search rules in
    subst (λ t. IsRun (next_of next (seen_texts t)) P c.args.inputs out (Err report)) (sym c.in-Err.is) (run_failed report P c.args.inputs out (Err report) refl keeps)
