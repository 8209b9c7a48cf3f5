use Rattle.std.proofs.Common.{Err, ap, refl, rules, subst}
use Rattle.std.specs.Io.KnownBytes.{Keeps}
use Rattle.inc_args.specs.Views.{seen_limits, seen_question}
use Rattle.inc_inputs.specs.BuildPlaces.{include_paths_of}
use Rattle.inc_inputs.specs.Reports.{report_of}
use Rattle.inc_inputs.specs.Views.{added_in}
use Rattle.inc_cli.specs.Outputs.{IsRun}
use Rattle.inc_cli.specs.Questions.{IsAnswered, IsKnown}
use Rattle.inc_cli.specs.Runs.{asked_built}
use Rattle.inc_cli.specs.Views.{opened_in, output_of, seen_command, seen_end}
use Rattle.inc_cli.proofs.Askings.{with_others}
use Rattle.inc_cli.proofs.RunLemmas.{run_came, run_came_err}
use Rattle.inc_cli.proofs.questions.ask_listed.Goals as goal

pub returns-in-Err : goal.returns-in-Err
returns-in-Err g c known not =
    let q = seen_question c.args.asking.question.now in
    let l = seen_limits c.args.asking.limits.now in
    let a = added_in c.args.added in
    let next = with_others g.I.Inputs.gives c.args.setup.now.language (seen_command c.args.asking.command) q l a c.args.marks.without.items c.args.marks.fixed.items (opened_in c.args.opened.now) c.args.project.now in
    let keeps : Keeps (g.O.ByteSink.written c.args.out) (g.O.ByteSink.written c.args.out) = search rules in
    run_came_err (include_paths_of a.others) next _ _ _ _ (report_of c.in-Err.failure) (c.in-Err.ensures.fault (λ same. not (ap (λ r. Err r) same))) refl keeps

pub returns-in-Ok : goal.returns-in-Ok
returns-in-Ok g c known not =
    let language = c.args.setup.now.language in
    let command = seen_command c.args.asking.command in
    let q = seen_question c.args.asking.question.now in
    let l = seen_limits c.args.asking.limits.now in
    let a = added_in c.args.added in
    let without = c.args.marks.without.items in
    let fixed = c.args.marks.fixed.items in
    let o = opened_in c.args.opened.now in
    let layout = c.args.project.now in
    let out = output_of (g.O.ByteSink.written c.args.out) (g.O.ByteSink.written c.ask_built.result.1) (g.O.ByteSink.has_failed c.ask_built.result.1) in
    let P = IsAnswered g.I.Inputs.gives g.I.Inputs.puts (IsKnown known g.I.Inputs.gives (record { opens = g.I.Inputs.opens; left = g.I.Stream.ByteSource.left }) command) command in
    run_came (include_paths_of a.others) (with_others g.I.Inputs.gives language command q l a without fixed o layout) _ _ _ _ c.in-Ok.built.others.items c.in-Ok.ensures.others
    (subst (λ b. IsRun (asked_built g.I.Inputs.gives language command q l without fixed o layout b) P c.args.inputs out (seen_end c.ask_built.result.0)) c.in-Ok.ensures.built
    (c.ask_built.ensures known not))
