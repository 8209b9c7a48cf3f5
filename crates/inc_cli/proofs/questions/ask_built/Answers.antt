use Rattle.std.proofs.Common.{ap, refl, rules}
use Rattle.std.specs.Io.KnownBytes.{Keeps}
use Rattle.inc_args.specs.Views.{seen_limits, seen_question}
use Rattle.inc_inputs.specs.NamedPlaces.{named_places}
use Rattle.inc_inputs.specs.Reports.{report_of}
use Rattle.inc_inputs.specs.Views.{marked_in, seen_marked}
use Rattle.inc_cli.specs.Questions.{IsAnswered, IsKnown}
use Rattle.inc_cli.specs.Runs.{listed_by}
use Rattle.inc_cli.specs.Views.{built_in, opened_in, output_of, seen_command, seen_end}
use Rattle.inc_cli.proofs.Askings.{with_marks}
use Rattle.inc_cli.proofs.RunLemmas.{run_err, run_then}
use Rattle.inc_cli.proofs.questions.ask_built.Goals as goal

pub returns-in-Ok : goal.returns-in-Ok
returns-in-Ok g c known not =
    let gives = g.I.Inputs.gives in
    let language = c.args.setup.now.language in
    let command = seen_command c.args.asking.command in
    let q = seen_question c.args.asking.question.now in
    let l = seen_limits c.args.asking.limits.now in
    let o = opened_in c.args.opened.now in
    let layout = c.args.project.now in
    let P = IsAnswered gives g.I.Inputs.puts (IsKnown known gives (record { opens = g.I.Inputs.opens; left = g.I.Stream.ByteSource.left }) command) command in
    let out = output_of (g.O.ByteSink.written c.args.out) (g.O.ByteSink.written c.ask_beside.result.1) (g.O.ByteSink.has_failed c.ask_beside.result.1) in
    run_then (named_places gives (listed_by language o layout) q l c.args.marks.without.items c.args.marks.fixed.items) (with_marks gives language command q l o layout (built_in c.args.built)) P
    c.args.inputs c.named_marks.new.inputs out (seen_end c.ask_beside.result.0) (seen_marked c.named_marks.result) (marked_in c.in-Ok.marks) (ap seen_marked c.in-Ok.is)
    c.named_marks.ensures (c.ask_beside.ensures known not)

pub returns-in-Err : goal.returns-in-Err
returns-in-Err g c known not =
    let gives = g.I.Inputs.gives in
    let language = c.args.setup.now.language in
    let command = seen_command c.args.asking.command in
    let q = seen_question c.args.asking.question.now in
    let l = seen_limits c.args.asking.limits.now in
    let o = opened_in c.args.opened.now in
    let layout = c.args.project.now in
    let written = g.O.ByteSink.written c.args.out in
    let keeps : Keeps written written = search rules in
    let P = IsAnswered gives g.I.Inputs.puts (IsKnown known gives (record { opens = g.I.Inputs.opens; left = g.I.Stream.ByteSource.left }) command) command in
    let out = output_of written written (g.O.ByteSink.has_failed c.args.out) in
    run_err (named_places gives (listed_by language o layout) q l c.args.marks.without.items c.args.marks.fixed.items) (with_marks gives language command q l o layout (built_in c.args.built)) P
    c.args.inputs c.named_marks.new.inputs out _ (seen_marked c.named_marks.result) (report_of c.in-Err.failure) (ap seen_marked c.in-Err.is) refl c.named_marks.ensures keeps not
