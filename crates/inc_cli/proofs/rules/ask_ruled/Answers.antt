use Rattle.std.proofs.Common.{◌≡◌, ap, map, option_map, refl, rules}
use Rattle.std.specs.Io.KnownBytes.{Keeps}
use Rattle.inc_args.specs.Views.{seen_limits, seen_question, seen_rules}
use Rattle.inc_inputs.specs.Baselines.{NamedLine, named_of}
use Rattle.inc_inputs.specs.Reports.{report_of}
use Rattle.inc_inputs.specs.RuleLists.{Ruled, rule_name}
use Rattle.inc_inputs.specs.Steps.{Step, comes_to}
use Rattle.inc_inputs.specs.Views.{named_line_in, seen_named}
use Rattle.inc_cli.specs.Questions.{Content}
use Rattle.inc_cli.specs.Processes.{IsRuledBy}
use Rattle.inc_cli.specs.Views.{output_of, seen_end}
use Rattle.inc_cli.proofs.RunLemmas.{run_err, run_here, run_then}
use Rattle.inc_rules.specs.Views.{seen_rule}
use Rattle.inc_cli.proofs.Askings.{with_lines}
use Rattle.inc_cli.proofs.rules.ask_ruled.Goals as goal

pub returns-in-Ok : goal.returns-in-Ok
returns-in-Ok g c not =
    let gives = g.I.Inputs.gives in
    let w = seen_rules c.args.words.now in
    let rs = map seen_rule c.args.rules.now in
    let P = IsRuledBy gives g.I.Inputs.puts (record { opens = g.I.Inputs.opens; left = g.I.Stream.ByteSource.left }) c.args.setup.now.language (seen_question c.args.question.now) (seen_limits c.args.limits.now) w c.args.form in
    let out = output_of (g.O.ByteSink.written c.args.out) (g.O.ByteSink.written c.ask.result.1) (g.O.ByteSink.has_failed c.ask.result.1) in
    let lines = map named_line_in c.in-Ok.lines.items in
    run_then (named_of gives w.baseline) (with_lines w rs) P c.args.inputs c.read_baseline.new.inputs out (seen_end c.ask.result.0)
    (seen_named c.read_baseline.result) lines (ap seen_named c.in-Ok.is) c.read_baseline.ensures
    (run_here _ P c.read_baseline.new.inputs out (seen_end c.ask.result.0) (rw (c.ruled_command-command.ensures, c.rule_name-name.ensures, c.deref.ensures.value) at (c.ask.ensures Content not)))

pub returns-in-Err : goal.returns-in-Err
returns-in-Err g c not =
    let gives = g.I.Inputs.gives in
    let w = seen_rules c.args.words.now in
    let rs = map seen_rule c.args.rules.now in
    let keeps : Keeps (g.O.ByteSink.written c.args.out) (g.O.ByteSink.written c.args.out) = search rules in
    run_err (named_of gives w.baseline) (with_lines w rs) _ c.args.inputs c.read_baseline.new.inputs _ _ (seen_named c.read_baseline.result) (report_of c.in-Err.failure)
    (ap seen_named c.in-Err.is) refl c.read_baseline.ensures keeps not
