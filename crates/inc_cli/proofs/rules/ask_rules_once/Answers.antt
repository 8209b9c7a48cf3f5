use Rattle.std.proofs.Common.{◌≡◌, Ok, ap, refl, rules}
use Rattle.std.specs.Io.KnownBytes.{Keeps}
use Rattle.inc_args.specs.Views.{seen_limits, seen_question, seen_rules}
use Rattle.inc_inputs.specs.Reports.{report_of}
use Rattle.inc_inputs.specs.RuleLists.{rule_name, rule_text, rules_by}
use Rattle.inc_inputs.specs.Views.{seen_text}
use Rattle.inc_cli.specs.Processes.{IsRuledBy}
use Rattle.inc_cli.specs.Views.{output_of, seen_end}
use Rattle.inc_cli.proofs.RunLemmas.{run_err, run_then}
use Rattle.inc_cli.proofs.rules.ask_rules_once.Goals as goal

pub returns-in-Ok : goal.returns-in-Ok
returns-in-Ok g c not =
    let gives = g.I.Inputs.gives in
    let w = seen_rules c.args.words.now in
    let P = IsRuledBy gives g.I.Inputs.puts (record { opens = g.I.Inputs.opens; left = g.I.Stream.ByteSource.left }) c.args.setup.now.language (seen_question c.args.question.now) (seen_limits c.args.limits.now) w c.args.form in
    let out = output_of (g.O.ByteSink.written c.args.out) (g.O.ByteSink.written c.ask_rules_of.result.1) (g.O.ByteSink.has_failed c.ask_rules_of.result.1) in
    let read : seen_text c.read_rule_text.result ≡ Ok c.in-Ok.text.items = ap seen_text c.in-Ok.is in
    run_then (rule_text gives w) (λ text. rules_by gives w text) P c.args.inputs c.read_rule_text.new.inputs out (seen_end c.ask_rules_of.result.0)
    (seen_text c.read_rule_text.result) c.in-Ok.text.items read c.read_rule_text.ensures
    (rw c.deref.ensures.value at (c.ask_rules_of.ensures not))

pub returns-in-Err : goal.returns-in-Err
returns-in-Err g c not =
    let gives = g.I.Inputs.gives in
    let w = seen_rules c.args.words.now in
    let keeps : Keeps (g.O.ByteSink.written c.args.out) (g.O.ByteSink.written c.args.out) = search rules in
    run_err (rule_text gives w) (λ text. rules_by gives w text) _ c.args.inputs c.read_rule_text.new.inputs _ _ (seen_text c.read_rule_text.result) (report_of c.in-Err.failure)
    (ap seen_text c.in-Err.is) refl c.read_rule_text.ensures keeps not
