use Rattle.std.proofs.Common.{◌≡◌, Some, None, ap, option_map, refl, rules, sym, ◌∙◌}
use Rattle.std.specs.Io.KnownBytes.{Keeps}
use Rattle.inc_args.specs.Views.{seen_limits, seen_question, seen_rules}
use Rattle.inc_inputs.specs.Reports.{report_of}
use Rattle.inc_inputs.specs.RuleLists.{rule_text, rules_by, words_report}
use Rattle.inc_inputs.specs.Steps.{then}
use Rattle.inc_cli.specs.Processes.{IsRuledBy}
use Rattle.inc_cli.specs.Views.{output_of, seen_end}
use Rattle.inc_cli.proofs.RunLemmas.{run_reported, run_unreported}
use Rattle.inc_cli.proofs.rules.ask_rules.Goals as goal

pub returns-in-Some : goal.returns-in-Some
returns-in-Some g c not =
    let gives = g.I.Inputs.gives in
    let w = seen_rules c.args.words.now in
    let keeps : Keeps (g.O.ByteSink.written c.args.out) (g.O.ByteSink.written c.args.out) = search rules in
    let wrong : words_report w ≡ Some (report_of c.in-Some.failure) = sym c.words_failure.ensures ∙ ap (option_map report_of) c.in-Some.is in
    run_reported (words_report w) (report_of c.in-Some.failure) (then (rule_text gives w) (λ text. rules_by gives w text)) _ c.args.inputs _ _ wrong refl keeps

pub returns-in-None : goal.returns-in-None
returns-in-None g c not =
    let gives = g.I.Inputs.gives in
    let w = seen_rules c.args.words.now in
    let P = IsRuledBy gives g.I.Inputs.puts (record { opens = g.I.Inputs.opens; left = g.I.Stream.ByteSource.left }) c.args.setup.now.language (seen_question c.args.question.now) (seen_limits c.args.limits.now) w c.args.form in
    let out = output_of (g.O.ByteSink.written c.args.out) (g.O.ByteSink.written c.ask_rules_once.result.1) (g.O.ByteSink.has_failed c.ask_rules_once.result.1) in
    let none : words_report w ≡ None = sym c.words_failure.ensures ∙ ap (option_map report_of) c.in-None.is in
    run_unreported (words_report w) (then (rule_text gives w) (λ text. rules_by gives w text)) P c.args.inputs out (seen_end c.ask_rules_once.result.0)
    none (c.ask_rules_once.ensures not)
