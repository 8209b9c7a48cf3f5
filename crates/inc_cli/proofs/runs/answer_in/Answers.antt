use Rattle.std.proofs.Common.{◌≡◌, None, Option, Result, option_map, rules, subst, sym}
use Rattle.inc_args.specs.Views.{seen_limits, seen_question, seen_request, seen_rules}
use Rattle.inc_inputs.specs.Reports.{Report}
use Rattle.inc_inputs.specs.RuleLists.{rule_name, rules_given}
use Rattle.inc_cli.specs.Outputs.{Follows, IsRun}
use Rattle.inc_cli.specs.Commands.{Command}
use Rattle.inc_cli.specs.declared.commands.RuleForm.{RuleForm}
use Rattle.inc_cli.specs.Processes.{IsAnswerTo, IsAskedBy, IsPromiseOf, IsRuledBy}
use Rattle.inc_cli.specs.Questions.{Content, Opens, Promise}
use Rattle.inc_cli.specs.Runs.{no_limits}
use Rattle.inc_cli.specs.Scans.{IsScan}
use Rattle.inc_report.specs.declared.named.Format.{Format}
use Rattle.inc_answers.specs.declared.scan.ScanForm.{ScanForm}
use Rattle.inc_cli.specs.Views.{output_of, seen_command, seen_end}
use Rattle.inc_cli.proofs.runs.answer_in.Goals as goal

pub returns-in-Ok-form_of-clause-answered : goal.returns-in-Ok-form_of-clause-answered
returns-in-Ok-form_of-clause-answered g c not =
    let gives = g.I.Inputs.gives in
    let o : Opens g.row.I.Denot g.row.I-Stream.Denot = record { opens = g.I.Inputs.opens; left = g.I.Stream.ByteSource.left } in
    let language = c.args.setup.now.language in
    let terminal = c.args.setup.now.is_terminal in
    let out = output_of (g.O.ByteSink.written c.args.out) (g.O.ByteSink.written c.ask-in-Ok-form_of.result.1) (g.O.ByteSink.has_failed c.ask-in-Ok-form_of.result.1) in
    let answer = seen_end c.ask-in-Ok-form_of.result.0 in
    subst (λ r. IsAnswerTo gives g.I.Inputs.puts o language terminal (seen_request r) c.args.inputs out answer) (sym c.in-Cut.is)
    (subst
    (λ (command : Result Command Report). Follows (λ k. IsAskedBy Content gives g.I.Inputs.puts o language k (seen_question c.in-Cut.question) (seen_limits c.in-Cut.limits)) command c.args.inputs out answer)
    c.in-Ok-form_of.ensures (c.ask-in-Ok-form_of.ensures Content not))

pub returns-in-Ok-form_of-clause-promised : goal.returns-in-Ok-form_of-clause-promised
returns-in-Ok-form_of-clause-promised g c not =
    let gives = g.I.Inputs.gives in
    let o : Opens g.row.I.Denot g.row.I-Stream.Denot = record { opens = g.I.Inputs.opens; left = g.I.Stream.ByteSource.left } in
    let language = c.args.setup.now.language in
    let terminal = c.args.setup.now.is_terminal in
    let out = output_of (g.O.ByteSink.written c.args.out) (g.O.ByteSink.written c.ask-in-Ok-form_of.result.1) (g.O.ByteSink.has_failed c.ask-in-Ok-form_of.result.1) in
    let answer = seen_end c.ask-in-Ok-form_of.result.0 in
    subst (λ r. IsPromiseOf gives g.I.Inputs.puts o language terminal (seen_request r) c.args.inputs out answer) (sym c.in-Cut.is)
    (subst
    (λ (command : Result Command Report). Follows (λ k. IsAskedBy Promise gives g.I.Inputs.puts o language k (seen_question c.in-Cut.question) (seen_limits c.in-Cut.limits)) command c.args.inputs out answer)
    c.in-Ok-form_of.ensures (c.ask-in-Ok-form_of.ensures Promise not))

pub returns-in-Check-clause-answered : goal.returns-in-Check-clause-answered
returns-in-Check-clause-answered g c not =
    let o : Opens g.row.I.Denot g.row.I-Stream.Denot = record { opens = g.I.Inputs.opens; left = g.I.Stream.ByteSource.left } in
    let out = output_of (g.O.ByteSink.written c.args.out) (g.O.ByteSink.written c.ask-in-Check.result.1) (g.O.ByteSink.has_failed c.ask-in-Check.result.1) in
    subst (λ r. IsAnswerTo g.I.Inputs.gives g.I.Inputs.puts o c.args.setup.now.language c.args.setup.now.is_terminal (seen_request r) c.args.inputs out (seen_end c.ask-in-Check.result.0)) (sym c.in-Check.is)
    (c.ask-in-Check.ensures Content not)

pub returns-in-Check-clause-promised : goal.returns-in-Check-clause-promised
returns-in-Check-clause-promised g c not =
    let o : Opens g.row.I.Denot g.row.I-Stream.Denot = record { opens = g.I.Inputs.opens; left = g.I.Stream.ByteSource.left } in
    let out = output_of (g.O.ByteSink.written c.args.out) (g.O.ByteSink.written c.ask-in-Check.result.1) (g.O.ByteSink.has_failed c.ask-in-Check.result.1) in
    subst (λ r. IsPromiseOf g.I.Inputs.gives g.I.Inputs.puts o c.args.setup.now.language c.args.setup.now.is_terminal (seen_request r) c.args.inputs out (seen_end c.ask-in-Check.result.0)) (sym c.in-Check.is)
    (c.ask-in-Check.ensures Promise not)

pub returns-in-Ok-clause-answered : goal.returns-in-Ok-clause-answered
returns-in-Ok-clause-answered g c not =
    let gives = g.I.Inputs.gives in
    let o : Opens g.row.I.Denot g.row.I-Stream.Denot = record { opens = g.I.Inputs.opens; left = g.I.Stream.ByteSource.left } in
    let language = c.args.setup.now.language in
    let terminal = c.args.setup.now.is_terminal in
    let out = output_of (g.O.ByteSink.written c.args.out) (g.O.ByteSink.written c.list_directives.result.1) (g.O.ByteSink.has_failed c.list_directives.result.1) in
    let answer = seen_end c.list_directives.result.0 in
    let path = option_map (λ p. p.now) c.in-Scan.path in
    subst (λ r. IsAnswerTo gives g.I.Inputs.puts o language terminal (seen_request r) c.args.inputs out answer) (sym c.in-Scan.is)
    (subst (λ (f : Result ScanForm Report). Follows (λ form. IsScan gives language form path) f c.args.inputs out answer) c.in-Ok.ensures (c.list_directives.ensures not))

pub returns-in-Ok-formatted-clause-answered : goal.returns-in-Ok-formatted-clause-answered
returns-in-Ok-formatted-clause-answered g c not =
    let gives = g.I.Inputs.gives in
    let o : Opens g.row.I.Denot g.row.I-Stream.Denot = record { opens = g.I.Inputs.opens; left = g.I.Stream.ByteSource.left } in
    let language = c.args.setup.now.language in
    let terminal = c.args.setup.now.is_terminal in
    let out = output_of (g.O.ByteSink.written c.args.out) (g.O.ByteSink.written c.ask.result.1) (g.O.ByteSink.has_failed c.ask.result.1) in
    let answer = seen_end c.ask.result.0 in
    let q = seen_question c.in-Why.question in
    let none : seen_limits (record { fixed = None; keep = c.new.result; only = c.new-2.result; costs = None }) ≡ no_limits = search rules in
    subst (λ r. IsAnswerTo gives g.I.Inputs.puts o language terminal (seen_request r) c.args.inputs out answer) (sym c.in-Why.is)
    (subst (λ (command : Result Command Report). Follows (λ k. IsAskedBy Content gives g.I.Inputs.puts o language k q no_limits) command c.args.inputs out answer) c.in-Ok-formatted.ensures
    (subst (λ l. IsAskedBy Content gives g.I.Inputs.puts o language (seen_command c.in-Ok-formatted.command) q l c.args.inputs out answer) none (c.ask.ensures Content not)))

pub returns-in-Ok-who_of-clause-answered : goal.returns-in-Ok-who_of-clause-answered
returns-in-Ok-who_of-clause-answered g c not =
    let gives = g.I.Inputs.gives in
    let o : Opens g.row.I.Denot g.row.I-Stream.Denot = record { opens = g.I.Inputs.opens; left = g.I.Stream.ByteSource.left } in
    let language = c.args.setup.now.language in
    let terminal = c.args.setup.now.is_terminal in
    let out = output_of (g.O.ByteSink.written c.args.out) (g.O.ByteSink.written c.ask-in-Ok-who_of.result.1) (g.O.ByteSink.has_failed c.ask-in-Ok-who_of.result.1) in
    let answer = seen_end c.ask-in-Ok-who_of.result.0 in
    let q = seen_question c.in-Who.question in
    let none : seen_limits (record { fixed = None; keep = c.new.result; only = c.new-2.result; costs = None }) ≡ no_limits = search rules in
    subst (λ r. IsAnswerTo gives g.I.Inputs.puts o language terminal (seen_request r) c.args.inputs out answer) (sym c.in-Who.is)
    (subst (λ (command : Result Command Report). Follows (λ k. IsAskedBy Content gives g.I.Inputs.puts o language k q no_limits) command c.args.inputs out answer) c.in-Ok-who_of.ensures
    (subst (λ l. IsAskedBy Content gives g.I.Inputs.puts o language (seen_command c.in-Ok-who_of.command) q l c.args.inputs out answer) none (c.ask-in-Ok-who_of.ensures Content not)))

pub returns-in-Ok-formatted-2-clause-answered : goal.returns-in-Ok-formatted-2-clause-answered
returns-in-Ok-formatted-2-clause-answered g c not =
    let gives = g.I.Inputs.gives in
    let o : Opens g.row.I.Denot g.row.I-Stream.Denot = record { opens = g.I.Inputs.opens; left = g.I.Stream.ByteSource.left } in
    let language = c.args.setup.now.language in
    let terminal = c.args.setup.now.is_terminal in
    let out = output_of (g.O.ByteSink.written c.args.out) (g.O.ByteSink.written c.ask-in-Ok-formatted-2.result.1) (g.O.ByteSink.has_failed c.ask-in-Ok-formatted-2.result.1) in
    let answer = seen_end c.ask-in-Ok-formatted-2.result.0 in
    let q = seen_question c.in-Graph.question in
    let none : seen_limits (record { fixed = None; keep = c.new.result; only = c.new-2.result; costs = None }) ≡ no_limits = search rules in
    subst (λ r. IsAnswerTo gives g.I.Inputs.puts o language terminal (seen_request r) c.args.inputs out answer) (sym c.in-Graph.is)
    (subst (λ (command : Result Command Report). Follows (λ k. IsAskedBy Content gives g.I.Inputs.puts o language k q no_limits) command c.args.inputs out answer) c.in-Ok-formatted-2.ensures
    (subst (λ l. IsAskedBy Content gives g.I.Inputs.puts o language (seen_command c.in-Ok-formatted-2.command) q l c.args.inputs out answer) none (c.ask-in-Ok-formatted-2.ensures Content not)))

pub returns-in-Ok-cost_of-clause-answered : goal.returns-in-Ok-cost_of-clause-answered
returns-in-Ok-cost_of-clause-answered g c not =
    let gives = g.I.Inputs.gives in
    let o : Opens g.row.I.Denot g.row.I-Stream.Denot = record { opens = g.I.Inputs.opens; left = g.I.Stream.ByteSource.left } in
    let language = c.args.setup.now.language in
    let terminal = c.args.setup.now.is_terminal in
    let out = output_of (g.O.ByteSink.written c.args.out) (g.O.ByteSink.written c.ask-in-Ok-cost_of.result.1) (g.O.ByteSink.has_failed c.ask-in-Ok-cost_of.result.1) in
    let answer = seen_end c.ask-in-Ok-cost_of.result.0 in
    let q = seen_question c.in-Cost.question in
    let none : seen_limits (record { fixed = None; keep = c.new.result; only = c.new-2.result; costs = None }) ≡ no_limits = search rules in
    subst (λ r. IsAnswerTo gives g.I.Inputs.puts o language terminal (seen_request r) c.args.inputs out answer) (sym c.in-Cost.is)
    (subst (λ (command : Result Command Report). Follows (λ k. IsAskedBy Content gives g.I.Inputs.puts o language k q no_limits) command c.args.inputs out answer) c.in-Ok-cost_of.ensures
    (subst (λ l. IsAskedBy Content gives g.I.Inputs.puts o language (seen_command c.in-Ok-cost_of.command) q l c.args.inputs out answer) none (c.ask-in-Ok-cost_of.ensures Content not)))

pub returns-in-Ok-rule_form_of-clause-answered : goal.returns-in-Ok-rule_form_of-clause-answered
returns-in-Ok-rule_form_of-clause-answered g c not =
    let gives = g.I.Inputs.gives in
    let o : Opens g.row.I.Denot g.row.I-Stream.Denot = record { opens = g.I.Inputs.opens; left = g.I.Stream.ByteSource.left } in
    let language = c.args.setup.now.language in
    let terminal = c.args.setup.now.is_terminal in
    let out = output_of (g.O.ByteSink.written c.args.out) (g.O.ByteSink.written c.ask_rules.result.1) (g.O.ByteSink.has_failed c.ask_rules.result.1) in
    let answer = seen_end c.ask_rules.result.0 in
    let q = seen_question c.in-Rules.question in
    let w = seen_rules c.in-Rules.words in
    let none : seen_limits (record { fixed = None; keep = c.new.result; only = c.new-2.result; costs = None }) ≡ no_limits = search rules in
    subst (λ r. IsAnswerTo gives g.I.Inputs.puts o language terminal (seen_request r) c.args.inputs out answer) (sym c.in-Rules.is)
    (subst (λ (form : Result RuleForm Report). Follows (λ f. IsRun (rules_given gives w) (IsRuledBy gives g.I.Inputs.puts o language q no_limits w f)) form c.args.inputs out answer)
    c.in-Ok-rule_form_of.ensures
    (subst (λ l. IsRun (rules_given gives w) (IsRuledBy gives g.I.Inputs.puts o language q l w c.in-Ok-rule_form_of.form) c.args.inputs out answer) none (c.ask_rules.ensures not)))
