use Rattle.std.proofs.Common.{rules, ◌≡◌, ◌&&◌, Err, None, Some, ap, false, not, refl, true}
use Rattle.std.specs.Io.KnownBytes.{Keeps}
use Rattle.inc_args.specs.Views.{seen_limits, seen_question}
use Rattle.inc_cli.specs.Commands.{has_headers}
use Rattle.inc_cli.specs.Runs.{asked_named}
use Rattle.inc_cli.specs.Views.{seen_command}
use Rattle.inc_inputs.specs.Ends.{are_ends}
use Rattle.inc_inputs.specs.GlobWords.{named_report}
use Rattle.inc_inputs.specs.Reports.{no_ends, report_of}
use Rattle.inc_inputs.specs.Texts.{unless_reported}
use Rattle.inc_cli.proofs.RunLemmas.{run_not, run_reported, run_unless, run_unreported}
use Rattle.inc_cli.proofs.questions.ask.Goals as goal

pub returns-in-None : goal.returns-in-None
returns-in-None g c known kept =
    let q = seen_question c.args.question.now in
    let language = c.args.setup.now.language in
    let command = seen_command c.args.command in
    let step = asked_named g.I.Inputs.gives language command q (seen_limits c.args.limits.now) in
    let there : (has_headers command && not (are_ends q)) ≡ false = search rules in
    let none : named_report language q ≡ None = c.in-None.ensures in
    run_unless (has_headers command && not (are_ends q)) no_ends (unless_reported (named_report language q) step) _ _ _ _ there
    (run_unreported (named_report language q) step _ _ _ _ none (c.ask_named.ensures known kept))

pub returns-in-Some : goal.returns-in-Some
returns-in-Some g c known kept =
    let q = seen_question c.args.question.now in
    let language = c.args.setup.now.language in
    let command = seen_command c.args.command in
    let step = asked_named g.I.Inputs.gives language command q (seen_limits c.args.limits.now) in
    let there : (has_headers command && not (are_ends q)) ≡ false = search rules in
    let keeps : Keeps (g.O.ByteSink.written c.args.out) (g.O.ByteSink.written c.args.out) = search rules in
    let found : named_report language q ≡ Some (report_of c.in-Some.failure) = c.in-Some.ensures (λ same. kept (ap Err same)) in
    run_unless (has_headers command && not (are_ends q)) no_ends (unless_reported (named_report language q) step) _ _ _ _ there
    (run_reported (named_report language q) (report_of c.in-Some.failure) step _ _ _ _ found refl keeps)

pub returns-then-lacks_ends : goal.returns-then-lacks_ends
returns-then-lacks_ends g c known kept =
    let q = seen_question c.args.question.now in
    let language = c.args.setup.now.language in
    let command = seen_command c.args.command in
    let none : (has_headers command && not (are_ends q)) ≡ true = search rules in
    let keeps : Keeps (g.O.ByteSink.written c.args.out) (g.O.ByteSink.written c.args.out) = search rules in
    run_not (has_headers command && not (are_ends q)) no_ends
    (unless_reported (named_report language q) (asked_named g.I.Inputs.gives language command q (seen_limits c.args.limits.now))) _ _ _ _ none refl keeps
