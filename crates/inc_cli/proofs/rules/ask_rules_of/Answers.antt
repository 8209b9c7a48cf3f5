use Rattle.std.proofs.Common.{◌≡◌, Err, Result, List, ap, map, refl, rules, subst, ℕ}
use Rattle.std.specs.Io.KnownBytes.{Keeps}
use Rattle.inc_args.specs.Views.{seen_limits, seen_question, seen_rules}
use Rattle.inc_inputs.specs.RuleLists.{AreRules, rule_name, ruled}
use Rattle.inc_inputs.specs.Reports.{report_of}
use Rattle.inc_cli.specs.Processes.{IsRuledBy}
use Rattle.inc_cli.specs.Views.{output_of, seen_end}
use Rattle.inc_cli.proofs.RunLemmas.{run_judged, run_judged_err}
use Rattle.inc_rules.specs.Views.{seen_rule}
use Rattle.inc_cli.proofs.rules.ask_rules_of.Goals as goal

pub returns-in-Ok : goal.returns-in-Ok
returns-in-Ok g c not =
    let gives = g.I.Inputs.gives in
    let w = seen_rules c.args.words.now in
    let P = IsRuledBy gives g.I.Inputs.puts (record { opens = g.I.Inputs.opens; left = g.I.Stream.ByteSource.left }) c.args.setup.now.language (seen_question c.args.question.now) (seen_limits c.args.limits.now) w c.args.form in
    let out = output_of (g.O.ByteSink.written c.args.out) (g.O.ByteSink.written c.ask_ruled.result.1) (g.O.ByteSink.has_failed c.ask_ruled.result.1) in
    run_judged (AreRules (rule_name w) c.args.text.now) (λ rules. ruled gives w rules) P c.args.inputs out (seen_end c.ask_ruled.result.0) (map seen_rule c.in-Ok.rules.items) c.in-Ok.ensures.rules
    (rw c.deref.ensures.value at (c.ask_ruled.ensures not))

pub returns-in-Err : goal.returns-in-Err
returns-in-Err g c not =
    let gives = g.I.Inputs.gives in
    let w = seen_rules c.args.words.now in
    let keeps : Keeps (g.O.ByteSink.written c.args.out) (g.O.ByteSink.written c.args.out) = search rules in
    let bad = c.in-Err.ensures.fault (λ same. not (ap (λ r. Err r) same)) in
    run_judged_err (AreRules (rule_name w) c.args.text.now) (λ rules. ruled gives w rules) _ c.args.inputs _ _ (report_of c.in-Err.failure)
    (subst (λ (n : List ℕ). AreRules n c.args.text.now (Err (report_of c.in-Err.failure))) c.rule_name.ensures bad) refl keeps
