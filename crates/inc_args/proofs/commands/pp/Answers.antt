use Rattle.std.proofs.Common.{◌∙◌, ap, ap₂}
use Rattle.std.proofs.lemmas.Result.{IfOk-weaker}
use Rattle.clap.specs.Words.{App, app_of, with_rule}
use Rattle.inc_args.specs.CommandLine.{bound_rules, file_rules, macro_rules, note_rules, output_rules, with_rules}
use Rattle.inc_args.proofs.commands.pp.Goals as goal

pub returns : goal.returns
returns c =
    let files = c.in_ok-with_files.ensures ∙ ap (λ (a : App). with_rules a file_rules) c.in_ok-command.ensures in
    let notes = c.in_ok-command-2.ensures ∙ ap (λ (a : App). with_rules a note_rules) files in
    let macros = c.in_ok-command-3.ensures ∙ ap (λ (a : App). with_rules a macro_rules) notes in
    let bounds = c.in_ok-command-4.ensures ∙ ap (λ (a : App). with_rules a bound_rules) macros in
    let outputs = c.in_ok-with_outputs.ensures ∙ ap (λ (a : App). with_rules a output_rules) bounds in
    IfOk-weaker c.arg.result _ _ (λ r h. h.shape c.sources.ensures.local ∙ ap₂ with_rule outputs c.sources.ensures.rule) c.arg.ensures
