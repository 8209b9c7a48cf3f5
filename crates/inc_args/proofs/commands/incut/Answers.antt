use Rattle.std.proofs.Common.{◌∙◌, ap}
use Rattle.std.proofs.lemmas.Result.{IfOk-weaker}
use Rattle.inc_args.specs.CommandLine.{with_edits, with_surveys, with_views}
use Rattle.inc_args.proofs.commands.incut.Goals as goal

pub returns : goal.returns
returns c =
    let views = c.in_ok-command.ensures ∙ ap with_views c.in_ok-program.ensures in
    let surveys = c.in_ok-command-2.ensures ∙ ap with_surveys views in
    IfOk-weaker c.with_edits.result _ _ (λ r h. h ∙ ap with_edits surveys) c.with_edits.ensures
