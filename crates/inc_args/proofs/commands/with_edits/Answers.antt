use Rattle.std.proofs.Common.{refl}
use Rattle.std.proofs.lemmas.Result.{IfOk-weaker}
use Rattle.inc_args.proofs.Subcommands.{added}
use Rattle.inc_args.proofs.commands.with_edits.Goals as goal

pub returns : goal.returns
returns c =
    let one = added _ _ _ _ _ c.in_ok-subcommand.ensures refl c.in_ok-cut.ensures refl in
    let two = added _ _ _ _ _ c.in_ok-subcommand-2.ensures one c.in_ok-check.ensures refl in
    IfOk-weaker c.subcommand-3.result _ _ (λ r h. added _ _ _ _ _ h two c.in_ok-pp.ensures refl) c.subcommand-3.ensures
