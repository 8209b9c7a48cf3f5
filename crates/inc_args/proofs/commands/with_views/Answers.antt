use Rattle.std.proofs.Common.{refl}
use Rattle.std.proofs.lemmas.Result.{IfOk-weaker}
use Rattle.inc_args.proofs.Subcommands.{added}
use Rattle.inc_args.proofs.commands.with_views.Goals as goal

pub returns : goal.returns
returns c =
    let one = added _ _ _ _ _ c.in_ok-subcommand.ensures refl c.in_ok-scan.ensures refl in
    let two = added _ _ _ _ _ c.in_ok-subcommand-2.ensures one c.in_ok-why.ensures refl in
    let three = added _ _ _ _ _ c.in_ok-subcommand-3.ensures two c.in_ok-who.ensures refl in
    IfOk-weaker c.subcommand-4.result _ _ (λ r h. added _ _ _ _ _ h three c.in_ok-graph.ensures refl) c.subcommand-4.ensures
