use Rattle.std.proofs.Common.{refl}
use Rattle.std.proofs.lemmas.Result.{IfOk-weaker}
use Rattle.inc_args.proofs.Subcommands.{added}
use Rattle.inc_args.proofs.commands.with_surveys.Goals as goal

pub returns : goal.returns
returns c =
    let one = added _ _ _ _ _ c.in_ok-subcommand.ensures refl c.in_ok-rules.ensures refl in
    IfOk-weaker c.subcommand-2.result _ _ (λ r h. added _ _ _ _ _ h one c.in_ok-cost.ensures refl) c.subcommand-2.ensures
