use Rattle.std.proofs.Common.{◌∙◌, ap, ap₂}
use Rattle.std.proofs.lemmas.Result.{IfOk-weaker}
use Rattle.clap.specs.Words.{app_of, with_rule}
use Rattle.inc_args.proofs.commands.with_strict.Goals as goal

pub returns : goal.returns
returns c =
    let one = c.in_ok-arg.ensures.shape c.flag.ensures.local ∙ ap (with_rule (app_of c.args.command)) c.flag.ensures.rule in
    IfOk-weaker c.arg-2.result _ _ (λ r h. h.shape c.repeated_option.ensures.local ∙ ap₂ with_rule one c.repeated_option.ensures.rule) c.arg-2.ensures
