use Rattle.std.proofs.Common.{◌∙◌, ap, ap₂}
use Rattle.std.proofs.lemmas.Result.{IfOk-weaker}
use Rattle.clap.specs.Words.{app_of, with_rule}
use Rattle.inc_args.proofs.commands.with_list.Goals as goal

pub returns : goal.returns
returns c =
    let one = c.in_ok-arg.ensures.shape c.single.ensures.local ∙ ap (with_rule (app_of c.args.command)) c.single.ensures.rule in
    let two = c.in_ok-arg-2.ensures.shape c.files.ensures.local ∙ ap₂ with_rule one c.files.ensures.rule in
    let three = c.in_ok-arg-3.ensures.shape c.null.ensures.local ∙ ap₂ with_rule two c.null.ensures.rule in
    let four = c.in_ok-arg-4.ensures.shape c.repeated_option.ensures.local ∙ ap₂ with_rule three c.repeated_option.ensures.rule in
    let five = c.in_ok-arg-5.ensures.shape c.repeated_option-2.ensures.local ∙ ap₂ with_rule four c.repeated_option-2.ensures.rule in
    IfOk-weaker c.arg-6.result _ _ (λ r h. h.shape c.flag.ensures.local ∙ ap₂ with_rule five c.flag.ensures.rule) c.arg-6.ensures
