use Rattle.std.proofs.Common.{◌∙◌, ap, ap₂}
use Rattle.std.proofs.lemmas.Result.{IfOk-weaker}
use Rattle.clap.specs.Words.{app_of, with_rule}
use Rattle.inc_args.proofs.commands.with_cost_words.Goals as goal

pub returns : goal.returns
returns c =
    let one = c.in_ok-arg.ensures.shape c.repeated_option.ensures.local ∙ ap (with_rule (app_of c.args.command)) c.repeated_option.ensures.rule in
    let two = c.in_ok-arg-2.ensures.shape c.option.ensures.local ∙ ap₂ with_rule one c.option.ensures.rule in
    let three = c.in_ok-arg-3.ensures.shape c.option-2.ensures.local ∙ ap₂ with_rule two c.option-2.ensures.rule in
    let four = c.in_ok-arg-4.ensures.shape c.option-3.ensures.local ∙ ap₂ with_rule three c.option-3.ensures.rule in
    let five = c.in_ok-arg-5.ensures.shape c.repeated_option-2.ensures.local ∙ ap₂ with_rule four c.repeated_option-2.ensures.rule in
    IfOk-weaker c.arg-6.result _ _ (λ r h. h.shape c.repeated_option-3.ensures.local ∙ ap₂ with_rule five c.repeated_option-3.ensures.rule) c.arg-6.ensures
