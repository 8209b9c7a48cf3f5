use Rattle.std.proofs.Common.{◌∙◌, ◌∷◌, Some, ap, refl, sym}
use Rattle.inc_expand.specs.Sinks.{seen_ref}
use Rattle.inc_cond.specs.declared.questions.Progress.{Progress}
use Rattle.inc_cond.specs.declared.values.Value.{Value}
use Rattle.inc_cond.specs.Questions.{answer_after}
use Rattle.inc_cond.specs.Symbols.{Constant}
use Rattle.inc_cond.specs.Walks.{left_to_read}
use Rattle.inc_cond.proofs.OperandSteps.{answered-last, answered-more}
use Rattle.inc_cond.proofs.operands.Operands.answer.Goals as goal

pub returns-in-More-clause-same : goal.returns-in-More-clause-same
returns-in-More-clause-same c = λ q asked is.
    let old = c.args.self.now in
    answered-more old (record old { question = Some c.in-More.question }) c.in-Some.question c.in-More.question (seen_ref c.args.token) is
    c.requires c.requires (sym c.take.ensures.value ∙ c.in-Some.is) refl refl refl refl
    (c.in_ok-question.ensures is ∙ ap (λ (p : Progress). answer_after old.headers.now p is) c.in-More.is)

pub returns-in_ok-take-in-Answer-clause-same : goal.returns-in_ok-take-in-Answer-clause-same
returns-in_ok-take-in-Answer-clause-same c = λ q asked is.
    let old = c.args.self.now in
    answered-last old (record old { question = c.take.new.self; walk = c.take-in-Answer.new.self }) c.in-Some.question c.in-Answer.found (seen_ref c.args.token) is
    c.requires c.requires (sym c.take.ensures.value ∙ c.in-Some.is) c.take.ensures.after refl refl
    (λ ss. c.in_ok-take-in-Answer.ensures ss ∙ ap (λ (v : Value). left_to_read old.walk (Constant v ∷ ss)) c.truth.ensures)
    (c.in_ok-question.ensures is ∙ ap (λ (p : Progress). answer_after old.headers.now p is) c.in-Answer.is)
