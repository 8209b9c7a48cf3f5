use Rattle.std.proofs.Common.{◌∙◌, drop, sym, arith}
use Rattle.std.proofs.lemmas.List.{length-drop, take_all}
use Rattle.inc_inputs.specs.Views.{answered_in}
use Rattle.inc_inputs.proofs.QuestionLemmas.{an_answer, no_answer}
use Rattle.inc_inputs.proofs.questions.answer_in.Goals as goal

pub returns-then-not-is_answer : goal.returns-then-not-is_answer
returns-then-not-is_answer c =
    no_answer c.args.line.now _ (answered_in c.parts_of-parts.result) (sym c.begins_answer.ensures ∙ c.if-not-begins_answer.false)
    (take_all _ (drop 4 c.args.line.now) (omega (arith, length-drop 4 c.args.line.now))) c.parts_of-parts.ensures (sym c.is_answer.ensures ∙ c.if-not-is_answer.true)

pub returns : goal.returns
returns c =
    an_answer c.args.line.now _ (answered_in c.parts_of-parts.result) (sym c.begins_answer.ensures ∙ c.if-not-begins_answer.false)
    (take_all _ (drop 4 c.args.line.now) (omega (arith, length-drop 4 c.args.line.now))) c.parts_of-parts.ensures (sym c.is_answer.ensures ∙ c.if-not-is_answer.false)
