use Rattle.std.proofs.Common.{◌∙◌, ◌∷◌, Some, ap, refl, sym}
use Rattle.inc_expand.specs.Sinks.{seen_ref}
use Rattle.inc_cond.specs.declared.questions.Question.{Question}
use Rattle.inc_cond.proofs.OperandSteps.{none-waits, read-question}
use Rattle.inc_cond.proofs.QuestionSteps.{none-of, on-both, some-of}
use Rattle.inc_cond.proofs.operands.Operands.read_next.Goals as goal

pub returns-then-is_some : goal.returns-then-is_some
returns-then-is_some c =
    let old = c.args.self.now in
    let asked = some-of old.question (sym c.is_some.ensures ∙ c.if-is_some.true) in
    on-both c.answer.result _ _ _ c.answer.ensures.same c.answer.ensures.waiting (λ same kept is.
    none-waits c.answer.new.self is (ap (λ w. w.items) kept ∙ c.requires.none)
    ∙ same asked.0 asked.1 is
    ∙ sym (none-waits old (seen_ref c.args.token ∷ is) c.requires.none))

pub returns-then-asks_header : goal.returns-then-asks_header
returns-then-asks_header c = λ is.
    let old = c.args.self.now in
    let new = record old { question = Some c.new.result } in
    none-waits new is c.requires.none
    ∙ read-question old new (seen_ref c.args.token) is c.is_next_question.result c.requires.good c.requires.good
    (none-of old.question (sym c.is_some.ensures ∙ c.if-is_some.false)) (ap (λ (q : Question). Some q) c.new.ensures) refl refl refl
    (sym c.asks_header.ensures ∙ c.if-asks_header.true) c.is_next_question.ensures
    ∙ sym (none-waits old (seen_ref c.args.token ∷ is) c.requires.none)
