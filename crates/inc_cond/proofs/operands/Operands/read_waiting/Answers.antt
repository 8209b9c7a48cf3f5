use Rattle.std.proofs.Common.{rules, ◌∙◌, ◌∷◌, ◌++◌, List, Some, ap, map, refl, sym}
use Rattle.inc_expand.specs.Expansion.{Item}
use Rattle.inc_expand.specs.Items.{seen_item}
use Rattle.inc_expand.specs.declared.items.Item.{Item as ItemValue}
use Rattle.inc_cond.specs.declared.questions.Question.{Question}
use Rattle.inc_cond.specs.Operands.{given}
use Rattle.inc_cond.specs.Symbols.{is_next_question}
use Rattle.inc_cond.proofs.OperandSteps.{read-question}
use Rattle.inc_cond.proofs.QuestionSteps.{none-of, on-both, popped, some-of}
use Rattle.inc_cond.proofs.operands.Operands.read_waiting.Goals as goal

pub returns-then-is_some-clause-same : goal.returns-then-is_some-clause-same
returns-then-is_some-clause-same c =
    let old = c.args.self.now in
    let rest = c.remove-first.new.self.items in
    let asked = some-of old.question (sym c.is_some.ensures ∙ c.if-is_some.true) in
    let first = popped old.waiting.items rest c.remove-first.result c.requires.some c.remove-first.ensures.value c.remove-first.ensures.by_index.2 in
    on-both c.answer.result _ _ _ c.answer.ensures.same c.answer.ensures.waiting (λ same kept is ready.
    ap (λ w. given c.answer.new.self (map seen_item w.items ++ is)) kept
    ∙ same asked.0 asked.1 (map seen_item rest ++ is)
    ∙ ap (λ (i : Item). given old (i ∷ map seen_item rest ++ is)) c.lent.ensures
    ∙ ap (λ (w : List ItemValue). given old (map seen_item w ++ is)) (sym first))

pub returns-then-asks_header-clause-same : goal.returns-then-asks_header-clause-same
returns-then-asks_header-clause-same c = λ is ready.
    let old = c.args.self.now in
    let x = c.remove-first-then-asks_header.result in
    let rest = c.remove-first-then-asks_header.new.self.items in
    let new = record old { question = Some c.new.result; waiting = c.remove-first-then-asks_header.new.self } in
    let first = popped old.waiting.items rest x c.requires.some c.remove-first-then-asks_header.ensures.value c.remove-first-then-asks_header.ensures.by_index.2 in
    read-question old new (seen_item x) (map seen_item rest ++ is) c.is_next_question.result c.requires.good c.requires.good
    (none-of old.question (sym c.is_some.ensures ∙ c.if-is_some.false)) (ap (λ (q : Question). Some q) c.new.ensures) refl refl refl
    (search rules) (c.is_next_question.ensures ∙ ap (λ bs. is_next_question bs) c.bytes.ensures)
    ∙ ap (λ (w : List ItemValue). given old (map seen_item w ++ is)) (sym first)
