use Rattle.std.proofs.Common.{ap, ◌∙◌, ◌++◌, [], ◌∷◌, take}
use Rattle.inc_answers.specs.Numbers.{directive_text}
use Rattle.inc_answers.proofs.FillingLemmas.{directive_joined}
use Rattle.inc_answers.proofs.filling.put_directive.Goals as goal

pub returns-clause-put : goal.returns-clause-put
returns-clause-put c =
    c.put_byte-2.ensures.put
    ∙ ap (λ l. l ++ 10 ∷ []) (c.put_text-end.ensures.put ∙ ap (λ l. l ++ c.args.path.now) (c.put_byte.ensures.put ∙ ap (λ l. l ++ 32 ∷ []) c.put_number-blank.ensures.put))
    ∙ directive_joined (take c.args.at c.args.bytes.now.items) c.args.path.now c.from.result
    ∙ ap (λ n. take c.args.at c.args.bytes.now.items ++ directive_text n c.args.path.now) c.from.ensures
