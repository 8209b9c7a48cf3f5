use Rattle.std.proofs.Common.{◌∙◌, ◌++◌, ℕ, List, ap}
use Rattle.inc_answers.specs.NamedReasons.{undefined_word}
use Rattle.inc_answers.proofs.NoteLemmas.{each_more}
use Rattle.inc_answers.proofs.named_reasons.put_each.Goals as goal

pub loop-name-preserved : goal.loop-name-preserved
loop-name-preserved c =
    each_more undefined_word (λ n. n.items) c.args.text.now.items c.loop-name.text.items c.put_name.new.text.items c.args.names.now c.loop-name.name-index c.name-item.result
    c.loop-name-test.true c.loop-name.invariant
    (c.in_ok-put_name.ensures ∙ ap (λ (bytes : List ℕ). c.loop-name.text.items ++ undefined_word bytes) (c.deref.ensures.value ∙ ap (λ n. n.items) c.name-item.is))
