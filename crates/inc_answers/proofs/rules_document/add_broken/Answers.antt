use Rattle.inc_answers.proofs.RuleBlocks.{added_all}
use Rattle.inc_answers.proofs.rules_document.add_broken.Goals as goal

pub returns : goal.returns
returns c =
    added_all c.add_lacking.result c.args.document.now c.add_rule.new.document c.add_chains.new.document c.add_lacking.new.document _ _ _ c.in_ok-add_rule.ensures
    (rw c.deref.ensures.value at c.in_ok-add_chains.ensures) (rw c.deref-2.ensures.value at c.add_lacking.ensures)
