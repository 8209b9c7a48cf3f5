use Rattle.inc_answers.proofs.RuleBlocks.{made_all}
use Rattle.inc_answers.proofs.rules_document.rules_document.Goals as goal

pub returns : goal.returns
returns c =
    made_all _ c.add_judged.new.document c.add_summary.new.document c.add_unresolved.new.document _ _ _ c.new-document.ensures c.in_ok-add_judged.ensures c.in_ok-add_summary.ensures
    c.in_ok-add_unresolved.ensures
