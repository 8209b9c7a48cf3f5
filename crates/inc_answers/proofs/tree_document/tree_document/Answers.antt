use Rattle.inc_answers.proofs.TreeBlocks.{two}
use Rattle.inc_answers.proofs.tree_document.tree_document.Goals as goal

pub returns : goal.returns
returns c =
    two _ c.add_total.new.document c.add_branches.new.document c.add_unresolved.new.document _ _ _ c.new-document.ensures (rw c.sources.ensures.sources at c.in_ok-add_total.ensures)
    c.in_ok-add_branches.ensures c.in_ok-add_unresolved.ensures
