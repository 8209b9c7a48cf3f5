use Rattle.inc_answers.proofs.CostBlocks.{four}
use Rattle.inc_answers.proofs.cost_document.cost_document.Goals as goal

pub returns : goal.returns
returns c =
    four _ c.add_total.new.document c.add_headers.new.document c.add_groups.new.document c.add_edges.new.document c.add_unresolved.new.document _ _ _ _ _ c.new-document.ensures
    (rw c.sources.ensures.sources at c.in_ok-add_total.ensures) (rw c.deref.ensures.value at c.in_ok-add_headers.ensures) c.in_ok-add_groups.ensures (rw c.deref-2.ensures.value at c.in_ok-add_edges.ensures)
    c.in_ok-add_unresolved.ensures
