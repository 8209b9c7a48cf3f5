use Rattle.inc_graph.proofs.AmountLists.{ones_fit}
use Rattle.inc_graph.proofs.fixed.Fixed.ones.Goals as goal

pub invariant_of-result : goal.invariant_of-result
invariant_of-result c = rw c.new.ensures.items (ones_fit c.args.edges)
