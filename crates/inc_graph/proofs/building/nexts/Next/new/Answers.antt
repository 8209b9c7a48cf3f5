use Rattle.std.proofs.Common.{sym, subst}
use Rattle.inc_graph.specs.Nexts.{AreRising}
use Rattle.inc_graph.proofs.HitLemmas.{hits_rise}
use Rattle.inc_graph.proofs.building.nexts.Next.new.Goals as goal

pub invariant_of-result : goal.invariant_of-result
invariant_of-result c = subst AreRising (sym c.in_ok-hits.ensures) (hits_rise c.args.lookup.now c.args.header.name.now)
