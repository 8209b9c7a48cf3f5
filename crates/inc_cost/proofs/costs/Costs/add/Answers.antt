use Rattle.std.proofs.Common.{arith}
use Rattle.inc_cost.proofs.costs.Costs.add.Goals as goal

pub returns-clause-below : goal.returns-clause-below
returns-clause-below c = λ most below. record {
  total = omega (arith, below.total, c.requires.fitting.total);
  edges = c.add.ensures.below most below.edges;
  files = c.add-2.ensures.below most below.files;
}
