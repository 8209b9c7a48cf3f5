use Rattle.std.proofs.Common.{◌≡◌, ◌≤◌, ◌*◌, take}
use Rattle.inc_cost.specs.Costs.{weight_of}
use Rattle.inc_cost.specs.Searches.{files_in}
use Rattle.inc_cost.proofs.totals.weigh.Given as goal

-- what the files so far weigh
abbrev pub invariant-loop-visit : goal.invariant-loop-visit
invariant-loop-visit l = (l.sum ≡ weight_of l.weights (take l.visit-index (files_in l.search))) × (l.sum ≤ l.visit-index * 4_294_967_295)
