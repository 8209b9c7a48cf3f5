use Rattle.std.proofs.Common.{◌-◌, ◌≤◌, length, drop}
use Rattle.inc_lookup.specs.Paths.{components}
use Rattle.inc_lookup.specs.ReducedNames.{IsReducedTo}
use Rattle.inc_lookup.proofs.header_names.Reduction.new.Given as goal

-- the components up to here are added
abbrev pub invariant-loop-slash : goal.invariant-loop-slash
invariant-loop-slash l = record {
  within : l.at ≤ length l.name;
  few : l.reduced.climbs ≤ l.at;
  so_far : IsReducedTo (components l.name) l.reduced.climbs l.reduced.rest.items (components (drop l.at l.name));
}

abbrev pub decreases-loop-slash : goal.decreases-loop-slash
decreases-loop-slash l = length l.name - l.at
