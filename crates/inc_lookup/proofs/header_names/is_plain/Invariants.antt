use Rattle.std.proofs.Common.{◌≡◌, ◌-◌, ◌≤◌, length, drop}
use Rattle.std.specs.List.{list_all}
use Rattle.inc_lookup.specs.Paths.{components}
use Rattle.inc_lookup.specs.PathParts.{is_kept}
use Rattle.inc_lookup.proofs.header_names.is_plain.Given as goal

-- the components up to here stay
abbrev pub invariant-loop-slash : goal.invariant-loop-slash
invariant-loop-slash l = record {
  within : l.at ≤ length l.name;
  same : list_all is_kept (components l.name) ≡ list_all is_kept (components (drop l.at l.name));
}

abbrev pub decreases-loop-slash : goal.decreases-loop-slash
decreases-loop-slash l = length l.name - l.at
