use Rattle.std.proofs.Common.{◌-◌, ◌≤◌, length, drop}
use Rattle.inc_build.proofs.PathLemmas.{Continues}
use Rattle.inc_build.proofs.paths.push_components.Given as goal

-- the components up to here are added
abbrev pub invariant-loop-slash : goal.invariant-loop-slash
invariant-loop-slash l = record {
  within : l.at ≤ length l.path;
  continues : Continues l.path l.initial.out.items (drop l.at l.path) l.out.items;
}

abbrev pub decreases-loop-slash : goal.decreases-loop-slash
decreases-loop-slash l = length l.path - l.at
