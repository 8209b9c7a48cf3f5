use Rattle.std.proofs.Common.{◌≡◌, ◌≤◌, ◌-◌, map, drop, length}
use Rattle.inc_inputs.specs.BuildPlaces.{with_sources}
use Rattle.inc_inputs.specs.Views.{source_in}
use Rattle.inc_inputs.proofs.build_places.with_sources.Given as goal

-- the lists so far become all with the sources of the rest
abbrev pub invariant-loop-at : goal.invariant-loop-at
invariant-loop-at l = record {
  within : l.at ≤ length l.compiled;
  long : length l.lists.items ≡ length l.project.paths;
  rest : with_sources l.project (map (λ v. v.items) l.lists.items) (map source_in (drop l.at l.compiled))
      ≡ with_sources l.project (map (λ v. v.items) l.initial.lists.items) (map source_in l.compiled);
}

abbrev pub decreases-loop-at : goal.decreases-loop-at
decreases-loop-at l = length l.compiled - l.at
