use Rattle.std.proofs.Common.{◌≡◌, ◌≤◌, ◌-◌, [], map, drop, length}
use Rattle.inc_build.specs.CompilerCommands.{built, sources_with}
use Rattle.inc_build.specs.Configurations.{configuration}
use Rattle.inc_build.specs.Views.{seen_build, seen_item}
use Rattle.inc_build.proofs.builds.Build.of_command.Given as goal

-- the sources so far become all with those of the rest
abbrev pub invariant-loop-at : goal.invariant-loop-at
invariant-loop-at l = record {
  low : l.at ≤ length l.items;
  made : seen_build l.build ≡ built (configuration l.directory (map seen_item l.items)) (seen_build l.build).sources;
  rest : sources_with l.directory (map seen_item (drop l.at l.items)) (seen_build l.build).sources ≡ sources_with l.directory (map seen_item l.items) [];
}

abbrev pub decreases-loop-at : goal.decreases-loop-at
decreases-loop-at l = length l.items - l.at
