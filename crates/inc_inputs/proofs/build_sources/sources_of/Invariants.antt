use Rattle.std.proofs.Common.{◌≡◌, ◌++◌, drop, map}
use Rattle.inc_inputs.specs.BuildProjects.{build_sources}
use Rattle.inc_inputs.specs.Views.{ground_in, source_in}
use Rattle.inc_inputs.proofs.build_sources.sources_of.Given as goal

-- those so far, and those of the rest, are all
abbrev pub invariant-loop-number : goal.invariant-loop-number
invariant-loop-number l =
    map source_in l.sources.items ++ build_sources (ground_in l.ground) l.used.keys l.number (drop l.number (ground_in l.ground).build.sources)
    ≡ build_sources (ground_in l.ground) l.used.keys 0 (ground_in l.ground).build.sources
