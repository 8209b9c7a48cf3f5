use Rattle.std.proofs.Common.{◌≡◌, drop}
use Rattle.inc_inputs.specs.BuildProjects.{with_fitting}
use Rattle.inc_inputs.specs.Views.{chosen_in, ground_in}
use Rattle.inc_inputs.proofs.build_choices.Choice.add_fitting.Given as goal

-- the choice so far becomes that of all sources with the rest
abbrev pub invariant-loop-number : goal.invariant-loop-number
invariant-loop-number l = record {
  same : l.glob ≡ l.initial.glob;
  rest : with_fitting (ground_in l.ground) l.files l.initial.glob l.number (drop l.number (ground_in l.ground).build.sources) (chosen_in l.self)
      ≡ with_fitting (ground_in l.ground) l.files l.initial.glob 0 (ground_in l.ground).build.sources (chosen_in l.initial.self);
}
