use Rattle.std.proofs.Common.{◌≡◌, ◌≤◌, ◌-◌, drop, length, map}
use Rattle.inc_inputs.specs.BuildNotes.{with_lines}
use Rattle.inc_inputs.specs.BuildProjects.{empty_lines, once}
use Rattle.inc_inputs.specs.Views.{notes_in}
use Rattle.inc_inputs.proofs.build_empty.Empty.add_all.Given as goal

-- the notes and directories so far become all with the rest
abbrev pub invariant-loop-at : goal.invariant-loop-at
invariant-loop-at l = record {
  within : l.at ≤ length l.dirs;
  notes : with_lines (notes_in l.self.notes) (empty_lines l.found l.option l.self.known.keys (map (λ d. d.items) (drop l.at l.dirs)))
      ≡ with_lines (notes_in l.initial.self.notes) (empty_lines l.found l.option l.initial.self.known.keys (map (λ d. d.items) l.dirs));
  known : once l.self.known.keys (map (λ d. d.items) (drop l.at l.dirs)) ≡ once l.initial.self.known.keys (map (λ d. d.items) l.dirs);
}

abbrev pub decreases-loop-at : goal.decreases-loop-at
decreases-loop-at l = length l.dirs - l.at
