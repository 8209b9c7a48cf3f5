use Rattle.std.proofs.Common.{◌≡◌, ◌≤◌, ◌-◌, drop, length, map}
use Rattle.inc_inputs.specs.BuildNotes.{with_lines}
use Rattle.inc_inputs.specs.BuildProjects.{all_empty}
use Rattle.inc_inputs.specs.Views.{dirs_in, notes_in}
use Rattle.inc_inputs.proofs.build_empty.Empty.add_paths.Given as goal

-- the notes so far become all with those of the rest
abbrev pub invariant-loop-at : goal.invariant-loop-at
invariant-loop-at l =
    (l.at ≤ length l.paths)
    × (with_lines (notes_in l.self.notes) (all_empty l.found l.self.known.keys (map dirs_in (drop l.at l.paths)))
    ≡ with_lines (notes_in l.initial.self.notes) (all_empty l.found l.initial.self.known.keys (map dirs_in l.paths)))

abbrev pub decreases-loop-at : goal.decreases-loop-at
decreases-loop-at l = length l.paths - l.at
