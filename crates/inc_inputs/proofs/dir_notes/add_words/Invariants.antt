use Rattle.std.proofs.Common.{◌≡◌, ◌≤◌, ◌-◌, drop, length, map}
use Rattle.std.specs.Prelude.{flat_map}
use Rattle.inc_inputs.specs.BuildNotes.{with_lines}
use Rattle.inc_inputs.specs.DirNotes.{dir_line}
use Rattle.inc_inputs.specs.Views.{notes_in}
use Rattle.inc_inputs.proofs.dir_notes.add_words.Given as goal

-- the notes so far become all with those of the rest
abbrev pub invariant-loop-at : goal.invariant-loop-at
invariant-loop-at l = record {
  within : l.at ≤ length l.words;
  notes : with_lines (notes_in l.notes) (flat_map (dir_line l.project.paths l.option) (map (λ w. w.now) (drop l.at l.words)))
      ≡ with_lines (notes_in l.initial.notes) (flat_map (dir_line l.project.paths l.option) (map (λ w. w.now) l.words));
}

abbrev pub decreases-loop-at : goal.decreases-loop-at
decreases-loop-at l = length l.words - l.at
