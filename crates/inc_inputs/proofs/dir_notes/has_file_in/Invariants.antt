use Rattle.std.proofs.Common.{◌≡◌, drop}
use Rattle.std.specs.List.{list_any}
use Rattle.inc_inputs.specs.DirNotes.{lies_in}
use Rattle.inc_inputs.proofs.dir_notes.has_file_in.Given as goal

-- what is asked of the rest is asked of all
abbrev pub invariant-loop-place : goal.invariant-loop-place
invariant-loop-place l = list_any (lies_in l.folder) (drop l.place l.project.paths) ≡ list_any (lies_in l.folder) l.project.paths
