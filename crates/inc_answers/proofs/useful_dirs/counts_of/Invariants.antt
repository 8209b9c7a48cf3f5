use Rattle.std.proofs.Common.{◌≡◌, [], drop}
use Rattle.inc_answers.specs.UsefulDirs.{with_files}
use Rattle.inc_answers.proofs.useful_dirs.counts_of.Given as goal

-- the directories so far become those of all paths with the rest
abbrev pub invariant-loop-place : goal.invariant-loop-place
invariant-loop-place l = with_files l.names.keys l.counts.entries (drop l.place l.project.paths) ≡ with_files l.names.keys [] l.project.paths
