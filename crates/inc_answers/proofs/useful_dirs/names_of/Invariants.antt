use Rattle.std.proofs.Common.{◌≡◌, [], drop}
use Rattle.inc_answers.specs.UsefulDirs.{all_names}
use Rattle.inc_answers.proofs.useful_dirs.names_of.Given as goal

-- the names so far become those of all directives with the rest
abbrev pub invariant-loop-place : goal.invariant-loop-place
invariant-loop-place l = all_names l.names.keys (drop l.place l.missing) ≡ all_names [] l.missing
