use Rattle.std.proofs.Common.{◌≡◌, ◌++◌, drop}
use Rattle.inc_inputs.specs.BuildProjects.{nul_ended}
use Rattle.inc_inputs.proofs.build_files.BuildFiles.list.Given as goal

-- the list so far, and that of the rest, are all
abbrev pub invariant-loop-at : goal.invariant-loop-at
invariant-loop-at l = l.list.items ++ nul_ended (drop l.at l.self) ≡ nul_ended l.self
