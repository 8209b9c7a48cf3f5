use Rattle.std.proofs.Common.{◌≡◌, take, map}
use Rattle.inc_inputs.specs.IncludePath.{dir_names}
use Rattle.inc_inputs.proofs.projects.names_of.Given as goal

-- the names so far
abbrev pub invariant-loop-dir : goal.invariant-loop-dir
invariant-loop-dir l = map (λ n. n.now) l.names.items ≡ dir_names (take l.dir-index l.dirs)
