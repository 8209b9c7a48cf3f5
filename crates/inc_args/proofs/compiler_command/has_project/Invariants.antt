use Rattle.std.proofs.Common.{◌≡◌, map, length}
use Rattle.std.specs.String.{string_bytes}
use Rattle.inc_args.specs.CompilerCommand.{has_project}
use Rattle.inc_args.proofs.compiler_command.has_project.Given as goal

-- those so far are options
abbrev pub invariant-loop-left : goal.invariant-loop-left
invariant-loop-left l = has_project (map string_bytes l.left) ≡ has_project (map string_bytes l.fn.words)

abbrev pub decreases-loop-left : goal.decreases-loop-left
decreases-loop-left l = length l.left
