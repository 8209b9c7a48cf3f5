use Rattle.std.proofs.Common.{◌≡◌, ◌++◌, drop}
use Rattle.inc_answers.specs.Changes.{first_lines}
use Rattle.inc_answers.proofs.changes.first_lines.Given as goal

-- with those of the directives that are left they are all
abbrev pub invariant-loop-directive : goal.invariant-loop-directive
invariant-loop-directive l = l.lines.items ++ first_lines l.file (drop l.directive-index l.directives) ≡ first_lines l.file l.directives
