use Rattle.std.proofs.Common.{◌≡◌, ◌++◌, Some, take}
use Rattle.std.specs.Prelude.{filter_map}
use Rattle.inc_check.specs.Reading.{mark_with}
use Rattle.inc_inputs.proofs.named_marks.push_lines.Given as goal

-- the marks of the lines so far
abbrev pub invariant-loop-line : goal.invariant-loop-line
invariant-loop-line l = l.marks.items ≡ l.initial.marks.items ++ filter_map (λ n. mark_with (Some n) l.path) (take l.line-index l.lines)
