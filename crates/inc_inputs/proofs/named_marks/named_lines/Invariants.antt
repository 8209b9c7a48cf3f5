use Rattle.std.proofs.Common.{◌≡◌, option_map, take}
use Rattle.inc_directive.specs.Parts.{lines_of_parts}
use Rattle.inc_inputs.specs.NamedPlaces.{named_lines}
use Rattle.inc_inputs.proofs.named_marks.named_lines.Given as goal

-- the lines of the parts so far
abbrev pub invariant-loop-i : goal.invariant-loop-i
invariant-loop-i l = l.lines.items ≡ named_lines (option_map (λ n. n.now) l.name) (lines_of_parts (take l.i l.found))
