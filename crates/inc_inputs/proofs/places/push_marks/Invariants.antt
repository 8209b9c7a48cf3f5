use Rattle.std.proofs.Common.{◌≡◌, ◌++◌, map, take}
use Rattle.std.specs.Prelude.{filter_map}
use Rattle.inc_check.specs.Reading.{mark_with}
use Rattle.inc_inputs.proofs.places.push_marks.Given as goal

-- the marks of the paths so far
abbrev pub invariant-loop-path : goal.invariant-loop-path
invariant-loop-path l =
    l.marks.items ≡ l.initial.marks.items ++ filter_map (mark_with l.line) (take l.path-index (map (λ p. p.now) l.paths))
