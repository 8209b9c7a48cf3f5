use Rattle.std.proofs.Common.{◌≡◌, [], map, take}
use Rattle.inc_inputs.specs.Ends.{named_files}
use Rattle.inc_inputs.proofs.ends.first_named.Given as goal

-- the paths so far name no file
abbrev pub invariant-loop-path : goal.invariant-loop-path
invariant-loop-path l = named_files l.project (take l.path-index (map (λ p. p.now) l.paths)) ≡ []
