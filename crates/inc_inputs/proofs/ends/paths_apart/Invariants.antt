use Rattle.std.proofs.Common.{◌≡◌, map, take}
use Rattle.inc_inputs.specs.Ends.{apart}
use Rattle.inc_inputs.proofs.ends.paths_apart.Given as goal

-- the paths so far that are left
abbrev pub invariant-loop-path : goal.invariant-loop-path
invariant-loop-path l =
    map (λ p. p.now) l.left.items ≡ apart l.project (take l.path-index (map (λ p. p.now) l.paths)) (map (λ p. p.now) l.others)
