use Rattle.std.proofs.Common.{◌≡◌, ◌<◌, ◌-◌, ◌++◌, drop, length, map, take}
use Rattle.inc_answers.proofs.NearNameLemmas.{at}
use Rattle.inc_answers.proofs.near_names.nearest.Given as goal

-- those so far, and as many of those that are left as there is room for, are the first of all
abbrev pub invariant-loop-place : goal.invariant-loop-place
invariant-loop-place l = record {
  same : map (λ p. p.now) l.paths.items ++ take (3 - length l.paths.items) (at l.name l.least (drop l.place l.project.paths))
      ≡ take 3 (at l.name l.least l.project.paths);
  room : length l.paths.items < 3;
}
