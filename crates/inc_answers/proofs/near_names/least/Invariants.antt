use Rattle.std.proofs.Common.{◌≡◌, ◌≤◌, drop}
use Rattle.std.specs.Prelude.{min}
use Rattle.inc_answers.specs.NearNames.{far, least}
use Rattle.inc_answers.proofs.near_names.least.Given as goal

-- the least of those so far and of those that are left is that of all
abbrev pub invariant-loop-place : goal.invariant-loop-place
invariant-loop-place l = record {
  same : min l.least (least l.name (drop l.place l.project.paths)) ≡ least l.name l.project.paths;
  low : l.least ≤ far;
}
