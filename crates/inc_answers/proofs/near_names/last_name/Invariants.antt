use Rattle.std.proofs.Common.{◌≡◌, ◌≤◌, drop, length}
use Rattle.inc_answers.specs.NearNames.{last_name, name_from}
use Rattle.inc_answers.proofs.near_names.last_name.Given as goal

-- what is left of the path leads to its last component
abbrev pub invariant-loop-place : goal.invariant-loop-place
invariant-loop-place l = record {
  same : name_from (drop l.begin l.path) (drop l.place l.path) ≡ last_name l.path;
  low : l.begin ≤ length l.path;
}
