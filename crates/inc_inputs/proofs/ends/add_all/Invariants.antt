use Rattle.std.proofs.Common.{◌≡◌, ◌++◌, map, take}
use Rattle.std.specs.Prelude.{filter}
use Rattle.inc_globs.specs.Globs.{fits}
use Rattle.inc_inputs.proofs.ends.add_all.Given as goal

-- the paths so far that the glob fits
abbrev pub invariant-loop-place : goal.invariant-loop-place
invariant-loop-place l = record {
  added : map (λ p. p.now) l.paths.items ≡ map (λ p. p.now) l.initial.paths.items ++ filter (fits l.initial.glob) (take l.place l.project.paths);
  same : l.glob ≡ l.initial.glob;
}
