use Rattle.std.proofs.Common.{◌≡◌, drop}
use Rattle.std.specs.Prelude.{find}
use Rattle.inc_inputs.specs.WrittenBaselines.{is_unnameable}
use Rattle.inc_inputs.proofs.written_baselines.first_unnameable.Given as goal

-- what is left of the paths has the first
abbrev pub invariant-loop-place : goal.invariant-loop-place
invariant-loop-place l = find is_unnameable (drop l.place l.project.paths) ≡ find is_unnameable l.project.paths
