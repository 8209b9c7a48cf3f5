use Rattle.std.proofs.Common.{◌≡◌, drop}
use Rattle.inc_inputs.specs.WrittenBaselines.{is_unnameable}
use Rattle.inc_inputs.proofs.written_baselines.is_unnameable.Given as goal

-- what is left of the path says it
abbrev pub invariant-loop-place : goal.invariant-loop-place
invariant-loop-place l = is_unnameable (drop l.place l.path) ≡ is_unnameable l.path
