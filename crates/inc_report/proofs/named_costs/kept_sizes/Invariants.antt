use Rattle.std.proofs.Common.{◌≡◌}
use Rattle.inc_answers.specs.FileSizes.{kept_sizes}
use Rattle.inc_report.proofs.named_costs.kept_sizes.Given as goal

-- those of the files so far
abbrev pub invariant-loop-place : goal.invariant-loop-place
invariant-loop-place l = l.sizes.items ≡ kept_sizes l.files l.place
