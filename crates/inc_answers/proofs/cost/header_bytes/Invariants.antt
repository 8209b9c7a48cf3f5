use Rattle.std.proofs.Common.{◌≡◌, map}
use Rattle.std.specs.List.{range_with_len}
use Rattle.inc_answers.specs.CostText.{header_bytes_at}
use Rattle.inc_answers.proofs.cost.header_bytes.Given as goal

-- what the files so far bring
abbrev pub invariant-loop-place : goal.invariant-loop-place
invariant-loop-place l = l.found.items ≡ map (header_bytes_at l.graph l.bytes) (range_with_len 0 l.place)
