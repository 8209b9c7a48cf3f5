use Rattle.std.proofs.Common.{◌≡◌, take}
use Rattle.inc_report.proofs.named_costs.edges_at.Given as goal

-- those so far
abbrev pub invariant-loop-place : goal.invariant-loop-place
invariant-loop-place l = l.edges.items ≡ take l.place-index l.places
