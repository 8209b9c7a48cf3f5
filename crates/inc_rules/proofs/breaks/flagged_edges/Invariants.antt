use Rattle.std.proofs.Common.{◌≡◌, false, filter, slice_index_or}
use Rattle.std.specs.List.{range_with_len}
use Rattle.inc_rules.proofs.breaks.flagged_edges.Given as goal

-- the edges so far are those before this place
abbrev pub invariant-loop-place : goal.invariant-loop-place
invariant-loop-place l = l.found.items ≡ filter (λ i. slice_index_or l.flags i false) (range_with_len 0 l.place)
