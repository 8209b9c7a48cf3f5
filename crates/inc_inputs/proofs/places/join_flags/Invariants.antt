use Rattle.std.proofs.Common.{◌≡◌, false, map}
use Rattle.std.specs.Prelude.{◌&&◌, ◌||◌, not, slice_index_or}
use Rattle.std.specs.List.{range_with_len}
use Rattle.inc_inputs.proofs.places.join_flags.Given as goal

-- the flags so far
abbrev pub invariant-loop-place : goal.invariant-loop-place
invariant-loop-place l =
    l.flags.items ≡ map (λ f. slice_index_or l.kept f false || (l.has_others && not (slice_index_or l.others f false))) (range_with_len 0 l.place)
