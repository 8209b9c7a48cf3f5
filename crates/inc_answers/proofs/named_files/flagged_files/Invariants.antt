use Rattle.std.proofs.Common.{◌≡◌, filter, slice_index_or, false}
use Rattle.std.specs.List.{range_with_len}
use Rattle.inc_answers.proofs.named_files.flagged_files.Given as goal

-- the files so far that have a flag
abbrev pub invariant-loop-place : goal.invariant-loop-place
invariant-loop-place l = l.files.items ≡ filter (λ f. slice_index_or l.flags f false) (range_with_len 0 l.place)
