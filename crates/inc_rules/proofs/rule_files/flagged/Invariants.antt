use Rattle.std.proofs.Common.{◌≡◌, false, filter, slice_index_or}
use Rattle.std.specs.List.{range_with_len}
use Rattle.inc_rules.proofs.rule_files.flagged.Given as goal

-- the files so far are those before this place
abbrev pub invariant-loop-place : goal.invariant-loop-place
invariant-loop-place l = l.files.items ≡ filter (λ f. slice_index_or l.flags f false) (range_with_len 0 l.place)
