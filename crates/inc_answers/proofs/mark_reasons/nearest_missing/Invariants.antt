use Rattle.std.proofs.Common.{◌≡◌, take}
use Rattle.std.specs.Prelude.{fold}
use Rattle.inc_answers.specs.MarkReasons.{with_missing}
use Rattle.inc_answers.proofs.mark_reasons.nearest_missing.Given as goal

-- the nearest of those so far
abbrev pub invariant-loop-place : goal.invariant-loop-place
invariant-loop-place l = l.near ≡ fold (with_missing l.file l.at) l.fn.first (take l.place l.missing)
