use Rattle.std.proofs.Common.{◌≡◌, map, take}
use Rattle.inc_answers.specs.WhyDocument.{missing_id}
use Rattle.inc_answers.proofs.why_document.add_missing.Given as goal

-- those so far
abbrev pub invariant-loop-place : goal.invariant-loop-place
invariant-loop-place l = l.directives.items ≡ map missing_id (take l.place l.missing)
