use Rattle.std.proofs.Common.{◌≡◌, ◌+◌, ◌-◌, take}
use Rattle.std.specs.List.{list_any}
use Rattle.inc_answers.specs.PatchText.{context, is_changed}
use Rattle.inc_answers.proofs.patch.changes_soon.Given as goal

-- what is left to look at says the same
abbrev pub invariant-loop : goal.invariant-loop
invariant-loop l = list_any is_changed (take (context + 1 - l.counter) l.left) ≡ list_any is_changed (take (context + 1) l.rows)
