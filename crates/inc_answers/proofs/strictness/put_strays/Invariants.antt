use Rattle.std.proofs.Common.{◌≡◌, ◌++◌, map, take}
use Rattle.std.specs.Prelude.{flat_map}
use Rattle.inc_graph.specs.MissingLists.{missing_at}
use Rattle.inc_answers.specs.Strictness.{stray_reason}
use Rattle.inc_answers.proofs.strictness.put_strays.Given as goal

-- those so far are added
abbrev pub invariant-loop-place : goal.invariant-loop-place
invariant-loop-place l = l.text.items ≡ l.initial.text.items ++ flat_map (stray_reason l.project) (map (missing_at l.missing) (take l.place-index l.strays))
