use Rattle.std.proofs.Common.{◌≡◌, ◌++◌, map, take}
use Rattle.std.specs.Prelude.{flat_map}
use Rattle.inc_answers.specs.MissingNotes.{name_note}
use Rattle.inc_answers.specs.Views.{seen_name}
use Rattle.inc_answers.proofs.missing_notes.put_each.Given as goal

-- those so far are added
abbrev pub invariant-loop-name : goal.invariant-loop-name
invariant-loop-name l = l.text.items ≡ l.initial.text.items ++ flat_map (name_note l.project) (map (seen_name l.missing) (take l.name-index l.first))
