use Rattle.std.proofs.Common.{◌≡◌, drop}
use Rattle.inc_answers.specs.MissingNotes.{found_note}
use Rattle.inc_answers.proofs.missing_notes.put_found.Given as goal

-- none of those so far is found so, and nothing is added
abbrev pub invariant-loop-place : goal.invariant-loop-place
invariant-loop-place l = record {
  left : found_note (drop l.place l.project.paths) l.name ≡ found_note l.project.paths l.name;
  same : l.text.items ≡ l.initial.text.items;
}
