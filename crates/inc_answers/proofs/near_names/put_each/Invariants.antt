use Rattle.std.proofs.Common.{◌≡◌, ◌++◌, codes, map, take}
use Rattle.std.specs.Prelude.{flat_map}
use Rattle.inc_answers.specs.NearNames.{unnamed_line}
use Rattle.inc_answers.proofs.near_names.put_each.Given as goal

-- those so far are added
abbrev pub invariant-loop-word : goal.invariant-loop-word
invariant-loop-word l = l.text.items ≡ l.initial.text.items ++ flat_map (unnamed_line (codes "source") l.project.paths) (map (λ w. w.now) (take l.word-index l.words))
