use Rattle.std.proofs.Common.{◌≡◌, map, take}
use Rattle.inc_answers.specs.NearNames.{unnamed}
use Rattle.inc_answers.proofs.near_names.unnamed_words.Given as goal

-- those so far are found
abbrev pub invariant-loop-word : goal.invariant-loop-word
invariant-loop-word l = map (λ w. w.now) l.found.items ≡ unnamed l.project (map (λ w. w.now) (take l.word-index l.words))
