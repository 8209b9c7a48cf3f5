use Rattle.std.proofs.Common.{◌≡◌, ◌++◌, map, take}
use Rattle.std.specs.Prelude.{flat_map}
use Rattle.inc_answers.specs.NamedReasons.{undefined_word}
use Rattle.inc_answers.proofs.named_reasons.put_each.Given as goal

-- those so far are added
abbrev pub invariant-loop-name : goal.invariant-loop-name
invariant-loop-name l = l.text.items ≡ l.initial.text.items ++ flat_map undefined_word (map (λ n. n.items) (take l.name-index l.names))
