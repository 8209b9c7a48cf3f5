use Rattle.std.proofs.Common.{◌≡◌, ◌++◌, take}
use Rattle.std.specs.Prelude.{flat_map}
use Rattle.inc_answers.specs.BlockedReasons.{drop_word}
use Rattle.inc_answers.proofs.blocked_reasons.put_words.Given as goal

-- those so far are added
abbrev pub invariant-loop-blocker : goal.invariant-loop-blocker
invariant-loop-blocker l = l.text.items ≡ l.initial.text.items ++ flat_map (drop_word l.project) (take l.blocker-index l.blockers)
