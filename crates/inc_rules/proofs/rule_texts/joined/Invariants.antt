use Rattle.std.proofs.Common.{◌≡◌, ◌++◌, drop, map}
use Rattle.inc_rules.specs.RuleTexts.{joined_from}
use Rattle.inc_rules.proofs.rule_texts.joined.Given as goal

-- the words so far, and those that are left, are all
abbrev pub invariant-loop-place : goal.invariant-loop-place
invariant-loop-place l = joined_from 0 (map (λ w. w.now) l.words) ≡ l.text.items ++ joined_from l.place (map (λ w. w.now) (drop l.place l.words))
