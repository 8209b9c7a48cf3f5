use Rattle.std.proofs.Common.{◌≡◌, ◌-◌, ◌≤◌, length, drop, map}
use Rattle.inc_rules.specs.Rules.{behind}
use Rattle.inc_rules.proofs.parts.behind.Given as goal

-- the words that are left are behind where all of them are
abbrev pub invariant-loop-at : goal.invariant-loop-at
invariant-loop-at l = record {
  first : l.at ≤ length l.first;
  within : l.at ≤ length l.words;
  left : behind (map (λ f. f.now) (drop l.at l.first)) (map (λ w. w.now) (drop l.at l.words)) ≡ behind (map (λ f. f.now) l.first) (map (λ w. w.now) l.words);
}

abbrev pub decreases-loop-at : goal.decreases-loop-at
decreases-loop-at l = length l.first - l.at
