use Rattle.std.proofs.Common.{◌≡◌, ◌+◌, ◌++◌, ◌-◌, ◌≤◌, length, map, not}
use Rattle.std.specs.Prelude.{◌==◌, filter}
use Rattle.inc_text.specs.Ascii.{comma}
use Rattle.inc_rules.specs.Rules.{is_empty, parts_between}
use Rattle.inc_rules.proofs.SplitLemmas.{parts_behind}
use Rattle.inc_rules.proofs.words.push_globs.Given as goal

-- the globs so far, and those that are left, are all
abbrev pub invariant-loop-at : goal.invariant-loop-at
invariant-loop-at l = record {
  within : l.at ≤ length l.word + 1;
  globs : map (λ g. g.now) l.fn.globs.items ++ parts_between (λ b. b == comma) l.word ≡ map (λ g. g.now) l.globs.items ++ filter (λ p. not (is_empty p)) (parts_behind (λ b. b == comma) l.at l.word);
}

abbrev pub decreases-loop-at : goal.decreases-loop-at
decreases-loop-at l = length l.word + 1 - l.at
