use Rattle.std.proofs.Common.{◌≡◌, ◌++◌, drop, map}
use Rattle.std.specs.Prelude.{filter_map}
use Rattle.inc_globs.specs.Globs.{pieces}
use Rattle.inc_rules.proofs.sides.globs_of.Given as goal

-- the globs so far, and those of the patterns that are left, are all
abbrev pub invariant-loop-pattern : goal.invariant-loop-pattern
invariant-loop-pattern l = filter_map pieces (map (λ p. p.now) l.patterns) ≡ l.globs.items ++ filter_map pieces (map (λ p. p.now) (drop l.pattern-index l.patterns))
