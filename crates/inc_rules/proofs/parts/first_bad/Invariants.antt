use Rattle.std.proofs.Common.{◌≡◌, drop, map}
use Rattle.inc_rules.specs.Rules.{first_bad}
use Rattle.inc_rules.proofs.parts.first_bad.Given as goal

-- the first is among those that are left
abbrev pub invariant-loop-glob : goal.invariant-loop-glob
invariant-loop-glob l = first_bad (map (λ g. g.now) l.globs) ≡ first_bad (map (λ g. g.now) (drop l.glob-index l.globs))
