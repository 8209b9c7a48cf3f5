use Rattle.std.proofs.Common.{◌≡◌, ◌≤◌, length, drop}
use Rattle.inc_globs.specs.Globs.{fits}
use Rattle.inc_globs.proofs.globs.Glob.differs.Given as goal

-- the rest decides
abbrev pub invariant-loop-index : goal.invariant-loop-index
invariant-loop-index l = (l.index ≤ length l.path) × (fits l.self l.path ≡ fits (drop l.index l.self) (drop l.index l.path))
