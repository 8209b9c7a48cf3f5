use Rattle.std.proofs.Common.{◌≡◌, drop}
use Rattle.inc_globs.specs.Globs.{is_glob}
use Rattle.inc_globs.proofs.globs.is_glob.Given as goal

-- the rest decides
abbrev pub invariant-loop-byte : goal.invariant-loop-byte
invariant-loop-byte l = is_glob (drop l.byte-index l.word) ≡ is_glob l.word
