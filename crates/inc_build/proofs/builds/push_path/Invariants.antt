use Rattle.std.proofs.Common.{◌≡◌, ◌++◌, ℕ, List, drop}
use Rattle.inc_build.specs.Builds.{path_text}
use Rattle.inc_build.proofs.builds.push_path.Given as goal

-- the rest of the path goes on as the whole does
abbrev pub invariant-loop-byte : goal.invariant-loop-byte
invariant-loop-byte l = (rest : List ℕ) → l.text.items ++ path_text (drop l.byte-index l.path) rest ≡ l.initial.text.items ++ path_text l.path rest
