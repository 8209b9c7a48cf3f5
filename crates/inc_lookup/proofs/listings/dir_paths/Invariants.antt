use Rattle.std.proofs.Common.{map, take}
use Rattle.inc_lookup.specs.Invariants.{AreNormalForms}
use Rattle.inc_lookup.specs.Projects.{is_bad_path}
use Rattle.inc_lookup.proofs.listings.dir_paths.Given as goal

-- no bad path so far
abbrev pub invariant-loop-index : goal.invariant-loop-index
invariant-loop-index l = AreNormalForms is_bad_path (map (λ d. d.now) (take l.index l.dirs)) (map (λ v. v.items) l.paths.items)
