use Rattle.std.proofs.Common.{◌≡◌, ◌++◌, map, take}
use Rattle.inc_lookup.proofs.search_dirs.add_copies.Given as goal

-- those so far
abbrev pub invariant-loop-index : goal.invariant-loop-index
invariant-loop-index l = map (λ d. d.items) l.dirs.items ≡ map (λ d. d.items) l.initial.dirs.items ++ take l.index l.list
