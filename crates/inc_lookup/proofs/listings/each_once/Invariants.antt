use Rattle.std.proofs.Common.{◌≡◌, map, take}
use Rattle.inc_lookup.specs.Projects.{each_once}
use Rattle.inc_lookup.proofs.listings.each_once.Given as goal

-- those so far are in the table
abbrev pub invariant-loop-path : goal.invariant-loop-path
invariant-loop-path l = l.list ≡ each_once (map (λ v. v.items) (take l.path-index l.paths))
