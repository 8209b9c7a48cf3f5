use Rattle.std.proofs.Common.{◌≡◌, map, take}
use Rattle.inc_lookup.specs.Projects.{each_once}
use Rattle.inc_lookup.proofs.name_lists.NameList.new.Given as goal

-- those so far are in the table
abbrev pub invariant-loop-name : goal.invariant-loop-name
invariant-loop-name l = l.list ≡ each_once (map (λ n. n.now) (take l.name-index l.names))
