use Rattle.std.proofs.Common.{◌≡◌, ◌≤◌, ◌-◌, ◌+◌, map, drop, length}
use Rattle.serde_json.specs.View.{items_view}
use Rattle.inc_build.specs.Databases.{entries_from}
use Rattle.inc_build.proofs.EntryLemmas.{onto}
use Rattle.inc_build.specs.Views.{seen_entry}
use Rattle.inc_build.proofs.databases.entries_of.Given as goal

-- the entries so far, and those of the rest, are all
abbrev pub invariant-loop-at : goal.invariant-loop-at
invariant-loop-at l = (l.at ≤ length l.items) × (onto (map seen_entry l.entries.items) (entries_from (l.at + 1) (items_view (drop l.at l.items))) ≡ entries_from 1 (items_view l.items))

abbrev pub decreases-loop-at : goal.decreases-loop-at
decreases-loop-at l = length l.items - l.at
