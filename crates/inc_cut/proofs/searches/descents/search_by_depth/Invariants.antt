use Rattle.std.proofs.Common.{◌≡◌, ℕ, true, take}
use Rattle.inc_graph.specs.Members.{is_member}
use Rattle.inc_cut.specs.Descents.{IsBetween, holds}
use Rattle.inc_cut.proofs.searches.descents.search_by_depth.Given as goal

-- what the sources so far reach is reached
abbrev pub invariant-loop-source : goal.invariant-loop-source
invariant-loop-source g l =
    IsBetween l.graph (g.T.StepTest.passes l.test) l.descent.reached.items l.descent.looked.items
    × ((a : ℕ) → is_member a (take l.source-index l.source-items) ≡ true → holds l.descent.reached.items a ≡ true)
