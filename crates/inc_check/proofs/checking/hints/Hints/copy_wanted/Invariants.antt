use Rattle.std.proofs.Common.{length}
use Rattle.std.specs.List.{All}
use Rattle.inc_graph.specs.declared.graphs.Edge as declared
use Rattle.inc_graph.specs.Near.{IsListed}
use Rattle.inc_check.proofs.checking.hints.Hints.copy_wanted.Given as goal

-- the edges so far are listed
abbrev pub invariant-loop-wanted : goal.invariant-loop-wanted
invariant-loop-wanted l =
    All (λ (e : declared.Edge). IsListed l.graph e) l.initial.self.edges.items → All (λ (e : declared.Edge). IsListed l.graph e) l.self.edges.items

abbrev pub decreases-loop-wanted : goal.decreases-loop-wanted
decreases-loop-wanted l = length l.self.wanted.items
