use Rattle.std.proofs.Common.{◌≡◌}
use Rattle.std.specs.List.{All}
use Rattle.inc_graph.specs.declared.graphs.Edge as declared
use Rattle.inc_graph.specs.Near.{IsListed}
use Rattle.inc_check.proofs.checking.hints.Hints.fill_each.Given as goal

-- the edges so far are listed
abbrev pub invariant-loop-ahead : goal.invariant-loop-ahead
invariant-loop-ahead l = record {
  edges : All (λ (e : declared.Edge). IsListed l.graph e) l.initial.self.edges.items → All (λ (e : declared.Edge). IsListed l.graph e) l.self.edges.items;
  wanted : l.self.wanted ≡ l.initial.self.wanted;
}
