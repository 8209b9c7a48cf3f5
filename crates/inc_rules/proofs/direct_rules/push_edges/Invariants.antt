use Rattle.std.proofs.Common.{◌≡◌, ◌++◌, ◌<◌, drop, length, map}
use Rattle.std.specs.Prelude.{flat_map}
use Rattle.std.specs.List.{All}
use Rattle.inc_graph.specs.declared.graphs.Edge as graphs
use Rattle.inc_lookup.specs.Projects.{Layout}
use Rattle.inc_rules.specs.Judging.{across_chain}
use Rattle.inc_rules.specs.Lines.{AreRight}
use Rattle.inc_rules.specs.Rules.{Rule}
use Rattle.inc_rules.proofs.direct_rules.push_edges.Given as goal

-- the chains so far, and those of the edges that are left, are all
abbrev pub invariant-loop-edge : goal.invariant-loop-edge
invariant-loop-edge l =
    (layout : Layout) (r : Rule) → AreRight (length l.right) layout r l.right → All (λ (e : graphs.Edge). e.to < length l.right) l.edges
    → map (λ c. c.items) l.fn.chains.items ++ flat_map (across_chain layout r) l.edges ≡ map (λ c. c.items) l.chains.items ++ flat_map (across_chain layout r) (drop l.edge-index l.edges)
