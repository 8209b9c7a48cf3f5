use Rattle.std.proofs.Common.{◌≡◌, ℕ, ◌<◌, ◌==◌, ◌&&◌, ◌||◌, drop, false, length}
use Rattle.std.specs.Prelude.{slice_index_or}
use Rattle.std.specs.List.{list_any}
use Rattle.inc_graph.specs.declared.graphs.Edge.{Edge}
use Rattle.inc_rules.specs.Reaching.{is_entering}
use Rattle.inc_rules.proofs.breaks.flag_entering.Given as goal

-- the edges so far have flags, and those that are left are to have them
abbrev pub invariant-loop-edge : goal.invariant-loop-edge
invariant-loop-edge l = record {
  long : length l.flags ≡ length l.fn.flags;
  each : (edge : ℕ) → edge < length l.fn.flags
      → (slice_index_or l.fn.flags edge false || list_any (λ (e : Edge). (e.id == edge) && is_entering l.bound l.right e) l.edges)
      ≡ (slice_index_or l.flags edge false || list_any (λ (e : Edge). (e.id == edge) && is_entering l.bound l.right e) (drop l.edge-index l.edges));
}
