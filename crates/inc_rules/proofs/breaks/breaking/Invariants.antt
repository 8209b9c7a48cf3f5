use Rattle.std.proofs.Common.{◌≡◌, ℕ, ◌<◌, false, length, map, take, true}
use Rattle.std.specs.Prelude.{◌↔◌, slice_index_or}
use Rattle.inc_rules.specs.Breaking.{BreaksSome}
use Rattle.inc_rules.specs.Views.{seen_rule}
use Rattle.inc_rules.proofs.breaks.breaking.Given as goal

-- the edges of the rules so far have flags
abbrev pub invariant-loop-rule : goal.invariant-loop-rule
invariant-loop-rule l = record {
  long : length l.flags.items ≡ length l.graph.edges;
  each : (edge : ℕ) → edge < length l.graph.edges
      → slice_index_or l.flags.items edge false ≡ true ↔ BreaksSome l.project l.graph (map seen_rule (take l.rule-index l.rules)) edge;
}
