use Rattle.std.proofs.Common.{◌≡◌, ◌<◌, ◌==◌, ◌&&◌, ◌||◌, ℕ, drop, length, nat_lt, slice_index}
use Rattle.std.specs.List.{list_any}
use Rattle.inc_graph.specs.declared.graphs.Blocker.{Blocker}
use Rattle.inc_rules.proofs.open_lines.put_blockers.Given as goal

-- what is taken into account so far, and what is left
abbrev pub invariant-loop-blocker : goal.invariant-loop-blocker
invariant-loop-blocker l = record {
  long : length l.opens ≡ length l.fn.opens;
  each : (file line : ℕ) → file < length l.fn.opens
      → (nat_lt (slice_index l.fn.opens file) line || list_any (λ (d : Blocker). (d.file == file) && nat_lt d.line line) l.blockers)
      ≡ (nat_lt (slice_index l.opens file) line || list_any (λ (d : Blocker). (d.file == file) && nat_lt d.line line) (drop l.blocker-index l.blockers));
}
