use Rattle.std.proofs.Common.{◌≡◌, ◌*◌, ◌≤◌, take}
use Rattle.inc_graph.specs.Cuts.{total_count}
use Rattle.inc_answers.proofs.json_answers.cost_of.Given as goal

-- the counts of those so far, each of which is one of 32 bits
abbrev pub invariant-loop-place : goal.invariant-loop-place
invariant-loop-place l = record {
  sum : l.cost ≡ total_count (take l.place l.chains);
  bound : l.cost ≤ l.place * 4_294_967_295;
}
