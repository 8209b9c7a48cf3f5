use Rattle.std.proofs.Common.{◌≤◌, ◌-◌, length, take}
use Rattle.inc_answers.proofs.EdgeParts.{AreSent}
use Rattle.inc_answers.proofs.edges.send_edges.Given as goal

-- the lines so far are sent, and a text can hold their marks
abbrev pub invariant-loop-at : goal.invariant-loop-at
invariant-loop-at g l = record {
  within : l.at ≤ length l.edges;
  sent : AreSent l.project l.graph l.initial.out l.out (take l.at l.edges);
}

abbrev pub decreases-loop-at : goal.decreases-loop-at
decreases-loop-at g l = length l.edges - l.at
