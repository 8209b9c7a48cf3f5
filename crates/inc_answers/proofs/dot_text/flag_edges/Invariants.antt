use Rattle.std.proofs.Common.{◌≡◌, drop, length}
use Rattle.inc_answers.proofs.FlagLemmas.{Flagging}
use Rattle.inc_answers.proofs.dot_text.flag_edges.Given as goal

abbrev pub invariant-loop-edge : goal.invariant-loop-edge
invariant-loop-edge l = record {
  flagging : Flagging l.initial.flags l.flags (drop l.edge-index l.edges) l.edges;
  long : length l.flags ≡ length l.initial.flags;
}
