use Rattle.std.proofs.Common.{◌≡◌, drop, length}
use Rattle.std.specs.Prelude.{flat_map}
use Rattle.inc_graph.specs.Cuts.{Counted}
use Rattle.inc_answers.proofs.FlagLemmas.{Flagging}
use Rattle.inc_answers.proofs.dot_text.flag_counted.Given as goal

abbrev pub invariant-loop-place : goal.invariant-loop-place
invariant-loop-place l = record {
  flagging : Flagging l.initial.flags l.flags (flat_map (λ (c : Counted). c.chain) (drop l.place l.chains)) (flat_map (λ (c : Counted). c.chain) l.chains);
  long : length l.flags ≡ length l.initial.flags;
}
