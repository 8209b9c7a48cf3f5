use Rattle.std.proofs.Common.{◌≡◌, drop, length}
use Rattle.std.specs.Prelude.{flat_map}
use Rattle.inc_answers.proofs.FlagLemmas.{Flagging}
use Rattle.inc_answers.proofs.dot_text.flag_lists.Given as goal

abbrev pub invariant-loop-edges : goal.invariant-loop-edges
invariant-loop-edges l = record {
  flagging : Flagging l.initial.flags l.flags (flat_map (λ c. c.items) (drop l.edges-index l.lists)) (flat_map (λ c. c.items) l.lists);
  long : length l.flags ≡ length l.initial.flags;
}
