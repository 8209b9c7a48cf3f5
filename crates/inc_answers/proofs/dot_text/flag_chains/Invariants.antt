use Rattle.std.proofs.Common.{◌≡◌, ◌<◌, length}
use Rattle.std.specs.List.{All, concat}
use Rattle.inc_answers.proofs.FlagLemmas.{Flagging}
use Rattle.inc_answers.proofs.dot_text.flag_chains.Given as goal

abbrev pub invariant-loop-flags : goal.invariant-loop-flags
invariant-loop-flags l = record {
  flagging : Flagging l.initial.flags l.flags (concat l.chains.left) (concat l.initial.chains.left);
  long : length l.flags ≡ length l.initial.flags;
  within : All (λ chain. All (λ i. i < length l.initial.flags) chain) l.chains.left;
}

abbrev pub decreases-loop-flags : goal.decreases-loop-flags
decreases-loop-flags l = length l.chains.left
