use Rattle.std.proofs.Common.{◌≡◌, drop, length}
use Rattle.std.specs.Prelude.{flat_map}
use Rattle.inc_answers.proofs.FlagLemmas.{Flagging}
use Rattle.inc_answers.proofs.dot_text.flag_judged.Given as goal

abbrev pub invariant-loop-rule : goal.invariant-loop-rule
invariant-loop-rule l = record {
  flagging : Flagging l.initial.flags l.flags (flat_map (λ j. flat_map (λ c. c.items) j.chains.items) (drop l.rule-index l.judged)) (flat_map (λ j. flat_map (λ c. c.items) j.chains.items) l.judged);
  long : length l.flags ≡ length l.initial.flags;
}
