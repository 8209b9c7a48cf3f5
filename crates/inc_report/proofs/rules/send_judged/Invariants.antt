use Rattle.std.proofs.Common.{take}
use Rattle.std.specs.Prelude.{flat_map}
use Rattle.inc_report.specs.RulesText.{judged_text}
use Rattle.inc_answers.specs.Sending.{Sends}
use Rattle.inc_rules.specs.Views.{seen_judged}
use Rattle.inc_report.proofs.rules.send_judged.Given as goal

-- the rules so far are sent
abbrev pub invariant-loop-rule : goal.invariant-loop-rule
invariant-loop-rule g l = Sends l.initial.out l.out (flat_map (λ j. judged_text l.project l.graph (seen_judged j)) (take l.rule-index l.judged))
