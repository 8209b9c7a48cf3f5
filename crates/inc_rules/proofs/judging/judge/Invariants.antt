use Rattle.std.proofs.Common.{map, take}
use Rattle.inc_rules.specs.Judging.{AreJudged}
use Rattle.inc_rules.specs.Views.{seen_judged, seen_rule}
use Rattle.inc_rules.proofs.judging.judge.Given as goal

-- the rules so far are judged
abbrev pub invariant-loop-rule : goal.invariant-loop-rule
invariant-loop-rule l = AreJudged l.project l.graph (map seen_rule (take l.rule-index l.rules)) (map seen_judged l.judged.items)
