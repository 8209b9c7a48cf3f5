use Rattle.std.proofs.Common.{◌∙◌, [], ◌∷◌, ◌++◌, ap, map, subst, sym, take}
use Rattle.std.proofs.lemmas.List.{map_more, map_push}
use Rattle.inc_rules.specs.Judging.{AreJudged, IsWithin, no_rule}
use Rattle.inc_rules.specs.Views.{seen_judged, seen_rule}
use Rattle.inc_rules.proofs.JudgeLemmas.{one_more}
use Rattle.inc_rules.proofs.WithinLemmas.{all_seen, judged_within}
use Rattle.inc_rules.proofs.judging.judge.Goals as goal

pub loop-rule-init : goal.loop-rule-init
loop-rule-init c = subst (λ js. AreJudged c.args.project.now c.args.graph.now [] (map seen_judged js)) (sym c.in_ok-judged.ensures.items) no_rule

pub loop-rule-preserved : goal.loop-rule-preserved
loop-rule-preserved c =
    one_more c.args.project.now c.args.graph.now (map seen_rule (take c.loop-rule.rule-index c.args.rules.now)) (map seen_judged c.loop-rule.judged.items)
    (seen_rule c.rule-item.result) (seen_judged c.in_ok-judge_rule.field-0) _ (map seen_judged c.push.new.self.items)
    c.loop-rule.invariant c.in_ok-judge_rule.ensures.rule c.in_ok-judge_rule.ensures.breaks
    (map_more seen_rule c.args.rules.now c.loop-rule.rule-index c.rule-item.result c.loop-rule-test.true
    ∙ ap (λ r. map seen_rule (take c.loop-rule.rule-index c.args.rules.now) ++ seen_rule r ∷ []) (sym c.rule-item.is))
    (ap (map seen_judged) c.in_ok-push.ensures.items ∙ map_push seen_judged c.loop-rule.judged.items c.in_ok-judge_rule.field-0)

pub returns-clause-within : goal.returns-clause-within
returns-clause-within c =
    all_seen (IsWithin c.args.graph.now) seen_judged c.loop-rule.judged.items
    (judged_within c.args.project.now c.args.graph.now (map seen_rule (take c.loop-rule.rule-index c.args.rules.now)) (map seen_judged c.loop-rule.judged.items)
    c.files-files.ensures.sound c.loop-rule.invariant)
