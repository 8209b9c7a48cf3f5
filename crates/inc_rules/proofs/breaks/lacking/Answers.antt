use Rattle.std.proofs.Common.{◌∙◌, [], ◌∷◌, ◌++◌, List, ℕ, ap, ap₂, map, subst, sym, take}
use Rattle.std.specs.List.{All}
use Rattle.std.proofs.lemmas.List.{map_more, map_push}
use Rattle.inc_rules.specs.Breaking.{lacking}
use Rattle.inc_rules.specs.Judging.{IsWithin, Judged}
use Rattle.inc_rules.specs.Rules.{Rule}
use Rattle.inc_rules.specs.Views.{seen_judged, seen_rule}
use Rattle.inc_rules.proofs.BreakingLemmas.{lacking_within}
use Rattle.inc_rules.proofs.WithinLemmas.{all_seen}
use Rattle.inc_rules.proofs.breaks.lacking.Goals as goal

pub loop-rule-init : goal.loop-rule-init
loop-rule-init c = ap (map seen_judged) c.in_ok-lacking.ensures.items

pub loop-rule-preserved : goal.loop-rule-preserved
loop-rule-preserved c =
    let layout = c.args.project.now in
    let g = c.args.graph.now in
    let before : List Rule = map seen_rule (take c.loop-rule.rule-index c.args.rules.now) in
    let more = map_more seen_rule c.args.rules.now c.loop-rule.rule-index c.rule-item.result c.loop-rule-test.true
    ∙ ap (λ r. before ++ seen_rule r ∷ []) (sym c.rule-item.is) in
    ap (map seen_judged) c.in_ok-push.ensures.items ∙ map_push seen_judged c.loop-rule.lacking.items _
    ∙ ap₂ (λ (js : List Judged) (j : Judged). js ++ j ∷ []) c.loop-rule.invariant
    (c.by_files.ensures ∙ ap (λ (fs : List ℕ). record { rule = seen_rule c.rule-item.result; chains = []; files = fs }) c.in_ok-files.ensures.files)
    ∙ sym (map_push (lacking layout g) before (seen_rule c.rule-item.result)) ∙ ap (map (lacking layout g)) (sym more)

pub returns-clause-within : goal.returns-clause-within
returns-clause-within c =
    all_seen (IsWithin c.args.graph.now) seen_judged c.loop-rule.lacking.items
    (subst (All (IsWithin c.args.graph.now)) (sym c.loop-rule.invariant)
    (lacking_within c.args.project.now c.args.graph.now c.files-files.ensures.sound (map seen_rule (take c.loop-rule.rule-index c.args.rules.now))))
