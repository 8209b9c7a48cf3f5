use Rattle.std.proofs.Common.{◌≡◌, ◌∙◌, ◌++◌, ℕ, List, ap, codes, drop, map}
use Rattle.inc_report.specs.RulesSarif.{results_from}
use Rattle.inc_answers.proofs.NoteLemmas.{joined, joined_as}
use Rattle.inc_report.proofs.SarifLemmas.{items_behind}
use Rattle.inc_answers.specs.JsonTexts.{items_text}
use Rattle.inc_report.proofs.rules_sarif.put_results.Goals as goal
use Rattle.inc_rules.specs.Views.{seen_judged}

pub returns : goal.returns
returns c =
    let old = c.args.text.now.items in
    let rs = results_from c.args.project.now c.args.graph.now c.args.name.now 0 (map seen_judged c.args.judged.now) in
    let items : c.behind_first.result.now ≡ items_text rs =
    c.behind_first.ensures ∙ ap (λ (t : List ℕ). drop 1 t) (c.deref.ensures.value ∙ c.in_ok-results.ensures) ∙ items_behind rs in
    joined old (codes "[" ++ items_text rs) (codes "]") c.extend_from_slice.new.self.items c.push-2.new.self.items
    (joined_as old (codes "[") (items_text rs) c.behind_first.result.now c.push.new.self.items c.extend_from_slice.new.self.items c.in_ok-push.ensures.items c.in_ok-extend_from_slice.ensures.items items)
    c.in_ok-push-2.ensures.items
