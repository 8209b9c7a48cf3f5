use Rattle.std.proofs.Common.{◌∙◌, ◌++◌, ℕ, List, ap}
use Rattle.inc_answers.specs.JsonTexts.{string_text}
use Rattle.inc_report.specs.RulesSarif.{rule_words}
use Rattle.inc_answers.proofs.NoteLemmas.{joined, joined_as}
use Rattle.inc_rules.specs.Views.{seen_rule}
use Rattle.inc_report.proofs.rules_sarif.put_rule_item.Goals as goal

pub returns : goal.returns
returns c =
    let old = c.args.text.now.items in
    let id = joined old _ _ c.extend_from_slice.new.self.items c.put_id.new.text.items c.in_ok-extend_from_slice.ensures.items c.in_ok-put_id.ensures in
    let key = joined old _ _ c.put_id.new.text.items c.extend_from_slice-2.new.self.items id c.in_ok-extend_from_slice-2.ensures.items in
    let words = rule_words (seen_rule c.args.rule.now) in
    let are = c.deref.ensures.value ∙ c.in_ok-put_rule_words.ensures ∙ ap (λ (t : List ℕ). t ++ words) c.new-words.ensures.items in
    let said =
    joined_as old _ (string_text words) (string_text c.deref.result.now) c.extend_from_slice-2.new.self.items c.put_string.new.text.items key c.in_ok-put_string.ensures
    (ap (λ (t : List ℕ). string_text t) are) in
    joined old _ _ c.put_string.new.text.items c.extend_from_slice-3.new.self.items said c.in_ok-extend_from_slice-3.ensures.items
