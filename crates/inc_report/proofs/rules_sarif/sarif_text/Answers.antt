use Rattle.std.proofs.Common.{◌∙◌, ◌++◌, ℕ, List, [], ap, codes}
use Rattle.inc_answers.proofs.NoteLemmas.{joined, joined_as}
use Rattle.inc_report.proofs.SarifLemmas.{rules_seen}
use Rattle.inc_report.proofs.rules_sarif.sarif_text.Goals as goal

pub returns : goal.returns
returns c =
    let begun = c.in_ok-extend_from_slice.ensures.items ∙ ap (λ (t : List ℕ). t ++ codes "{\"$schema\":\"https://json.schemastore.org/sarif-2.1.0.json\",") c.new-text.ensures.items in
    let key = joined [] _ _ c.extend_from_slice.new.self.items c.extend_from_slice-2.new.self.items begun c.in_ok-extend_from_slice-2.ensures.items in
    let results = joined [] _ _ c.extend_from_slice-2.new.self.items c.put_results.new.text.items key c.in_ok-put_results.ensures in
    let second = joined [] _ _ c.put_results.new.text.items c.extend_from_slice-3.new.self.items results c.in_ok-extend_from_slice-3.ensures.items in
    let all = rules_seen c.args.name.now c.args.judged.now in
    let every = joined_as [] _ _ _ c.extend_from_slice-3.new.self.items c.put_rules.new.text.items second c.in_ok-put_rules.ensures all in
    joined [] _ _ c.put_rules.new.text.items c.extend_from_slice-4.new.self.items every c.in_ok-extend_from_slice-4.ensures.items
