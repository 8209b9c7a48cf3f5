use Rattle.std.proofs.Common.{◌∙◌, ℕ, List, ap}
use Rattle.inc_report.specs.SarifViews.{seen_listed}
use Rattle.inc_report.specs.RulesSarif.{chain_words, message_text}
use Rattle.inc_answers.proofs.NoteLemmas.{joined}
use Rattle.inc_report.proofs.SarifLemmas.{joined_on}
use Rattle.inc_report.proofs.rules_sarif.put_chain.Goals as goal

pub returns : goal.returns
returns c =
    let old = c.args.text.now.items in
    let l = seen_listed c.args.listed.now in
    let steps = joined old _ _ c.extend_from_slice.new.self.items c.put_steps.new.text.items c.in_ok-extend_from_slice.ensures.items c.in_ok-put_steps.ensures in
    let level = joined old _ _ c.put_steps.new.text.items c.extend_from_slice-2.new.self.items steps c.in_ok-extend_from_slice-2.ensures.items in
    let first = joined old _ _ c.extend_from_slice-2.new.self.items c.put_first.new.text.items level c.in_ok-put_first.ensures in
    let placed = joined old _ _ c.put_first.new.text.items c.extend_from_slice-3.new.self.items first c.in_ok-extend_from_slice-3.ensures.items in
    joined_on c.put_message.result old _ (message_text l (chain_words c.args.project.now c.args.graph.now l.rule c.args.chain.now)) (message_text l c.deref.result.now) c.extend_from_slice-3.new.self.items
    c.put_message.new.text.items placed c.put_message.ensures (ap (λ (t : List ℕ). message_text l t) (c.deref.ensures.value ∙ c.in_ok-words.ensures))
