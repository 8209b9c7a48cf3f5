use Rattle.std.proofs.Common.{◌∙◌, ℕ, List, ap}
use Rattle.inc_lookup.specs.Projects.{path_at}
use Rattle.inc_report.specs.SarifViews.{seen_listed}
use Rattle.inc_report.specs.RulesSarif.{file_place, file_words, message_text}
use Rattle.inc_answers.proofs.NoteLemmas.{joined, joined_as}
use Rattle.inc_report.proofs.SarifLemmas.{joined_on}
use Rattle.inc_report.proofs.rules_sarif.put_file.Goals as goal

pub returns : goal.returns
returns c =
    let old = c.args.text.now.items in
    let l = seen_listed c.args.listed.now in
    let path = path_at c.args.project.now c.args.file in
    let place =
    joined_as old _ (file_place path) (file_place c.path_of.result.now) c.extend_from_slice.new.self.items c.put_file_place.new.text.items c.in_ok-extend_from_slice.ensures.items
    c.in_ok-put_file_place.ensures (ap (λ (p : List ℕ). file_place p) c.path_of.ensures) in
    let placed = joined old _ _ c.put_file_place.new.text.items c.extend_from_slice-2.new.self.items place c.in_ok-extend_from_slice-2.ensures.items in
    joined_on c.put_message.result old _ (message_text l (file_words c.args.project.now l.rule c.args.file)) (message_text l c.deref.result.now) c.extend_from_slice-2.new.self.items
    c.put_message.new.text.items placed c.put_message.ensures (ap (λ (t : List ℕ). message_text l t) (c.deref.ensures.value ∙ c.in_ok-words.ensures))
