use Rattle.std.proofs.Common.{◌≡◌, ◌∙◌, List, ℕ, OnOk, ap, subst}
use Rattle.inc_graph.specs.IncludeGraph.{Graph}
use Rattle.inc_graph.specs.MissingLists.{Missing, missing_at}
use Rattle.inc_answers.specs.JsonAnswers.{about_of, missing_item, puts}
use Rattle.inc_answers.specs.Views.{named_by}
use Rattle.inc_answers.proofs.JsonSteps.{ends_then, puts_then}
use Rattle.inc_answers.proofs.json_parts.JsonText.put_missing_name.Goals as goal

pub returns : goal.returns
returns c =
    let old = c.args.self.now in
    let name = c.args.name in
    let form = c.in_ok-put.ensures ∙ ap (λ (t : List ℕ). puts c.put_count.new.self t) c.named_form.ensures in
    let first =
    c.at-first.ensures ∙ ap (λ (ms : List Missing). missing_at ms name.place) (c.missing.ensures.missing ∙ ap (λ (g : Graph). g.missing) c.graph-graph.ensures) in
    subst (λ (t : List ℕ). OnOk c.put-2.result (c.put-2.new.self ≡ puts old t)) (ap (λ (m : Missing). missing_item (about_of old) (named_by m name.count)) first)
    (ends_then c.put-2.result old c.put_bytes_member.new.self c.put-2.new.self _ _
    (puts_then old c.put.new.self c.put_bytes_member.new.self _ _ (puts_then old c.put_count.new.self c.put.new.self _ _ c.in_ok-put_count.ensures form) c.in_ok-put_bytes_member.ensures)
    c.put-2.ensures)
