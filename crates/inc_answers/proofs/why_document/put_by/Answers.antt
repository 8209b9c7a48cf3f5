use Rattle.std.proofs.Common.{◌≡◌, ◌∙◌, ◌++◌, List, ℕ, OnOk, ap, codes, subst}
use Rattle.std.proofs.lemmas.List.{append_assoc}
use Rattle.inc_answers.specs.Documents.{counted}
use Rattle.inc_answers.proofs.why_document.put_by.Goals as goal

pub returns : goal.returns
returns c =
    let old = c.args.text.now.items in
    let many = counted c.args.count (codes " directive:") (codes " directives:") in
    subst (λ (answer : List ℕ). OnOk c.put_counted.result (c.put_counted.new.text.items ≡ answer))
    (ap (λ (l : List ℕ). l ++ many) c.in_ok-extend_from_slice.ensures.items ∙ append_assoc old (codes " by ") many) c.put_counted.ensures
