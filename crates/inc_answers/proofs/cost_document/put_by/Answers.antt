use Rattle.std.proofs.Common.{◌++◌, ◌∙◌, List, ℕ, ap, codes}
use Rattle.std.proofs.lemmas.List.{append_assoc}
use Rattle.inc_answers.specs.Documents.{counted}
use Rattle.inc_answers.proofs.cost_document.put_by.Goals as goal

pub returns : goal.returns
returns c =
    let number = counted c.args.count (codes " directive") (codes " directives") in
    c.in_ok-put_counted.ensures ∙ ap (λ (t : List ℕ). t ++ number) c.in_ok-extend_from_slice.ensures.items ∙ append_assoc c.args.text.now.items (codes ", by ") number
