use Rattle.std.proofs.Common.{◌≡◌, ◌∙◌, ◌++◌, List, ℕ, OnOk, ap, codes, subst}
use Rattle.std.proofs.lemmas.List.{append_assoc}
use Rattle.inc_lookup.specs.Projects.{path_at}
use Rattle.inc_answers.specs.Documents.{counted}
use Rattle.inc_answers.specs.MissingNotes.{shown}
use Rattle.inc_answers.specs.TreeDocument.{indent}
use Rattle.inc_answers.proofs.NoteLemmas.{joined}
use Rattle.inc_answers.proofs.tree_document.put_branch.Goals as goal

pub returns : goal.returns
returns c =
    let old = c.args.text.now.items in
    let b = c.args.branch.now in
    let first = indent b.depth in
    let path = shown (path_at c.args.project.now b.file) in
    let whole = counted b.whole (codes " byte, ") (codes " bytes, ") in
    let own = counted b.own (codes " of its own") (codes " of its own") in
    let one =
    joined old first path c.put_indent.new.text.items c.put_shown.new.text.items c.in_ok-put_indent.ensures
    (c.in_ok-put_shown.ensures ∙ ap (λ (p : List ℕ). c.put_indent.new.text.items ++ shown p) c.path.ensures.path) in
    let two = joined old (first ++ path) (codes ": ") c.put_shown.new.text.items c.extend_from_slice.new.self.items one c.in_ok-extend_from_slice.ensures.items in
    let three = joined old (first ++ path ++ codes ": ") whole c.extend_from_slice.new.self.items c.put_counted.new.text.items two c.in_ok-put_counted.ensures in
    subst (λ (answer : List ℕ). OnOk c.put_counted-2.result (c.put_counted-2.new.text.items ≡ answer))
    (ap (λ (l : List ℕ). l ++ own) three ∙ append_assoc old (first ++ path ++ codes ": " ++ whole) own) c.put_counted-2.ensures
