use Rattle.std.proofs.Common.{◌≡◌, ◌∙◌, ◌++◌, List, ℕ, OnOk, ap, codes, subst}
use Rattle.std.specs.Prelude.{decimal}
use Rattle.std.proofs.lemmas.List.{append_assoc}
use Rattle.inc_answers.specs.CutDocument.{often_words}
use Rattle.inc_answers.specs.Documents.{counted}
use Rattle.inc_answers.proofs.NoteLemmas.{joined}
use Rattle.inc_answers.proofs.cut_document.put_chain.Goals as goal

pub returns : goal.returns
returns c =
    let old = c.args.text.now.items in
    let number = decimal c.args.number in
    let total = decimal c.args.total in
    let many = counted c.args.len (codes " directive") (codes " directives") in
    let often = often_words c.args.count in
    let one = joined old (codes "chain ") number c.extend_from_slice.new.self.items c.put_number.new.text.items c.in_ok-extend_from_slice.ensures.items c.in_ok-put_number.ensures in
    let two = joined old (codes "chain " ++ number) (codes " of ") c.put_number.new.text.items c.extend_from_slice-2.new.self.items one c.in_ok-extend_from_slice-2.ensures.items in
    let three = joined old (codes "chain " ++ number ++ codes " of ") total c.extend_from_slice-2.new.self.items c.put_number-2.new.text.items two c.in_ok-put_number-2.ensures in
    let four =
    joined old (codes "chain " ++ number ++ codes " of " ++ total) (codes ", by ") c.put_number-2.new.text.items c.extend_from_slice-3.new.self.items three c.in_ok-extend_from_slice-3.ensures.items in
    let five =
    joined old (codes "chain " ++ number ++ codes " of " ++ total ++ codes ", by ") many c.extend_from_slice-3.new.self.items c.put_counted.new.text.items four c.in_ok-put_counted.ensures in
    subst (λ (answer : List ℕ). OnOk c.put_often.result (c.put_often.new.text.items ≡ answer))
    (ap (λ (l : List ℕ). l ++ often) five ∙ append_assoc old (codes "chain " ++ number ++ codes " of " ++ total ++ codes ", by " ++ many) often) c.put_often.ensures
