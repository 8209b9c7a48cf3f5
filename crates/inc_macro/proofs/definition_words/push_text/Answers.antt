use Rattle.std.proofs.Common.{◌≡◌, ◌+◌, ◌∙◌, ◌++◌, ap, set, rules, List, ℕ, codes, None, position, ◌==◌, length}
use Rattle.std.proofs.lemmas.List.{append_assoc}
use Rattle.inc_macro.proofs.WordTexts.{word_text-behind, word_text-none}
use Rattle.inc_macro.proofs.definition_words.push_text.Goals as goal

pub returns-in-Some : goal.returns-in-Some
returns-in-Some c =
    let copied : c.extend_from_slice.new.self.items ≡ c.args.text.now.items ++ c.args.word.now = c.in_ok-extend_from_slice.ensures.items in
    let begin : c.len-begin.result ≡ length c.args.text.now.items = search rules in
    ap (λ bs. set bs (c.len-begin.result + c.in-Some.at) 32) copied ∙ word_text-behind c.args.text.now.items c.args.word.now c.len-begin.result c.in-Some.at begin c.in-Some.ensures

pub returns : goal.returns
returns c =
    let none : None ≡ position (λ b. b == 61) c.args.word.now = search rules in
    c.in_ok-extend_from_slice-2.ensures.items ∙ ap (λ (bs : List ℕ). bs ++ codes " 1") c.in_ok-extend_from_slice.ensures.items
    ∙ append_assoc c.args.text.now.items c.args.word.now (codes " 1")
    ∙ ap (λ (bs : List ℕ). c.args.text.now.items ++ bs) (word_text-none c.args.word.now none)
