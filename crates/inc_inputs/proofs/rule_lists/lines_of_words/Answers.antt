use Rattle.std.proofs.Common.{Bor, List, [], ℕ, get_or, map}
use Rattle.std.proofs.lemmas.List.{get_or_default}
use Rattle.inc_inputs.specs.RuleLists.{lines_of_words}
use Rattle.inc_inputs.proofs.RuleLines.{lines_end, lines_step}
use Rattle.inc_inputs.proofs.rule_lists.lines_of_words.Goals as goal

pub loop-word-preserved : goal.loop-word-preserved
loop-word-preserved c =
    let none : Bor (List ℕ) = record { ref_ptr = (0, 0); now = [] } in
    let word : Bor (List ℕ) = get_or c.args.words.now c.loop-word.word-index none in
    lines_step (λ w. w.now) (lines_of_words (map (λ w. w.now) c.args.words.now)) c.loop-word.text.items c.args.words.now c.loop-word.word-index
    c.push_line.new.text.items word c.loop-word-test.true (get_or_default c.args.words.now c.loop-word.word-index none word c.loop-word-test.true)
    c.in_ok-push_line.ensures c.loop-word.invariant

pub returns : goal.returns
returns c =
    lines_end (λ w. w.now) (lines_of_words (map (λ w. w.now) c.args.words.now)) c.loop-word.text.items c.args.words.now c.loop-word.word-index
    c.loop-word-test.false c.loop-word.invariant
