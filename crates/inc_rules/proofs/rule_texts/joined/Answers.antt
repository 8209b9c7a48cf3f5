use Rattle.std.proofs.Common.{◌<◌, Bor, List, [], ℕ, arith, get_or, length, map}
use Rattle.std.proofs.lemmas.List.{get_or_default}
use Rattle.inc_rules.specs.RuleTexts.{joined}
use Rattle.inc_rules.proofs.WordTexts.{joined_step}
use Rattle.inc_rules.proofs.rule_texts.joined.Goals as goal

pub loop-place-preserved : goal.loop-place-preserved
loop-place-preserved c =
    let none : Bor (List ℕ) = record { ref_ptr = (0, 0); now = [] } in
    let word : Bor (List ℕ) = get_or c.args.words.now c.loop-place.place none in
    let low : c.loop-place.place < length c.args.words.now = omega (arith, c.loop-place-test.true) in
    joined_step (λ w. w.now) (joined (map (λ w. w.now) c.args.words.now)) c.loop-place.text.items c.put_word.new.text.items c.args.words.now
    c.loop-place.place word low (get_or_default c.args.words.now c.loop-place.place none word low) c.in_ok-put_word.ensures c.loop-place.invariant
