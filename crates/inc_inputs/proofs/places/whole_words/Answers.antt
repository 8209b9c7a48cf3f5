use Rattle.std.proofs.Common.{map}
use Rattle.inc_inputs.proofs.PlaceMarks.{whole_next}
use Rattle.inc_inputs.proofs.places.whole_words.Goals as goal

pub loop-word-preserved : goal.loop-word-preserved
loop-word-preserved c =
    whole_next (λ w. w.now) c.args.words.now c.loop-word.word-index _ c.loop-word-test.true (map (λ w. w.now) c.loop-word.whole.items) _
    c.loop-word.invariant c.in_ok-add_whole.ensures
