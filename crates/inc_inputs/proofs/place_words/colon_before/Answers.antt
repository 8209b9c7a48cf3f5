use Rattle.inc_check.specs.Reading.{colon_from}
use Rattle.inc_inputs.specs.PlaceWords.{is_end}
use Rattle.inc_check.proofs.PlaceLemmas.{colon_low, place_found, place_none, place_passed}
use Rattle.inc_inputs.proofs.place_words.colon_before.Goals as goal

pub returns-then-is_end-clause-is : goal.returns-then-is_end-clause-is
returns-then-is_end-clause-is c =
    place_found (is_end c.args.end) (colon_from (is_end c.args.end) 0 c.args.word.now) c.args.word.now c.loop-colon.at c.loop-colon.invariant.left c.in-Some.colon c.in-Some.ensures
    c.is_end.result c.is_end.ensures c.if-is_end.true

pub loop-colon-preserved : goal.loop-colon-preserved
loop-colon-preserved c =
    let ends = is_end c.args.end in
    let place = colon_from ends 0 c.args.word.now in
    record {
      within = colon_low ends place c.args.word.now c.loop-colon.at c.loop-colon.invariant.left c.in-Some.colon c.in-Some.ensures;
      left = place_passed ends place c.args.word.now c.loop-colon.at c.loop-colon.invariant.left c.in-Some.colon c.in-Some.ensures c.is_end.result c.is_end.ensures c.if-is_end.false;
    }

pub returns-clause-is : goal.returns-clause-is
returns-clause-is c =
    place_none (is_end c.args.end) (colon_from (is_end c.args.end) 0 c.args.word.now) c.args.word.now c.loop-colon.at c.loop-colon.invariant.left c.in_default.ensures
