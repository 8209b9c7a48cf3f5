use Rattle.inc_check.specs.Reading.{begins_number, place_from}
use Rattle.inc_check.proofs.PlaceLemmas.{colon_low, place_found, place_none, place_passed}
use Rattle.inc_check.proofs.placed_marks.place_in.Goals as goal

pub returns-then-begins_number-clause-is : goal.returns-then-begins_number-clause-is
returns-then-begins_number-clause-is c =
    place_found begins_number (place_from 0 c.args.line.now) c.args.line.now c.loop-colon.at c.loop-colon.invariant.left c.in-Some.colon c.in-Some.ensures c.begins_number.result c.begins_number.ensures c.if-begins_number.true

pub loop-colon-preserved : goal.loop-colon-preserved
loop-colon-preserved c = record {
  within = colon_low begins_number (place_from 0 c.args.line.now) c.args.line.now c.loop-colon.at c.loop-colon.invariant.left c.in-Some.colon c.in-Some.ensures;
  left = place_passed begins_number (place_from 0 c.args.line.now) c.args.line.now c.loop-colon.at c.loop-colon.invariant.left c.in-Some.colon c.in-Some.ensures c.begins_number.result c.begins_number.ensures c.if-begins_number.false;
}

pub returns-clause-is : goal.returns-clause-is
returns-clause-is c = place_none begins_number (place_from 0 c.args.line.now) c.args.line.now c.loop-colon.at c.loop-colon.invariant.left c.in_default.ensures
