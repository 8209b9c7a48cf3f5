use Rattle.std.proofs.Common.{arith}
use Rattle.inc_answers.proofs.MissingNameLemmas.{front_more, front_here}
use Rattle.inc_answers.proofs.missing_names.place_of.Goals as goal

pub loop-place-preserved : goal.loop-place-preserved
loop-place-preserved c =
    let items = c.args.names.now in
    record {
      bound = omega (arith, c.loop-place-test.true);
      place = λ ms n same.
          front_more ms items c.loop-place.place n (record { place = 0; count = 0 }) c.loop-place-test.true (omega (arith, same, c.if-names-place.true)) (c.loop-place.invariant.place ms n same);
    }

pub returns-else-names-place-clause-place : goal.returns-else-names-place-clause-place
returns-else-names-place-clause-place c = λ ms n same.
    front_here ms c.args.names.now c.loop-place.place n (record { place = 0; count = 0 }) c.loop-place-test.true (omega (arith, same, c.if-names-place.false)) (c.loop-place.invariant.place ms n same)
