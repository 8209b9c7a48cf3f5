use Rattle.std.proofs.Common.{arith}
use Rattle.std.proofs.lemmas.Result.{err_from_is_err_and}
use Rattle.inc_expand.specs.ElementValues.{places_in}
use Rattle.inc_expand.proofs.SubstitutionSteps.{made-more, made-fault, made-all}
use Rattle.inc_expand.proofs.replacements.strings.Goals as goal

pub returns-in_err-push_place_string-clause-fault : goal.returns-in_err-push_place_string-clause-fault
returns-in_err-push_place_string-clause-fault c s =
    let p = err_from_is_err_and c.from_residual.result c.from_residual.ensures.1 in
    rw (p.1, p.2) (λ other. made-fault c.args.args.now (places_in c.args.places) c.loop-i.i _ c.loop-i.made.items _ s c.at.ensures c.loop-i.invariant.0
    (λ rest. c.in_err-push_place_string.ensures.fault s rest other))

pub loop-i-preserved : goal.loop-i-preserved
loop-i-preserved c = (
  made-more c.args.args.now (places_in c.args.places) c.loop-i.i _ c.loop-i.made.items _ c.at.ensures c.loop-i.invariant.0 c.in_ok-push_place_string.ensures.rest,
  λ s. c.in_ok-push_place_string.ensures.known s (c.loop-i.invariant.1 s),
)

pub returns-clause-strings : goal.returns-clause-strings
returns-clause-strings c =
    made-all c.args.args.now (places_in c.args.places) c.loop-i.i c.loop-i.made.items
    (omega (arith, c.loop-i-test.false, c.len-i-end.ensures)) c.loop-i.invariant.0
