use Rattle.std.proofs.Common.{◌+◌, arith}
use Rattle.std.proofs.lemmas.Result.{err_from_is_err_and}
use Rattle.inc_expand.specs.Lent.{lent_tokens}
use Rattle.inc_expand.proofs.StringSteps.{begun-with, too-long, too-long-with}
use Rattle.inc_expand.proofs.strings.string_text.Goals as goal

pub returns-in_err-push_token-clause-fault : goal.returns-in_err-push_token-clause-fault
returns-in_err-push_token-clause-fault c s =
    let p = err_from_is_err_and c.from_residual-in_err-push_token.result c.from_residual-in_err-push_token.ensures.1 in
    rw (p.1, p.2) (λ other. let f = c.in_err-push_token.ensures.fault s other in
    rw f.0 (too-long-with s (lent_tokens c.args.written) c.loop-i.i c.at-token.result c.loop-i.text.items (c.at-token.ensures c.at-token.result)
    (omega (arith, c.loop-i-test.true, c.len-i-end.ensures.len)) c.loop-i.invariant.0 f.1))

pub returns-then-len-ge-LONGEST-clause-fault : goal.returns-then-len-ge-LONGEST-clause-fault
returns-then-len-ge-LONGEST-clause-fault c s other =
    too-long s (lent_tokens c.args.written) (c.loop-i.i + 1) c.push_token.new.text.items
    (begun-with (lent_tokens c.args.written) c.loop-i.i c.at-token.result c.loop-i.text.items c.push_token.new.text.items (c.at-token.ensures c.at-token.result)
    (omega (arith, c.loop-i-test.true, c.len-i-end.ensures.len)) c.loop-i.invariant.0
    c.shows_space.result c.shows_space.ensures c.in_ok-push_token.ensures.text)
    (omega (arith, c.if-len-ge-LONGEST.true, c.len.ensures, c.push_token.new.text.ok.0))

pub loop-i-preserved : goal.loop-i-preserved
loop-i-preserved c = (
  begun-with (lent_tokens c.args.written) c.loop-i.i c.at-token.result c.loop-i.text.items c.push_token.new.text.items (c.at-token.ensures c.at-token.result)
      (omega (arith, c.loop-i-test.true, c.len-i-end.ensures.len)) c.loop-i.invariant.0
      c.shows_space.result c.shows_space.ensures c.in_ok-push_token.ensures.text,
  omega (arith, c.if-len-ge-LONGEST.false, c.len.ensures, c.push_token.new.text.ok.0),
)
