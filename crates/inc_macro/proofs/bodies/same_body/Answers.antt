use Rattle.std.proofs.Common.{sym, arith}
use Rattle.inc_macro.proofs.SameBodies.{same_body-len}
use Rattle.inc_macro.proofs.bodies.same_body.Goals as goal

pub returns-then-len : goal.returns-then-len
returns-then-len c = sym (same_body-len c.args.old.now.tokens c.args.new.now.tokens (λ is. omega (arith, c.len.ensures.tokens, c.len-2.ensures.tokens, c.if-len.true)))
