use Rattle.inc_token.proofs.BlankedBytes.{last_seen}
use Rattle.inc_token.proofs.blanking.last_byte.Goals as goal

pub returns-in-Some : goal.returns-in-Some
returns-in-Some c =
    last_seen c.args.tokens.now c.in-Some.token.now c.in-Some.ensures.item.3.0 c.in-Some.ensures.item.1
