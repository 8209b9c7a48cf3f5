use Rattle.std.proofs.Common.{◌++◌, ap, ◌∙◌, arith, append_assoc, length, refl}
use Rattle.inc_expand.specs.Expansion.{spelled_token}
use Rattle.inc_expand.specs.Carriers.{carrier}
use Rattle.inc_expand.proofs.StringSteps.{spelled-length}
use Rattle.inc_expand.proofs.strings.push_token.Goals as goal

pub returns-then-bytes-gt-LONGEST-clause-fault : goal.returns-then-bytes-gt-LONGEST-clause-fault
returns-then-bytes-gt-LONGEST-clause-fault c s other =
    let l = spelled-length (carrier s c.args.token.now) in (refl, omega (arith, l, c.if-bytes-gt-LONGEST.true, ap length c.bytes.ensures))

pub returns-clause-text : goal.returns-clause-text
returns-clause-text c s = c.in_ok-push_spelled.ensures s ∙ ap (λ t. t ++ spelled_token (carrier s c.args.token.now)) c.in_ok-push_space.ensures ∙ append_assoc c.args.text.now.items _ _
