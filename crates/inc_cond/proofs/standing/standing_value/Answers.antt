use Rattle.std.proofs.Common.{Ok, ap, sym, ◌∙◌}
use Rattle.inc_macro.specs.Tables.{table_of}
use Rattle.inc_cond.proofs.StandingTokens.{none-left, standing-fault, standing-value}
use Rattle.inc_cond.proofs.standing.standing_value.Goals as goal

pub returns-in-Ok-clause-value : goal.returns-in-Ok-clause-value
returns-in-Ok-clause-value c = λ stand place meter.
    standing-value (table_of c.args.macros.now) place c.args.headers.now meter c.args.tokens.now stand c.in-Ok.value
    (none-left c.loop-token.operands c.loop-token.tokens _ _ c.in_default.ensures.none c.loop-token.invariant c.in-Ok.ensures.value)
    ∙ ap (λ v. Ok (v, meter)) (sym c.seen.ensures)

pub returns-clause-fault : goal.returns-clause-fault
returns-clause-fault c = λ other stand place meter.
    standing-fault (table_of c.args.macros.now) place c.args.headers.now meter c.args.tokens.now stand c.in-Err.fault
    (none-left c.loop-token.operands c.loop-token.tokens _ _ c.in_default.ensures.none c.loop-token.invariant (c.in-Err.ensures.fault other))
