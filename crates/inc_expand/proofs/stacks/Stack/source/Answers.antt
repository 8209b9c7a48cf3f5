use Rattle.std.proofs.Common.{arith}
use Rattle.inc_expand.proofs.SharedSteps.{source-front}
use Rattle.inc_expand.proofs.stacks.Stack.source.Goals as goal

pub returns-in-Source : goal.returns-in-Source
returns-in-Source c n l =
    source-front c.self.inside.tokens.items c.self.inside.below c.in-Source.tokens c.args.self.now (omega (arith, c.len.ensures, c.if-len-gt0.false)) c.in-Source.is c.self.view_is n
