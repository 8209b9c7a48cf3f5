use Rattle.inc_expand.proofs.SlotSteps.{source-part}
use Rattle.inc_expand.proofs.arguments.Inside.list.Goals as goal

pub returns-in-Source : goal.returns-in-Source
returns-in-Source c = rw (c.in-Source.is, c.of_source.ensures.list, c.front_of-part.ensures, c.behind_of.ensures)
    (source-part c.in-Source.tokens.now c.args.begin c.args.len)
