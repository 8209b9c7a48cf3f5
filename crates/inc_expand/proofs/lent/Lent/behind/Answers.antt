use Rattle.std.proofs.Common.{sym}
use Rattle.std.proofs.lemmas.List.{drop-map}
use Rattle.inc_expand.specs.Carriers.{carried_of}
use Rattle.inc_expand.proofs.lent.Lent.behind.Goals as goal

pub returns-in-Source : goal.returns-in-Source
returns-in-Source c = rw (c.in-Source.is, c.behind_of.ensures)
    (sym (drop-map carried_of c.args.count c.in-Source.tokens.now))
