use Rattle.std.proofs.Common.{map, sym, subst}
use Rattle.inc_token.specs.Views.{seen}
use Rattle.inc_expand.specs.Sinks.{Taken, item_of_source}
use Rattle.inc_pp.specs.OutTokens.{takes_item}
use Rattle.inc_pp.proofs.Prints.{line-taken}
use Rattle.inc_pp.proofs.output.OutputSink.take_source.Goals as goal

pub returns : goal.returns
returns c =
    subst (Taken takes_item c.args.first c.args.self.now (map item_of_source (map seen c.args.tokens.now)))
    (sym c.in_ok-put_line.ensures) (line-taken c.args.first c.args.self.now (map item_of_source (map seen c.args.tokens.now)))
