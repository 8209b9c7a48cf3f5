use Rattle.std.proofs.Common.{◌≡◌, ◌++◌, drop, map}
use Rattle.inc_token.specs.Views.{seen}
use Rattle.inc_expand.specs.Sinks.{item_of_source}
use Rattle.inc_pp.specs.Tasks.{line_tokens}
use Rattle.inc_pp.proofs.output.Output.put_line.Given as goal

abbrev pub invariant-loop-token : goal.invariant-loop-token
invariant-loop-token l =
    l.self ++ line_tokens l.starts (map item_of_source (map seen (drop l.token-index l.tokens)))
    ≡ l.fn.self ++ line_tokens l.first (map item_of_source (map seen l.tokens))
