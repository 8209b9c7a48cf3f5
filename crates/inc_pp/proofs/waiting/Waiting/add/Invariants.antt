use Rattle.std.proofs.Common.{◌≡◌, ◌++◌, drop, map}
use Rattle.inc_token.specs.Views.{seen}
use Rattle.inc_expand.specs.Openings.{held_source}
use Rattle.inc_pp.proofs.waiting.Waiting.add.Given as goal

abbrev pub invariant-loop-token : goal.invariant-loop-token
invariant-loop-token l = l.self ++ map held_source (map seen (drop l.token-index l.tokens)) ≡ l.fn.self ++ map held_source (map seen l.tokens)
