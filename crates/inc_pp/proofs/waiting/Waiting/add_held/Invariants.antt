use Rattle.std.proofs.Common.{◌≡◌, ◌++◌, drop, map}
use Rattle.inc_expand.specs.HeldTokens.{seen_held}
use Rattle.inc_pp.proofs.waiting.Waiting.add_held.Given as goal

abbrev pub invariant-loop-token : goal.invariant-loop-token
invariant-loop-token l = l.self ++ map seen_held (drop l.token-index l.tokens) ≡ l.fn.self ++ map seen_held l.tokens
