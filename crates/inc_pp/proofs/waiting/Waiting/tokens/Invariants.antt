use Rattle.std.proofs.Common.{◌≡◌, ◌++◌, drop, length, map}
use Rattle.inc_expand.specs.HeldTokens.{seen_ref}
use Rattle.inc_pp.specs.Waiting.{tokens_in, AreEnds}
use Rattle.inc_pp.proofs.waiting.Waiting.tokens.Given as goal

abbrev pub invariant-loop-part : goal.invariant-loop-part
invariant-loop-part l =
    (map seen_ref l.all.items ++ tokens_in l.self-inside.bytes.items l.begin (drop l.part-index l.part-items) ≡ tokens_in l.self-inside.bytes.items 0 l.part-items)
    × AreEnds l.begin (length l.self-inside.bytes.items) (drop l.part-index l.part-items)
