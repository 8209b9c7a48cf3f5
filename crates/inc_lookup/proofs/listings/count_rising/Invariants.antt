use Rattle.std.proofs.Common.{map, take}
use Rattle.inc_lookup.specs.SimpleNames.{IsKnown}
use Rattle.inc_lookup.proofs.RisingLists.{AreRising}
use Rattle.inc_lookup.proofs.listings.count_rising.Given as goal

-- all so far rise, up to the last one
abbrev pub invariant-loop-index : goal.invariant-loop-index
invariant-loop-index l = record {
  rising : AreRising (map (λ p. p.now) (take l.index l.paths)) l.last.form.now;
  known : IsKnown l.last.form.now l.last.is_simple;
}
