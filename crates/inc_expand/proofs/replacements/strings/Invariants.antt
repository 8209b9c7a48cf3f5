use Rattle.inc_expand.specs.Sets.{Sets, size}
use Rattle.inc_expand.specs.ElementValues.{places_in}
use Rattle.inc_expand.specs.Carriers.{AreKnown}
use Rattle.inc_expand.proofs.SubstitutionSteps.{AreMade}
use Rattle.inc_expand.proofs.replacements.strings.Given as goal

abbrev pub invariant-loop-i : goal.invariant-loop-i
invariant-loop-i l = AreMade l.args (places_in l.places) l.i l.made.items × ((s : Sets) → AreKnown (size s) l.made.items)
