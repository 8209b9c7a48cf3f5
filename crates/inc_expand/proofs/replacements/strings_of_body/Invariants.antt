use Rattle.inc_expand.specs.Sets.{Sets, size}
use Rattle.inc_expand.specs.Elements.{elements_of}
use Rattle.inc_expand.specs.Carriers.{AreKnown}
use Rattle.inc_expand.proofs.SubstitutionSteps.{AreMade}
use Rattle.inc_expand.proofs.replacements.strings_of_body.Given as goal

abbrev pub invariant-loop-i : goal.invariant-loop-i
invariant-loop-i l = AreMade l.args (elements_of l.definition) l.i l.made.items × ((s : Sets) → AreKnown (size s) l.made.items)
