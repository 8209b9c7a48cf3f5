use Rattle.std.proofs.Common.{◌≡◌, ◌-◌, drop, length}
use Rattle.inc_expand.specs.Arguments.{argument_values}
use Rattle.inc_expand.specs.Elements.{elements_of}
use Rattle.inc_expand.specs.ElementValues.{place_values}
use Rattle.inc_expand.specs.Expansion.{chosen}
use Rattle.inc_expand.specs.Optionals.{after_places}
use Rattle.inc_expand.specs.Sets.{Keeps}
use Rattle.inc_expand.proofs.optionals.chosen.Given as goal

abbrev pub invariant-loop-i : goal.invariant-loop-i
invariant-loop-i l = record {
  keeps : Keeps l.fn.sets l.sets;
  rest : after_places (place_values l.all.items) (chosen (argument_values l.fn.sets l.args) 0 (drop l.i (elements_of l.definition)))
      ≡ chosen (argument_values l.fn.sets l.args) 0 (elements_of l.definition);
}

abbrev pub decreases-loop-i : goal.decreases-loop-i
decreases-loop-i l = length l.definition.body - l.i
