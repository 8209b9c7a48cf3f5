use Rattle.std.proofs.Common.{◌≡◌, ◌++◌, take}
use Rattle.inc_expand.specs.ElementValues.{element_values, place_values}
use Rattle.inc_expand.proofs.optionals.push_places.Given as goal

abbrev pub invariant-loop-i : goal.invariant-loop-i
invariant-loop-i l = place_values l.all.items ≡ place_values l.fn.all.items ++ element_values (take l.i l.places)
