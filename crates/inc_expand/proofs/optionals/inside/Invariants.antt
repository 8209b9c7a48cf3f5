use Rattle.std.proofs.Common.{◌≡◌, ◌≤◌, ◌++◌, drop}
use Rattle.inc_expand.specs.Elements.{elements_of}
use Rattle.inc_expand.specs.ElementValues.{element_values}
use Rattle.inc_expand.specs.Expansion.{inside}
use Rattle.inc_expand.proofs.optionals.inside.Given as goal

abbrev pub invariant-loop-i : goal.invariant-loop-i
invariant-loop-i l = record {
  rest : element_values l.all.items ++ inside l.deep (drop l.i (elements_of l.definition)) ≡ inside 0 (drop l.from (elements_of l.definition));
  few : l.deep ≤ l.i;
}
