use Rattle.std.proofs.Common.{◌≡◌, ◌-◌, ◌≤◌, length, drop, map}
use Rattle.inc_token.specs.Views.{seen}
use Rattle.inc_macro.specs.NameLists.{names_in, names_from}
use Rattle.inc_macro.proofs.parameters.parameters_in.Given as goal

abbrev pub invariant-loop-at : goal.invariant-loop-at
invariant-loop-at l = record {
  within : l.at ≤ length l.tokens;
  answer : names_in l.language (map seen l.tokens) ≡ names_from l.language l.list.names (drop l.at (map seen l.tokens));
}

abbrev pub decreases-loop-at : goal.decreases-loop-at
decreases-loop-at l = length l.tokens - l.at
