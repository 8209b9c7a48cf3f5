use Rattle.std.proofs.Common.{◌≡◌, ◌≤◌, false, drop}
use Rattle.inc_macro.specs.Macros.{is_closed}
use Rattle.inc_macro.specs.Views.{spellings_in}
use Rattle.inc_macro.proofs.define_directives.is_closed.Given as goal

abbrev pub invariant-loop-i : goal.invariant-loop-i
invariant-loop-i l = record {
  rest : is_closed l.deep l.pastes (drop l.i (spellings_in l.tokens)) ≡ is_closed 0 false (drop l.from (spellings_in l.tokens));
  few : l.deep ≤ l.i;
}
