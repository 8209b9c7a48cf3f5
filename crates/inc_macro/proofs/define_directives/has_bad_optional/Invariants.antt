use Rattle.std.proofs.Common.{◌≡◌, drop}
use Rattle.inc_macro.specs.Macros.{has_bad_optional}
use Rattle.inc_macro.specs.Views.{spellings_in}
use Rattle.inc_macro.proofs.define_directives.has_bad_optional.Given as goal

abbrev pub invariant-loop-i : goal.invariant-loop-i
invariant-loop-i l = has_bad_optional (spellings_in l.tokens) ≡ has_bad_optional (drop l.i (spellings_in l.tokens))
