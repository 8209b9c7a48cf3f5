use Rattle.std.proofs.Common.{◌≡◌, drop, Some}
use Rattle.inc_macro.specs.Macros.{has_lone_hash, operand_names}
use Rattle.inc_macro.specs.Views.{spellings_in}
use Rattle.inc_macro.proofs.define_directives.has_lone_hash.Given as goal

abbrev pub invariant-loop-i : goal.invariant-loop-i
invariant-loop-i l =
    let names = operand_names (Some l.params) in
    has_lone_hash names (spellings_in l.tokens) ≡ has_lone_hash names (drop l.i (spellings_in l.tokens))
