use Rattle.std.proofs.Common.{◌≡◌, length}
use Rattle.inc_macro.specs.Tables.{table_of}
use Rattle.inc_cond.specs.Standing.{all_stand}
use Rattle.inc_cond.proofs.standing.all_stand.Given as goal

abbrev pub invariant-loop-token : goal.invariant-loop-token
invariant-loop-token l = all_stand (table_of l.macros) l.tokens ≡ all_stand (table_of l.macros) l.fn.tokens

abbrev pub decreases-loop-token : goal.decreases-loop-token
decreases-loop-token l = length l.tokens
