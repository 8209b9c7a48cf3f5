use Rattle.std.proofs.Common.{◌≡◌, length, map}
use Rattle.inc_macro.specs.Tables.{table_of}
use Rattle.inc_expand.specs.Sinks.{item_of_source}
use Rattle.inc_cond.specs.Conditions.{value_of_items}
use Rattle.inc_cond.specs.Operands.{outcome}
use Rattle.inc_cond.proofs.standing.standing_value.Given as goal

abbrev pub invariant-loop-token : goal.invariant-loop-token
invariant-loop-token l =
    outcome l.operands (map item_of_source l.tokens) ≡ value_of_items l.headers (table_of l.macros) (map item_of_source l.fn.tokens)

abbrev pub decreases-loop-token : goal.decreases-loop-token
decreases-loop-token l = length l.tokens
