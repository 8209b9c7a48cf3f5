use Rattle.std.proofs.Common.{ap, ◌∙◌, ◌++◌, map}
use Rattle.inc_macro.specs.Results.{◌>>=◌}
use Rattle.inc_macro.specs.Tables.{table_of}
use Rattle.inc_expand.specs.Items.{seen_item}
use Rattle.inc_cond.specs.Known.{bounded_value}
use Rattle.inc_cond.specs.Symbols.{symbols_from}
use Rattle.inc_cond.specs.Walks.{left_to_read}
use Rattle.inc_cond.proofs.KnownValues.{value_of_read}
use Rattle.inc_cond.proofs.operands.Operands.new.Goals as goal

pub returns : goal.returns
returns c is =
    ap (λ ts. symbols_from c.args.headers.now 0 (table_of c.args.macros.now) (map seen_item ts ++ is) >>= λ ss. bounded_value (left_to_read c.new-2.result ss)) c.new.ensures.items
    ∙ value_of_read c.args.headers.now (table_of c.args.macros.now) is (left_to_read c.new-2.result) c.new-2.ensures
