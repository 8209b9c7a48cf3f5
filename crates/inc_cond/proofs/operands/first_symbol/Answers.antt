use Rattle.std.proofs.Common.{Err}
use Rattle.std.proofs.lemmas.List.{take_rest}
use Rattle.std.proofs.lemmas.Result.{IfErr-weaker}
use Rattle.inc_macro.specs.Tables.{table_of}
use Rattle.inc_cond.proofs.QuestionSteps.{first-is}
use Rattle.inc_cond.proofs.operands.first_symbol.Goals as goal

pub returns-in-len1-up-clause-fault : goal.returns-in-len1-up-clause-fault
returns-in-len1-up-clause-fault c = λ search.
    IfErr-weaker c.symbol_of.result _ _ (λ fault is.
    first-is search (table_of c.args.macros.now) c.args.waiting.now _ c.first-item.result c.bytes.result.now c.requires.some c.first-item.is c.bytes.ensures
    (take_rest c.args.waiting.now 1) (Err fault) is)
    (c.symbol_of.ensures.fault search)
