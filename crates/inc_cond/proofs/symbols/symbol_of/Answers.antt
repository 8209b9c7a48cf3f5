use Rattle.inc_cond.proofs.symbols.symbol_of.Goals as goal

pub returns-in-Number-clause-symbol : goal.returns-in-Number-clause-symbol
returns-in-Number-clause-symbol c = λ search.
    rw (c.in-Number.is, ← c.language.ensures, ← c.number_value.ensures) c.constant.ensures.value

pub returns-in-Number-clause-fault : goal.returns-in-Number-clause-fault
returns-in-Number-clause-fault c = λ search.
    rw (c.in-Number.is, ← c.language.ensures, ← c.number_value.ensures) c.constant.ensures.fault
