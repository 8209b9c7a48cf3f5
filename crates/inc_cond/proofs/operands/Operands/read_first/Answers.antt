use Rattle.std.proofs.Common.{refl}
use Rattle.inc_cond.specs.SymbolViews.{seen_taken}
use Rattle.inc_cond.proofs.OperandSteps.{first-refused, first-taken}
use Rattle.inc_cond.proofs.operands.Operands.read_first.Goals as goal

pub returns-in_ok-take-in-Ok-clause-same : goal.returns-in_ok-take-in-Ok-clause-same
returns-in_ok-take-in-Ok-clause-same c is ready =
    first-taken c.args.self.now (record c.args.self.now { walk = c.take.new.self; waiting = c.drop_first.new.waiting }) is (seen_taken (c.in-Ok.symbol, c.in-Ok.taken))
    c.requires.good c.requires.good c.requires.no_question c.requires.no_question refl refl ready c.requires.no_header c.requires.some c.drop_first.ensures c.in_ok-take-in-Ok.ensures (rw c.deref.ensures.value at c.in-Ok.ensures.symbol c.args.self.now.headers.now) (rw c.deref.ensures.value at c.in-Ok.ensures.within)

pub returns-in-Err-clause-same : goal.returns-in-Err-clause-same
returns-in-Err-clause-same c is ready =
    first-refused c.args.self.now is c.in-Err.fault c.requires.good c.requires.no_question ready c.requires.no_header c.requires.some
    (rw c.deref.ensures.value at c.in-Err.ensures.fault c.args.self.now.headers.now)
