use Rattle.std.proofs.Common.{refl}
use Rattle.inc_expand.specs.Sinks.{seen_ref}
use Rattle.inc_cond.specs.SymbolViews.{seen_taken}
use Rattle.inc_cond.proofs.OperandSteps.{read-alone, read-refused}
use Rattle.inc_cond.proofs.operands.Operands.read_alone.Goals as goal

pub returns-in_ok-take-in-Ok : goal.returns-in_ok-take-in-Ok
returns-in_ok-take-in-Ok c is =
    read-alone c.args.self.now (record c.args.self.now { walk = c.take.new.self }) (seen_ref c.args.token) is (seen_taken (c.in-Ok.symbol, c.in-Ok.field-0-1))
    c.requires.good c.requires.good c.requires.no_question c.requires.no_question c.requires.none c.requires.none refl refl c.requires.no_header c.requires.alone (c.in-Ok.ensures.symbol c.args.self.now.headers.now) c.in-Ok.ensures.within c.in_ok-take-in-Ok.ensures

pub returns-in-Err : goal.returns-in-Err
returns-in-Err c = λ is.
    read-refused c.args.self.now (seen_ref c.args.token) is c.in-Err.fault c.requires.good c.requires.no_question c.requires.none c.requires.no_header c.requires.alone
    (c.in-Err.ensures.fault c.args.self.now.headers.now)
