use Rattle.std.proofs.Common.{sym}
use Rattle.inc_cond.proofs.CharacterSteps.{next_code}
use Rattle.inc_cond.proofs.characters.take_code.Goals as goal

pub returns-clause-taken : goal.returns-clause-taken
returns-clause-taken c = λ count.
    next_code count c.args.value c.args.first c.in_ok-value.value c.args.rest.now c.after.result.now c.in_ok-code.code (sym c.in_ok-code.ensures.code) (sym c.in_ok-value.ensures)
    c.after.ensures
