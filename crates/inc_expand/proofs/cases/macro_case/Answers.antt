use Rattle.std.proofs.Common.{◌∙◌, sym}
use Rattle.inc_expand.proofs.CaseSteps.{call-case, no-call-case}
use Rattle.inc_expand.proofs.cases.macro_case.Goals as goal

pub returns-then-is_open_next-clause-case : goal.returns-then-is_open_next-clause-case
returns-then-is_open_next-clause-case c s t =
    call-case s c.args.macro_.now _ t c.args.list.now (sym c.in-Some.ensures) (sym c.is_open_next.ensures ∙ c.if-is_open_next.true)

pub returns-else-is_open_next-clause-case : goal.returns-else-is_open_next-clause-case
returns-else-is_open_next-clause-case c s t =
    no-call-case s c.args.macro_.now _ t c.args.list.now (sym c.in-Some.ensures) (sym c.is_open_next.ensures ∙ c.if-is_open_next.false)
