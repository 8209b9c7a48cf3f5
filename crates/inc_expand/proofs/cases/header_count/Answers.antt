use Rattle.std.proofs.Common.{◌&&◌, ◌∙◌, ap, ap₂, codes, slice_get, sym}
use Rattle.inc_expand.specs.Cases.{is_spelled_in}
use Rattle.inc_expand.proofs.CaseSteps.{header-left}
use Rattle.inc_expand.proofs.cases.header_count.Goals as goal
use Rattle.inc_expand.proofs.cases.header_count.Goals.{else-is_open_next-via-then-is_open_next+else-is_spelled_at, else-is_open_next-via-else-is_open_next}

pub returns : goal.returns
returns c = λ s. elim c.else-is_open_next.branch [
  | else-is_open_next-via-then-is_open_next+else-is_spelled_at w ↦
      header-left s c.args.list.now
      (ap₂ (λ a b. a && b) (sym c.is_open_next.ensures ∙ w.if-is_open_next.true) (sym w.is_spelled_at.ensures ∙ w.if-is_spelled_at.false))
  | else-is_open_next-via-else-is_open_next w ↦
      header-left s c.args.list.now
      (ap (λ a. a && is_spelled_in (codes "<") (slice_get c.args.list.now 1)) (sym c.is_open_next.ensures ∙ w.if-is_open_next.false))
]
