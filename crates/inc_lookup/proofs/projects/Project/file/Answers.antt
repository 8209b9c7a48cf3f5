use Rattle.inc_lookup.proofs.OnePlace.{one_place}
use Rattle.std.proofs.Common.{◌∙◌}
use Rattle.inc_lookup.proofs.projects.Project.file.Goals as goal

pub returns-in_err-index-clause-only : goal.returns-in_err-index-clause-only
returns-in_err-index-clause-only c =
    rw (c.from_residual.ensures, ← c.self.view_is)
    (λ k within is. c.in_err-index.ensures ∙ one_place c.self.inside.paths k c.args.path.now c.self.invariant.once within is)

pub returns-clause-only : goal.returns-clause-only
returns-clause-only c =
    rw (← c.self.view_is)
    (λ k within is. c.in_ok-index.ensures ∙ one_place c.self.inside.paths k c.args.path.now c.self.invariant.once within is)
