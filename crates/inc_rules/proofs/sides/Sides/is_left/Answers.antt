use Rattle.std.proofs.Common.{◌∙◌}
use Rattle.inc_rules.proofs.SideLemmas.{left_is}
use Rattle.inc_rules.proofs.sides.Sides.is_left.Goals as goal

pub returns-clause-left : goal.returns-clause-left
returns-clause-left c = λ r made.
    left_is c.args.path.now r _ _ _ _ (c.self.view_is ∙ made) c.in_ok-fits.ensures.fits c.if-not-branch.false c.in_ok-fits-2.ensures.fits c.if-branch.false c.in_ok-fits_any.ensures.fits
