use Rattle.inc_check.proofs.AcceptedCuts.{cut_is_accepted}
use Rattle.inc_check.proofs.laws.cuts_are_accepted.Goals as goal

pub returns : goal.returns
returns c = λ layout g fixed cost set chains once sound files shown. cut_is_accepted layout g once sound files fixed cost set chains shown
