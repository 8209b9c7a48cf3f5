use Rattle.inc_rules.proofs.BrokenWalks.{one_breaks}
use Rattle.inc_rules.proofs.laws.each_breaks_a_rule.Goals as goal

pub returns : goal.returns
returns c = λ layout g rules edges edge are. one_breaks layout g rules edges are edge
