use Rattle.inc_rules.proofs.BrokenWalks.{include_broken, reach_broken}
use Rattle.inc_rules.proofs.laws.no_rule_is_broken_without.Goals as goal

pub returns-clause-reach : goal.returns-clause-reach
returns-clause-reach c = λ layout g rules edges k r source file walk are. reach_broken layout g rules edges are k r source file walk

pub returns-clause-include : goal.returns-clause-include
returns-clause-include c = λ layout g rules edges k r source edge are. include_broken layout g rules edges are k r source edge
