use Rattle.std.proofs.Common.{subst}
use Rattle.inc_expand.specs.Carriers.{carrier}
use Rattle.inc_expand.specs.Cases.{HasNameIn}
use Rattle.inc_expand.proofs.cases.Surroundings.case_of.Goals as goal

pub returns-in-Some-clause-name : goal.returns-in-Some-clause-name
returns-in-Some-clause-name c s = subst (HasNameIn (carrier s c.args.token.now)) c.in-Some.is (c.in_ok-found.ensures.name s)
