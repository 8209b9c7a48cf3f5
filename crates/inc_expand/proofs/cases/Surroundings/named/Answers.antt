use Rattle.inc_expand.specs.Carriers.{carrier}
use Rattle.inc_expand.proofs.cases.Surroundings.named.Goals as goal

pub returns-in-Some-get-clause-name : goal.returns-in-Some-get-clause-name
returns-in-Some-get-clause-name c s = c.macro_case.ensures.name (carrier s c.args.token.now)
