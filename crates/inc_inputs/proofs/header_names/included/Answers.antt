use Rattle.inc_inputs.proofs.HeaderLemmas.{included_nowhere}
use Rattle.inc_inputs.proofs.header_names.included.Goals as goal

pub returns-in-None-clause-found : goal.returns-in-None-clause-found
returns-in-None-clause-found c = included_nowhere c.args.project.now c.args.name.now c.in-None.ensures
