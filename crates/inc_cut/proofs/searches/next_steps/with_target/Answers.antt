use Rattle.inc_cut.proofs.NextStepLemmas.{next_is}
use Rattle.inc_cut.proofs.searches.next_steps.with_target.Goals as goal

pub returns-clause-real : goal.returns-clause-real
returns-clause-real c = next_is c.args.graph.now c.args.file c.step_target-to.result c.args.step.now c.requires.sound c.requires.within c.requires.from c.step_target-to.ensures
