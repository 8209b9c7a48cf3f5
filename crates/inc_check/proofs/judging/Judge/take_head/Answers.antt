use Rattle.inc_check.proofs.JudgeLemmas.{kept_of}
use Rattle.inc_check.proofs.judging.Judge.take_head.Goals as goal

pub returns-in-Start-clause-of : goal.returns-in-Start-clause-of
returns-in-Start-clause-of c = kept_of c.args.graph.now c.args.self.now c.take_cut.new.self c.take_cut.ensures.kept c.requires.of

pub returns-in-Cut-clause-of : goal.returns-in-Cut-clause-of
returns-in-Cut-clause-of c = kept_of c.args.graph.now c.args.self.now c.take_chains.new.self c.take_chains.ensures.kept c.requires.of
