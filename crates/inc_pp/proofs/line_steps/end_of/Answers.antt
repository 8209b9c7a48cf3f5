use Rattle.inc_pp.proofs.Choosing.{end-none, end-onward, end-leads}
use Rattle.inc_pp.proofs.line_steps.end_of.Goals as goal

pub unreachable-requires : goal.unreachable-requires
unreachable-requires c = end-none c.args.lines.now c.args.plan.now c.requires.planned c.args.part c.requires.within c.requires.branch c.in-None.ensures

pub returns-clause-leads : goal.returns-clause-leads
returns-clause-leads c = end-leads c.args.lines.now c.args.plan.now c.requires.planned c.args.part c.requires.within c.requires.branch c.in-Some.end c.in-Some.ensures

pub returns-clause-onward : goal.returns-clause-onward
returns-clause-onward c = end-onward c.args.lines.now c.args.plan.now c.requires.planned c.args.part c.requires.within c.requires.branch c.in-Some.end c.in-Some.ensures
