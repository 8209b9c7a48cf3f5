use Rattle.std.proofs.Common.{ap, ◌∙◌}
use Rattle.inc_graph.specs.Chains.{target}
use Rattle.inc_cut.proofs.NextStepLemmas.{leads_ahead, leads_back}
use Rattle.inc_cut.proofs.searches.next_steps.step_target.Goals as goal

pub returns-then-step : goal.returns-then-step
returns-then-step c = leads_ahead c.args.graph.now c.args.step c.target.result c.if-step.true (c.target.ensures ∙ ap (target c.args.graph.now) c.index.ensures)

pub returns : goal.returns
returns c = leads_back c.args.graph.now c.args.step c.source_of.result c.if-step.false c.source_of.ensures
