use Rattle.inc_report.proofs.BrokenRules.{all_chains}
use Rattle.inc_answers.proofs.SendingLemmas.{sends_then}
use Rattle.inc_report.proofs.rules.send_chains.Goals as goal

pub returns : goal.returns
returns g c = rw (← all_chains c.args.project.now c.args.graph.now (λ x. x.items) c.args.chains.now) (sends_then _ _ _ _ _ c.send_count_line.ensures c.send_each_chain.ensures)
