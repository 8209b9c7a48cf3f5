use Rattle.inc_answers.proofs.WritingLemmas.{prints_one}
use Rattle.inc_report.proofs.rules_sarif.tell_graph.Goals as goal

pub returns-clause-sent : goal.returns-clause-sent
returns-clause-sent g c = prints_one _ _ _ _ _ c.in_ok-report.ensures c.send.ensures
