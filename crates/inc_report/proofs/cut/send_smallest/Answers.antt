use Rattle.inc_report.proofs.cut.send_smallest.Goals as goal

pub returns-clause-sent : goal.returns-clause-sent
returns-clause-sent g c = record { text = c.send_answer.ensures; nothing = tt }
