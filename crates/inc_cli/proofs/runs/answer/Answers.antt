use Rattle.inc_cli.proofs.runs.answer.Goals as goal

pub returns-clause-answered : goal.returns-clause-answered
returns-clause-answered g c not = (c.begin.new.self, c.begin.ensures, c.answer_from.ensures.answered not)

pub returns-clause-promised : goal.returns-clause-promised
returns-clause-promised g c not = (c.begin.new.self, c.begin.ensures, c.answer_from.ensures.promised not)
