use Rattle.inc_answers.proofs.named_reasons.name_in.Goals as goal

pub returns-in-Include : goal.returns-in-Include
returns-in-Include c = rw c.in-Include.is (c.name_of.ensures c.in-Include.field-0)
