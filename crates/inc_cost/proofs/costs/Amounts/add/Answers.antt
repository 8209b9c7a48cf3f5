use Rattle.inc_cost.proofs.costs.Amounts.add.Goals as goal

pub returns-clause-below : goal.returns-clause-below
returns-clause-below c = λ most below. (λ k. c.add.ensures.most most below.0 k, λ k. c.add-2.ensures.most most below.1 k)
