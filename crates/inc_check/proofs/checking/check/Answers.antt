use Rattle.inc_check.proofs.checking.check.Goals as goal

pub verdict_of-requires-clause-of : goal.verdict_of-requires-clause-of
verdict_of-requires-clause-of c = (c.args.project.now, c.args.certificate.now, c.in_ok-sums.ensures)
