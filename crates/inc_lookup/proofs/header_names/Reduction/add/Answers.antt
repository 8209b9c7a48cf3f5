use Rattle.inc_lookup.proofs.ReducedLemmas.{reduced_more, reduced_climbs}
use Rattle.inc_lookup.proofs.header_names.Reduction.add.Goals as goal

pub returns-then-not-branch-clause-goes_on : goal.returns-then-not-branch-clause-goes_on
returns-then-not-branch-clause-goes_on c = λ cs left so_far.
    rw (c.in_ok-push_component.ensures.stays c.if-not-branch.true)
    (reduced_climbs cs left c.args.self.now.climbs c.args.self.now.rest.items _ c.args.component.now so_far (rw c.if-not-branch.true at c.in_ok-push_component.ensures.shows))

pub returns-else-not-branch-clause-goes_on : goal.returns-else-not-branch-clause-goes_on
returns-else-not-branch-clause-goes_on c = λ cs left so_far.
    reduced_more cs left c.args.self.now.climbs c.args.self.now.rest.items _ c.args.component.now so_far (rw c.if-not-branch.false at c.in_ok-push_component.ensures.shows)
