use Rattle.std.proofs.Common.{List, subst, sym}
use Rattle.std.specs.Prelude.{IsTrue}
use Rattle.inc_cut.specs.Flows.{is_open_by, is_path_by}
use Rattle.inc_cut.specs.declared.flows.Step.{Step}
use Rattle.tests_calls.proofs.looking.LookingPathSearch.search.Goals as goal

pub returns-then-branch : goal.returns-then-branch
returns-then-branch c =
    subst (λ (steps : List Step). IsTrue (is_path_by c.args.graph.now (is_open_by c.args.fixed.now c.args.flow.now) steps)) (sym c.in_ok-steps.ensures.items)
    (c.in_ok-finds.ensures c.if-branch.true)
