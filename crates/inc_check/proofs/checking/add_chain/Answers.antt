use Rattle.std.proofs.Common.{◌≡◌, List, take, subst, ◌∙◌}
use Rattle.std.proofs.lemmas.List.{take_all}
use Rattle.inc_graph.specs.Marks.{Mark}
use Rattle.inc_check.specs.Checking.{IsSumming}
use Rattle.inc_check.proofs.checking.add_chain.Goals as goal

pub returns-clause-summed : goal.returns-clause-summed
returns-clause-summed c chains so_far =
    let all : take c.loop-index.index c.as_slice-marks.result.now ≡ c.args.chain.now.marks = take_all c.loop-index.index c.as_slice-marks.result.now c.loop-index-test.false ∙ c.as_slice-marks.ensures in
    c.end.ensures.summed c.args.project.now chains c.args.chain.now.marks
    (subst (λ (ms : List Mark). IsSumming c.args.project.now c.args.graph.now chains c.args.chain.now.count ms c.loop-index.sums) all (c.loop-index.invariant.1 chains so_far))
