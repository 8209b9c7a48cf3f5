use Rattle.std.proofs.Common.{arith, not}
use Rattle.inc_rules.specs.Judging.{includes_first}
use Rattle.inc_rules.proofs.JudgeLemmas.{filter_end, filter_step}
use Rattle.inc_rules.proofs.direct_rules.without_first.Goals as goal

pub loop-file-preserved : goal.loop-file-preserved
loop-file-preserved c layout r are =
    filter_step (λ f. not (includes_first layout c.args.graph.now r f)) _ c.args.left.now c.loop-file.files.items _ c.loop-file.file-index c.file-item.result c.loop-file-test.true c.file-item.is
    (c.in_ok-push_without_first.ensures layout r are) (c.loop-file.invariant layout r are)

pub returns : goal.returns
returns c layout r are =
    filter_end (λ f. not (includes_first layout c.args.graph.now r f)) _ c.args.left.now c.loop-file.files.items c.loop-file.file-index (omega (arith, c.loop-file-test.false)) (c.loop-file.invariant layout r are)
