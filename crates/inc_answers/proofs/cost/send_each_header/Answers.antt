use Rattle.std.proofs.lemmas.List.{take_all}
use Rattle.inc_answers.specs.CostViews.{seen_amounts}
use Rattle.inc_answers.specs.CostText.{header_line}
use Rattle.inc_answers.proofs.SendingLemmas.{sends_then}
use Rattle.inc_answers.proofs.CostLines.{flat_map-one}
use Rattle.inc_answers.proofs.cost.send_each_header.Goals as goal

pub loop-header-preserved : goal.loop-header-preserved
loop-header-preserved g c =
    rw (flat_map-one (header_line c.args.project.now (seen_amounts c.args.brought.now)) c.args.headers.now c.loop-header.header-index 0 c.loop-header-test.true)
    (sends_then _ _ _ _ _ c.loop-header.invariant c.send_header.ensures)

pub returns : goal.returns
returns g c = rw (take_all c.loop-header.header-index c.args.headers.now c.loop-header-test.false) at c.loop-header.invariant
