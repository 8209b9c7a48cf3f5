use Rattle.std.proofs.Common.{arith}
use Rattle.inc_cut.proofs.WideLemmas.{wide_path}
use Rattle.inc_cut.proofs.searches.scaled_dinic.PhaseSearchPathSearch.search.Goals as goal

pub returns-in-Some-2 : goal.returns-in-Some-2
returns-in-Some-2 c =
    let path = rw c.in-Some-2.is at c.in_ok-path.ensures in
    wide_path c.args.graph.now c.args.fixed.now c.args.flow.now c.loop-least.least c.in-Some-2.path.items (omega (arith, c.loop-least-test.true)) path
