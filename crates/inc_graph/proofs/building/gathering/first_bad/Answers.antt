use Rattle.std.proofs.Common.{arith, sym, ◌∙◌}
use Rattle.inc_graph.proofs.GatherLemmas.{bad_past, bad_found}
use Rattle.inc_graph.proofs.building.gathering.first_bad.Goals as goal

pub returns-in-Bad-clause-first : goal.returns-in-Bad-clause-first
returns-in-Bad-clause-first c =
    let found = bad_found c.args.states.now c.loop-place.place c.state.result.now c.in-Bad.fault (omega arith) c.state.ensures c.in-Bad.is in
    rw (c.file_at.ensures, ← c.loop-place.invariant) (sym found)

pub loop-place-preserved : goal.loop-place-preserved
loop-place-preserved c =
    sym (bad_past c.args.states.now c.loop-place.place c.state.result.now (omega arith) c.state.ensures c.in_default.not-Bad) ∙ c.loop-place.invariant
