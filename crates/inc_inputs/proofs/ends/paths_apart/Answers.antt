use Rattle.std.proofs.Common.{map, subst, sym}
use Rattle.inc_graph.specs.FileSets.{AreFlags}
use Rattle.inc_inputs.specs.Ends.{named_files}
use Rattle.inc_inputs.proofs.EndLemmas.{apart_next}
use Rattle.inc_inputs.proofs.ends.paths_apart.Goals as goal

pub loop-path-preserved : goal.loop-path-preserved
loop-path-preserved c =
    let headers = map (λ p. p.now) c.args.others.now in
    let flags = subst (λ bs. AreFlags (named_files c.args.project.now headers) bs) (sym c.deref.ensures.value) c.in_ok-flags.ensures in
    apart_next (λ p. p.now) c.args.project.now c.args.paths.now c.loop-path.path-index _ c.loop-path-test.true headers (map (λ p. p.now) c.loop-path.left.items) _
    c.loop-path.invariant (c.in_ok-add_apart.ensures (named_files c.args.project.now headers) flags)
