use Rattle.std.proofs.Common.{map}
use Rattle.inc_inputs.proofs.OnceLemmas.{fold_next}
use Rattle.inc_inputs.proofs.ends.add_all_new.Goals as goal

pub loop-path-preserved : goal.loop-path-preserved
loop-path-preserved c = record {
  added = fold_next (λ p. p.now) c.args.project.now c.args.more.now c.loop-path.path-index _ c.loop-path-test.true (map (λ p. p.now) c.args.paths.now.items)
      (map (λ p. p.now) c.loop-path.paths.items) _ c.loop-path.invariant.added c.in_ok-add_new.ensures.added;
  flags = c.in_ok-add_new.ensures.flags;
  long = c.in_ok-add_new.ensures.long;
}
