use Rattle.inc_inputs.proofs.EndLemmas.{flags_next}
use Rattle.inc_inputs.proofs.ends.flag_files.Goals as goal

pub loop-path-preserved : goal.loop-path-preserved
loop-path-preserved c = record {
  flags = flags_next (λ p. p.now) c.args.project.now c.args.paths.now c.loop-path.path-index _ c.loop-path-test.true c.flag_file.new.flags.items
      (c.in_ok-flag_file.ensures.flags _ c.loop-path.invariant.flags);
  long = c.in_ok-flag_file.ensures.long;
}
