use Rattle.std.specs.Prelude.{◌==◌}
use Rattle.inc_check.proofs.PlaceLemmas.{none_in_front}
use Rattle.inc_check.proofs.placed_marks.placed_mark.Goals as goal

pub in_front-requires-clause-ended : goal.in_front-requires-clause-ended
in_front-requires-clause-ended c = none_in_front (λ b. b == 10) c.in-Some.at c.args.line.now c.requires
