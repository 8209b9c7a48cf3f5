use Rattle.std.proofs.Common.{arith}
use Rattle.inc_answers.proofs.NearNameLemmas.{least_far}
use Rattle.inc_answers.proofs.near_names.least.Goals as goal

pub loop-place-init : goal.loop-place-init
loop-place-init c = record { same = least_far c.args.name.now c.args.project.now.paths; low = omega arith }
