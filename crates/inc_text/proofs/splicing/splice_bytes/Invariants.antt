use Rattle.std.proofs.Common.{◌-◌, length}
use Rattle.inc_text.specs.Origins.{IsSpliced}
use Rattle.inc_text.proofs.splicing.splice_bytes.Given as goal

abbrev pub invariant-loop-at : goal.invariant-loop-at
invariant-loop-at l = IsSpliced l.fn.language l.fn.source.items l.splicer.origins.items l.splicer.splices.items l.splicer.bytes.items l.splicer.len l.at

abbrev pub decreases-loop-at : goal.decreases-loop-at
decreases-loop-at l = length l.splicer.bytes.items - l.at
