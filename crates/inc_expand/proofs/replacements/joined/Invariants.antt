use Rattle.inc_expand.specs.ElementValues.{places_in}
use Rattle.inc_expand.proofs.SubstitutionRuns.{IsJoined}
use Rattle.inc_expand.proofs.replacements.joined.Given as goal

abbrev pub invariant-loop-i : goal.invariant-loop-i
invariant-loop-i l = IsJoined l.fn.rule l.fn.sets l.sets l.args (places_in l.places) l.strings.items l.i l.at l.joiner
