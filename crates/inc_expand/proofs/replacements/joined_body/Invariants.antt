use Rattle.inc_expand.specs.Elements.{elements_of}
use Rattle.inc_expand.proofs.SubstitutionRuns.{IsJoined}
use Rattle.inc_expand.proofs.replacements.joined_body.Given as goal

abbrev pub invariant-loop-i : goal.invariant-loop-i
invariant-loop-i l = IsJoined l.fn.rule l.fn.sets l.sets l.args (elements_of l.definition) l.strings.items l.i l.at l.joiner
