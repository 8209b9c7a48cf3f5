use Rattle.inc_directive.specs.Parts.{lines_of_parts}
use Rattle.inc_pp.proofs.HeldLines.{kinds_are, planned}
use Rattle.inc_pp.proofs.held_files.HeldFile.new.Goals as goal

pub guard_name-requires : goal.guard_name-requires
guard_name-requires c = record {
  planned = planned c.sections_close.ensures c.in_ok-lines.lines c.in_ok-plan.plan c.in_ok-plan.ensures.plan;
}

pub invariant_of-result : goal.invariant_of-result
invariant_of-result c = record {
  planned = planned c.sections_close.ensures c.in_ok-lines.lines c.in_ok-plan.plan c.in_ok-plan.ensures.plan;
  guard = c.in_ok-guard.ensures;
}

pub returns-clause-kinds : goal.returns-clause-kinds
returns-clause-kinds c = kinds_are c.args.language _ (lines_of_parts c.in_ok-lines.lines) c.in_ok-lines.ensures.lines.2
