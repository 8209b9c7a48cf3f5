use Rattle.inc_directive.specs.Below.{outlook_of}
use Rattle.inc_directive.proofs.PartPlans.{IsWalked}
use Rattle.std.proofs.Common.{List, Option}
use Rattle.inc_directive.specs.declared.sections.Lead.{Lead}
use Rattle.inc_directive.proofs.sections.check.Given as goal

abbrev pub invariant-loop-i : goal.invariant-loop-i
invariant-loop-i l = (leads : List (Option Lead)) × IsWalked l.lines l.i (outlook_of l.below) leads
