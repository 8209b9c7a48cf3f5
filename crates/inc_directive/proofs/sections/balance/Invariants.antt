use Rattle.inc_directive.specs.Below.{outlook_of}
use Rattle.inc_directive.proofs.PartPlans.{IsWalked}
use Rattle.inc_directive.proofs.sections.balance.Given as goal

abbrev pub invariant-loop-i : goal.invariant-loop-i
invariant-loop-i l = IsWalked l.lines l.i (outlook_of l.below) l.leads.items
