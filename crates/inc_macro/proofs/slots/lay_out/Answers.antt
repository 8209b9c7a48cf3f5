use Rattle.inc_macro.proofs.TakenSlots.{kept-grown}
use Rattle.inc_macro.proofs.slots.lay_out.Goals as goal
use Rattle.inc_macro.specs.declared.slots.TheConstants.{SLOTS}

pub returns-clause-kept : goal.returns-clause-kept
returns-clause-kept c other taken = kept-grown c.args.slots.now.items _ c.resize.new.self.items _ SLOTS other c.resize.ensures.items c.requires taken
