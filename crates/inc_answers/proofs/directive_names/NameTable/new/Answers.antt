use Rattle.inc_answers.proofs.NameOrder.{none_known}
use Rattle.std.proofs.Common.{subst, sym}
use Rattle.inc_answers.specs.NameTables.{AreNames}
use Rattle.inc_answers.proofs.directive_names.NameTable.new.Goals as goal

pub invariant_of-result : goal.invariant_of-result
invariant_of-result c = subst (AreNames c.args.language c.args.kept.now) (sym c.loop.invariant) (none_known c.args.language c.args.kept.now _)
