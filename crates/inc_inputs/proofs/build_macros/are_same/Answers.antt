use Rattle.std.proofs.Common.{sym}
use Rattle.inc_inputs.specs.Views.{macro_of}
use Rattle.inc_inputs.proofs.MacroLemmas.{other_lengths}
use Rattle.inc_inputs.proofs.build_macros.are_same.Goals as goal

pub returns-then-first-second : goal.returns-then-first-second
returns-then-first-second c = sym (other_lengths macro_of c.args.first.now c.args.second.now c.if-first-second.true)
