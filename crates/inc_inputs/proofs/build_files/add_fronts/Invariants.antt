use Rattle.inc_inputs.proofs.FrontLemmas.{Keeps}
use Rattle.inc_inputs.proofs.build_files.add_fronts.Given as goal

abbrev pub invariant-loop-at : goal.invariant-loop-at
invariant-loop-at l = Keeps l.path l.initial.fronts.keys l.at l.fronts.keys

abbrev pub decreases-loop-at : goal.decreases-loop-at
decreases-loop-at l = l.at
