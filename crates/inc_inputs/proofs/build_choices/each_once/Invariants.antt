use Rattle.std.proofs.Common.{◌≡◌, ◌≤◌, ◌-◌, [], drop, length}
use Rattle.inc_inputs.specs.BuildProjects.{each_once, entries_in}
use Rattle.inc_inputs.proofs.build_choices.each_once.Given as goal

-- the entries so far, whose numbers are known, become all with those of the rest
abbrev pub invariant-loop-at : goal.invariant-loop-at
invariant-loop-at l = record {
  low : l.at ≤ length l.uses;
  known : l.known.keys ≡ entries_in l.once.items;
  rest : each_once l.once.items (drop l.at l.uses) ≡ each_once [] l.uses;
}

abbrev pub decreases-loop-at : goal.decreases-loop-at
decreases-loop-at l = length l.uses - l.at
