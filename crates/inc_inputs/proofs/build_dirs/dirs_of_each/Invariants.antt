use Rattle.std.proofs.Common.{◌≡◌, map, take}
use Rattle.inc_args.specs.Views.{seen_files}
use Rattle.inc_inputs.specs.BuildProjects.{dirs_of_each}
use Rattle.inc_inputs.specs.Views.{dirs_in, ground_in}
use Rattle.inc_inputs.proofs.build_dirs.dirs_of_each.Given as goal

-- those of the numbers so far
abbrev pub invariant-loop-number : goal.invariant-loop-number
invariant-loop-number l = map dirs_in l.all.items ≡ dirs_of_each (ground_in l.ground) (seen_files l.files) (take l.number-index l.numbers)
