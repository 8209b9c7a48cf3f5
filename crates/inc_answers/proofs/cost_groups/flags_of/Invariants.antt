use Rattle.std.proofs.Common.{◌≡◌, length, take}
use Rattle.inc_graph.specs.FileSets.{AreFlags}
use Rattle.inc_answers.proofs.cost_groups.flags_of.Given as goal

-- the files so far have their flags
abbrev pub invariant-loop-file : goal.invariant-loop-file
invariant-loop-file l = AreFlags (take l.file-index l.files) l.flags.items × (length l.flags.items ≡ l.count)
