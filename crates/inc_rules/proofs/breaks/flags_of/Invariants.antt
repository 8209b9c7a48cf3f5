use Rattle.std.proofs.Common.{◌≡◌, length, take}
use Rattle.inc_graph.specs.FileSets.{AreFlags}
use Rattle.inc_rules.proofs.breaks.flags_of.Given as goal

-- the files so far have flags
abbrev pub invariant-loop-file : goal.invariant-loop-file
invariant-loop-file l = record {
  long : length l.flags.items ≡ l.graph.files;
  flags : AreFlags (take l.file-index l.files) l.flags.items;
}
