use Rattle.std.proofs.Common.{◌≡◌, length, map, take}
use Rattle.inc_graph.specs.FileSets.{AreFlags}
use Rattle.inc_inputs.specs.Ends.{named_files}
use Rattle.inc_inputs.proofs.ends.flag_files.Given as goal

-- the files of the paths so far have their flags
abbrev pub invariant-loop-path : goal.invariant-loop-path
invariant-loop-path l = record {
  flags : AreFlags (named_files l.project (take l.path-index (map (λ p. p.now) l.paths))) l.flags.items;
  long : length l.flags.items ≡ length l.project.paths;
}
