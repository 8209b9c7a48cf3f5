use Rattle.std.proofs.Common.{◌≡◌, length, take}
use Rattle.inc_graph.specs.FileSets.{AreFlags}
use Rattle.inc_graph.specs.IncludeGraph.{source_files}
use Rattle.inc_graph.proofs.file_sets.FileSet.of_sources.Given as goal

-- the files of the sources so far, with their flags
abbrev pub invariant-loop-source : goal.invariant-loop-source
invariant-loop-source l = record {
  files : l.files.items ≡ source_files (take l.source-index l.sources);
  flags : AreFlags l.files.items l.flags.items;
  long : length l.flags.items ≡ l.count;
}
