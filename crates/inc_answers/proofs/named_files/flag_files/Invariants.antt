use Rattle.std.proofs.Common.{◌≡◌, filter_map, length, map, take}
use Rattle.inc_graph.specs.FileSets.{AreFlags}
use Rattle.inc_answers.specs.NamedFiles.{file_at}
use Rattle.inc_answers.proofs.NameLemmas.{IsLater}
use Rattle.inc_answers.proofs.named_files.flag_files.Given as goal

-- the files of the paths so far have their flags, and each of these paths names one
abbrev pub invariant-loop-path : goal.invariant-loop-path
invariant-loop-path l = record {
  flags : AreFlags (filter_map (file_at l.project) (take l.path-index (map (λ p. p.now) l.paths))) l.flags.items;
  long : length l.flags.items ≡ length l.project.paths;
  later : IsLater l.project (map (λ p. p.now) l.paths) l.path-index;
  counted : l.place ≡ l.path-index;
}
