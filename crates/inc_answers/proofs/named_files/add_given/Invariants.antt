use Rattle.std.proofs.Common.{◌≡◌, ◌++◌, map, take}
use Rattle.inc_answers.specs.NamedFiles.{given_paths, source_of}
use Rattle.inc_answers.proofs.named_files.add_given.Given as goal

-- those so far
abbrev pub invariant-loop-path : goal.invariant-loop-path
invariant-loop-path l = l.sources.items ≡ l.initial.sources.items ++ map (source_of l.file) (given_paths l.count (take l.path-index l.paths))
