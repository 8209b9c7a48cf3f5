use Rattle.std.proofs.Common.{◌≡◌, ◌++◌, map}
use Rattle.std.specs.List.{range_with_len}
use Rattle.inc_answers.specs.NamedFiles.{source_of}
use Rattle.inc_answers.proofs.named_files.add_each.Given as goal

-- those so far
abbrev pub invariant-loop-path : goal.invariant-loop-path
invariant-loop-path l = l.sources.items ≡ l.initial.sources.items ++ map (source_of l.file) (range_with_len 0 l.path)
