use Rattle.std.proofs.Common.{◌≡◌, take}
use Rattle.inc_answers.specs.NamedFiles.{sources_of}
use Rattle.inc_answers.proofs.named_files.sources_of.Given as goal

-- those so far
abbrev pub invariant-loop-file : goal.invariant-loop-file
invariant-loop-file l = l.sources.items ≡ sources_of l.question (take l.file-index l.files)
