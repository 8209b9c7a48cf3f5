use Rattle.std.proofs.Common.{◌≡◌, take}
use Rattle.inc_report.specs.MakeRules.{each_once}
use Rattle.inc_report.proofs.make_rules.each_once.Given as goal

-- the files so far, and the same to find them
abbrev pub invariant-loop-file : goal.invariant-loop-file
invariant-loop-file l = record {
  files : l.files.items ≡ each_once (take l.file-index l.reads);
  known : l.known.keys ≡ l.files.items;
}
