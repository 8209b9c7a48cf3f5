use Rattle.std.proofs.Common.{◌≡◌, take}
use Rattle.std.specs.List.{concat}
use Rattle.inc_report.specs.BaselineText.{baseline_lines}
use Rattle.inc_answers.specs.DirectiveNames.{kept_kind}
use Rattle.inc_report.proofs.baseline.lines_of.Given as goal

-- the lines so far, and the same to find them
abbrev pub invariant-loop-directive : goal.invariant-loop-directive
invariant-loop-directive l = record {
  names : l.names ≡ record { kept = l.subject.files.now; language = l.subject.language };
  known : l.known.keys ≡ baseline_lines (kept_kind l.subject.language l.subject.files.now) l.subject.project.now (take l.directive-index l.directives);
  text : l.text.items ≡ concat l.known.keys;
}
