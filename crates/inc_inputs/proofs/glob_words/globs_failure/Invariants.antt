use Rattle.std.proofs.Common.{◌≡◌, map}
use Rattle.inc_inputs.specs.GlobWords.{globs_report}
use Rattle.inc_inputs.proofs.NameReports.{globs_left}
use Rattle.inc_inputs.proofs.glob_words.globs_failure.Given as goal

-- nothing is to be reported of those before
abbrev pub invariant-loop-word : goal.invariant-loop-word
invariant-loop-word l = globs_left l.option (λ w. w.now) l.words l.word-index ≡ globs_report l.option (map (λ w. w.now) l.words)
