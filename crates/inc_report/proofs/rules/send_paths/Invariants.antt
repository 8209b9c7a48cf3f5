use Rattle.std.proofs.Common.{take}
use Rattle.std.specs.Prelude.{flat_map}
use Rattle.inc_check.specs.Texts.{line_text}
use Rattle.inc_lookup.specs.Projects.{path_at}
use Rattle.inc_answers.specs.Sending.{Sends}
use Rattle.inc_report.proofs.rules.send_paths.Given as goal

-- the paths so far are sent
abbrev pub invariant-loop-file : goal.invariant-loop-file
invariant-loop-file g l = Sends l.initial.out l.out (flat_map (λ f. line_text (path_at l.project f)) (take l.file-index l.files))
