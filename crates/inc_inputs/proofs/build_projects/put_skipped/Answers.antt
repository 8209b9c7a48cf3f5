use Rattle.std.proofs.Common.{◌∙◌, ◌++◌, ℕ, List, ap, map}
use Rattle.inc_inputs.specs.BuildNotes.{whole}
use Rattle.inc_inputs.specs.BuildReports.{skipped_line, some_lines}
use Rattle.inc_inputs.proofs.NoteLemmas.{whole_some}
use Rattle.inc_inputs.proofs.build_projects.put_skipped.Goals as goal

pub returns : goal.returns
returns c =
    c.in_ok-put.ensures
    ∙ ap (λ (t : List ℕ). c.args.notes.now.items ++ t)
    (ap whole c.in_ok-own.ensures ∙ whole_some (map (skipped_line c.args.ground.now.name.now) c.in_ok-skipped.skipped.entries)
    ∙ ap (λ (es : List (List ℕ × ℕ)). some_lines (map (skipped_line c.args.ground.now.name.now) es)) c.in_ok-skipped.ensures)
