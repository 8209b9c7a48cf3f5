use Rattle.std.proofs.Common.{◌<◌, ◌∙◌, ℕ, [], List, get_or, length, rules}
use Rattle.std.proofs.lemmas.Option.{slice_get-get_or}
use Rattle.inc_inputs.specs.BuildReports.{skipped_line}
use Rattle.inc_inputs.specs.Views.{notes_in}
use Rattle.inc_inputs.proofs.NoteLemmas.{line_more}
use Rattle.inc_inputs.proofs.build_entries.skipped_notes.Goals as goal

pub loop-at-preserved : goal.loop-at-preserved
loop-at-preserved c =
    let entries = c.args.counts.now.entries in
    let at = c.loop-at.at in
    let none : List ℕ × ℕ = ([], 0) in
    let low : at < length entries = search rules in
    line_more (skipped_line c.args.name.now) entries at none (notes_in c.loop-at.notes) (notes_in c.add_counted.new.notes) low
    (c.in_ok-add_counted.ensures (get_or entries at none) (slice_get-get_or entries at none low))
    ∙ c.loop-at.invariant
