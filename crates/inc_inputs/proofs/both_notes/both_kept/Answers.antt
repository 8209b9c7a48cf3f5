use Rattle.std.proofs.Common.{length, map, subst, sym}
use Rattle.inc_graph.specs.FileSets.{AreFlags}
use Rattle.inc_inputs.specs.BothNotes.{both_line}
use Rattle.inc_inputs.specs.Ends.{named_files}
use Rattle.inc_inputs.specs.Views.{notes_in}
use Rattle.inc_inputs.proofs.BothLemmas.{both_members}
use Rattle.inc_inputs.proofs.both_notes.both_kept.Goals as goal

pub returns : goal.returns
returns c =
    let layout = c.args.project.now in
    let sources = named_files layout (map (λ p. p.now) c.args.sources.now) in
    let headers = named_files layout (map (λ p. p.now) c.args.headers.now) in
    both_members (both_line layout) (length layout.paths) sources headers c.deref.result.now c.deref-2.result.now (notes_in c.new-notes.result) (notes_in c.add_both.new.notes)
    (subst (λ bs. AreFlags sources bs) (sym c.deref.ensures.value) c.in_ok-from.ensures) (subst (λ bs. AreFlags headers bs) (sym c.deref-2.ensures.value) c.in_ok-to.ensures)
    c.new-notes.ensures c.in_ok-add_both.ensures
