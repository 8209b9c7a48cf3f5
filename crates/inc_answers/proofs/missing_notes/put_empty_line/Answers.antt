use Rattle.std.proofs.Common.{[], ◌∷◌, ◌++◌}
use Rattle.std.specs.Prelude.{decimal}
use Rattle.inc_answers.specs.MissingNotes.{note_start, empty_words}
use Rattle.inc_answers.proofs.NoteLemmas.{joined, joined_as}
use Rattle.inc_answers.proofs.missing_notes.put_empty_line.Goals as goal

pub returns : goal.returns
returns c =
    joined c.args.text.now.items (((note_start) ++ decimal c.args.count) ++ empty_words c.args.count) ((10 ∷ [])) (c.extend_from_slice-2.new.self.items) (c.push.new.self.items)
    (joined_as c.args.text.now.items ((note_start) ++ decimal c.args.count) (empty_words c.args.count) (c.empty_words.result.now) (c.put_number.new.text.items) (c.extend_from_slice-2.new.self.items)
    (joined c.args.text.now.items (note_start) (decimal c.args.count) (c.extend_from_slice.new.self.items) (c.put_number.new.text.items)
    (c.in_ok-extend_from_slice.ensures.items)
    c.in_ok-put_number.ensures)
    c.in_ok-extend_from_slice-2.ensures.items c.empty_words.ensures)
    c.in_ok-push.ensures.items
