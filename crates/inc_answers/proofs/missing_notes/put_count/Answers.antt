use Rattle.std.proofs.Common.{◌++◌, codes}
use Rattle.std.specs.Prelude.{decimal}
use Rattle.inc_answers.specs.MissingNotes.{note_start, padding}
use Rattle.inc_answers.proofs.NoteLemmas.{joined, joined_as}
use Rattle.inc_answers.proofs.missing_notes.put_count.Goals as goal

pub returns : goal.returns
returns c =
    joined c.args.text.now.items (((note_start) ++ padding c.args.count) ++ decimal c.args.count) (codes "  ") (c.put_number.new.text.items) (c.extend_from_slice-3.new.self.items)
    (joined c.args.text.now.items ((note_start) ++ padding c.args.count) (decimal c.args.count) (c.extend_from_slice-2.new.self.items) (c.put_number.new.text.items)
    (joined_as c.args.text.now.items (note_start) (padding c.args.count) (c.padding.result.now) (c.extend_from_slice.new.self.items) (c.extend_from_slice-2.new.self.items)
    (c.in_ok-extend_from_slice.ensures.items)
    c.in_ok-extend_from_slice-2.ensures.items c.padding.ensures)
    c.in_ok-put_number.ensures)
    c.in_ok-extend_from_slice-3.ensures.items
