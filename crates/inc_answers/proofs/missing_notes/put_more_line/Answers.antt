use Rattle.std.proofs.Common.{[], ◌∷◌, ◌++◌, codes}
use Rattle.std.specs.Prelude.{decimal}
use Rattle.inc_answers.specs.MissingNotes.{note_start}
use Rattle.inc_answers.proofs.NoteLemmas.{joined}
use Rattle.inc_answers.proofs.missing_notes.put_more_line.Goals as goal

pub returns : goal.returns
returns c =
    joined c.args.text.now.items ((((note_start) ++ codes ".. and ") ++ decimal c.args.count) ++ codes " more") ((10 ∷ [])) (c.extend_from_slice-3.new.self.items) (c.push.new.self.items)
    (joined c.args.text.now.items (((note_start) ++ codes ".. and ") ++ decimal c.args.count) (codes " more") (c.put_number.new.text.items) (c.extend_from_slice-3.new.self.items)
    (joined c.args.text.now.items ((note_start) ++ codes ".. and ") (decimal c.args.count) (c.extend_from_slice-2.new.self.items) (c.put_number.new.text.items)
    (joined c.args.text.now.items (note_start) (codes ".. and ") (c.extend_from_slice.new.self.items) (c.extend_from_slice-2.new.self.items)
    (c.in_ok-extend_from_slice.ensures.items)
    c.in_ok-extend_from_slice-2.ensures.items)
    c.in_ok-put_number.ensures)
    c.in_ok-extend_from_slice-3.ensures.items)
    c.in_ok-push.ensures.items
