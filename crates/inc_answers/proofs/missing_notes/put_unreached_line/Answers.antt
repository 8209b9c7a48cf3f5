use Rattle.std.proofs.Common.{[], ◌∷◌, ◌++◌, codes}
use Rattle.std.specs.Prelude.{decimal}
use Rattle.inc_answers.specs.MissingNotes.{note_start, unreached_words}
use Rattle.inc_answers.proofs.NoteLemmas.{joined, joined_as}
use Rattle.inc_answers.proofs.missing_notes.put_unreached_line.Goals as goal

pub returns : goal.returns
returns c =
    joined c.args.text.now.items ((((note_start) ++ codes "not reached, but ") ++ decimal c.args.count) ++ unreached_words c.args.count) ((10 ∷ [])) (c.extend_from_slice-3.new.self.items) (c.push.new.self.items)
    (joined_as c.args.text.now.items (((note_start) ++ codes "not reached, but ") ++ decimal c.args.count) (unreached_words c.args.count) (c.unreached_words.result.now) (c.put_number.new.text.items) (c.extend_from_slice-3.new.self.items)
    (joined c.args.text.now.items ((note_start) ++ codes "not reached, but ") (decimal c.args.count) (c.extend_from_slice-2.new.self.items) (c.put_number.new.text.items)
    (joined c.args.text.now.items (note_start) (codes "not reached, but ") (c.extend_from_slice.new.self.items) (c.extend_from_slice-2.new.self.items)
    (c.in_ok-extend_from_slice.ensures.items)
    c.in_ok-extend_from_slice-2.ensures.items)
    c.in_ok-put_number.ensures)
    c.in_ok-extend_from_slice-3.ensures.items c.unreached_words.ensures)
    c.in_ok-push.ensures.items
