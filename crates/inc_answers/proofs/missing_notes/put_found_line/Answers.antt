use Rattle.std.proofs.Common.{[], ◌∷◌, ◌++◌, codes}
use Rattle.inc_answers.specs.MissingNotes.{note_start, shown}
use Rattle.inc_answers.proofs.NoteLemmas.{joined}
use Rattle.inc_answers.proofs.missing_notes.put_found_line.Goals as goal

pub returns : goal.returns
returns c =
    joined c.args.text.now.items (((((note_start) ++ codes "      found as ") ++ shown c.args.path.now) ++ codes ": -I ") ++ shown c.args.dir.now) ((10 ∷ [])) (c.put_shown-2.new.text.items) (c.push.new.self.items)
    (joined c.args.text.now.items ((((note_start) ++ codes "      found as ") ++ shown c.args.path.now) ++ codes ": -I ") (shown c.args.dir.now) (c.extend_from_slice-3.new.self.items) (c.put_shown-2.new.text.items)
    (joined c.args.text.now.items (((note_start) ++ codes "      found as ") ++ shown c.args.path.now) (codes ": -I ") (c.put_shown.new.text.items) (c.extend_from_slice-3.new.self.items)
    (joined c.args.text.now.items ((note_start) ++ codes "      found as ") (shown c.args.path.now) (c.extend_from_slice-2.new.self.items) (c.put_shown.new.text.items)
    (joined c.args.text.now.items (note_start) (codes "      found as ") (c.extend_from_slice.new.self.items) (c.extend_from_slice-2.new.self.items)
    (c.in_ok-extend_from_slice.ensures.items)
    c.in_ok-extend_from_slice-2.ensures.items)
    c.in_ok-put_shown.ensures)
    c.in_ok-extend_from_slice-3.ensures.items)
    c.in_ok-put_shown-2.ensures)
    c.in_ok-push.ensures.items
