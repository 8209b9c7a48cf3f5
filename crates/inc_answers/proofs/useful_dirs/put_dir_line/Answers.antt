use Rattle.std.proofs.Common.{[], ◌∷◌, ◌++◌, codes}
use Rattle.std.specs.Prelude.{decimal}
use Rattle.inc_answers.specs.MissingNotes.{note_start, shown}
use Rattle.inc_answers.proofs.NoteLemmas.{joined}
use Rattle.inc_answers.proofs.useful_dirs.put_dir_line.Goals as goal

pub returns : goal.returns
returns c =
    let old = c.args.text.now.items in
    let named = note_start ++ codes "-I " ++ shown c.args.dir.now in
    let counted = named ++ codes " would find " ++ decimal c.args.count in
    joined old (counted ++ codes " of the missing headers") (10 ∷ []) c.extend_from_slice-4.new.self.items c.push.new.self.items
    (joined old counted (codes " of the missing headers") c.put_number.new.text.items c.extend_from_slice-4.new.self.items
    (joined old (named ++ codes " would find ") (decimal c.args.count) c.extend_from_slice-3.new.self.items c.put_number.new.text.items
    (joined old named (codes " would find ") c.put_shown.new.text.items c.extend_from_slice-3.new.self.items
    (joined old (note_start ++ codes "-I ") (shown c.args.dir.now) c.extend_from_slice-2.new.self.items c.put_shown.new.text.items
    (joined old note_start (codes "-I ") c.extend_from_slice.new.self.items c.extend_from_slice-2.new.self.items
    c.in_ok-extend_from_slice.ensures.items
    c.in_ok-extend_from_slice-2.ensures.items)
    c.in_ok-put_shown.ensures)
    c.in_ok-extend_from_slice-3.ensures.items)
    c.in_ok-put_number.ensures)
    c.in_ok-extend_from_slice-4.ensures.items)
    c.in_ok-push.ensures.items
