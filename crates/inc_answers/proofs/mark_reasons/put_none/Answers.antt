use Rattle.std.proofs.Common.{◌++◌, codes}
use Rattle.inc_answers.specs.MissingNotes.{shown}
use Rattle.inc_answers.proofs.NoteLemmas.{joined}
use Rattle.inc_answers.proofs.mark_reasons.put_none.Goals as goal

pub returns : goal.returns
returns c =
    let old = c.args.text.now.items in
    joined old (codes " (" ++ shown c.args.path.now) (codes " has no include directive)") c.put_shown.new.text.items c.extend_from_slice-2.new.self.items
    (joined old (codes " (") (shown c.args.path.now) c.extend_from_slice.new.self.items c.put_shown.new.text.items
    c.in_ok-extend_from_slice.ensures.items
    c.in_ok-put_shown.ensures)
    c.in_ok-extend_from_slice-2.ensures.items
