use Rattle.std.proofs.Common.{[], ◌∷◌, ◌++◌, codes}
use Rattle.std.specs.Prelude.{decimal}
use Rattle.inc_answers.proofs.NoteLemmas.{joined}
use Rattle.inc_answers.proofs.near_names.put_more_line.Goals as goal

pub returns : goal.returns
returns c =
    joined c.args.text.now.items ((codes "incut: .. and " ++ decimal c.args.count) ++ codes " more") (10 ∷ []) c.extend_from_slice-2.new.self.items c.push.new.self.items
    (joined c.args.text.now.items (codes "incut: .. and " ++ decimal c.args.count) (codes " more") c.put_number.new.text.items c.extend_from_slice-2.new.self.items
    (joined c.args.text.now.items (codes "incut: .. and ") (decimal c.args.count) c.extend_from_slice.new.self.items c.put_number.new.text.items
    c.in_ok-extend_from_slice.ensures.items c.in_ok-put_number.ensures)
    c.in_ok-extend_from_slice-2.ensures.items)
    c.in_ok-push.ensures.items
