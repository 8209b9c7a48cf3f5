use Rattle.std.proofs.Common.{rules}
use Rattle.inc_answers.proofs.NearNameLemmas.{unnamed_added}
use Rattle.inc_answers.proofs.near_names.put_unnamed.Goals as goal

pub returns : goal.returns
returns c =
    unnamed_added c.args.what.now c.args.word.now c.args.project.now.paths _ c.args.text.now.items c.extend_from_slice.new.self.items c.extend_from_slice-2.new.self.items
    c.extend_from_slice-3.new.self.items c.put_shown.new.text.items c.put_guesses.new.text.items c.push.new.self.items (search rules)
    c.in_ok-extend_from_slice.ensures.items c.in_ok-extend_from_slice-2.ensures.items c.in_ok-extend_from_slice-3.ensures.items c.in_ok-put_shown.ensures
    c.in_ok-put_guesses.ensures c.in_ok-push.ensures.items
