use Rattle.std.proofs.Common.{rules}
use Rattle.inc_answers.proofs.NearNameLemmas.{guess_added}
use Rattle.inc_answers.proofs.near_names.put_guesses.Goals as goal

pub returns : goal.returns
returns c =
    guess_added (λ p. p.now) c.args.guesses.now _ _ c.args.text.now.items c.extend_from_slice.new.self.items c.put_shown.new.text.items c.put_others.new.text.items
    c.extend_from_slice-2.new.self.items (search rules) (search rules) c.in_ok-extend_from_slice.ensures.items c.in_ok-put_shown.ensures c.in_ok-put_others.ensures
    c.in_ok-extend_from_slice-2.ensures.items
