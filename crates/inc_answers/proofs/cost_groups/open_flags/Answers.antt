use Rattle.std.proofs.Common.{◌≡◌, ◌∙◌, Bool, false, length, replicate, ap, rules}
use Rattle.std.proofs.lemmas.List.{length-replicate}
use Rattle.inc_answers.proofs.CostGroupLemmas.{open_none}
use Rattle.inc_answers.proofs.cost_groups.open_flags.Goals as goal

pub loop-blocker-init : goal.loop-blocker-init
loop-blocker-init c =
    let none : c.in_ok-flags.flags.items ≡ replicate (length c.args.among.now) false = c.in_ok-flags.ensures.items_if_clones_equal (search rules) in
    (open_none (length c.args.among.now) c.args.among.now c.in_ok-flags.flags.items none, ap (λ l. length l) none ∙ length-replicate {A = Bool} (length c.args.among.now) false)
