use Rattle.std.proofs.Common.{◌∙◌, rules}
use Rattle.inc_inputs.proofs.ChoiceLemmas.{once_more}
use Rattle.inc_inputs.proofs.build_choices.each_once.Goals as goal

pub loop-at-preserved : goal.loop-at-preserved
loop-at-preserved c =
    let known = c.loop-at.invariant.known in
    record {
      low = search rules;
      known = c.in_ok-add_use.ensures.known known;
      rest =
          once_more c.args.uses.now c.loop-at.at _ c.loop-at.once.items c.add_use.new.once.items
          (search rules) (c.in_ok-add_use.ensures.once known)
          ∙ c.loop-at.invariant.rest;
    }
