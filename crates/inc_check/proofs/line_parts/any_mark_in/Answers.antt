use Rattle.std.proofs.Common.{◌+◌, ◌≤◌, ◌∙◌, length, arith}
use Rattle.std.proofs.lemmas.List.{take_rest}
use Rattle.inc_check.proofs.FrontLemmas.{line_ends, blank_low, rest_open, mark_by_parts}
use Rattle.inc_check.proofs.line_parts.any_mark_in.Goals as goal

pub in_front-requires-clause-ended : goal.in_front-requires-clause-ended
in_front-requires-clause-ended c =
    let text = c.args.text.now in
    let within : c.args.end ≤ length text = omega (arith, (line_ends text c.args.end c.requires).1) in
    let open' = rest_open text (c.in-Some.blank + 1) c.args.end (blank_low text c.args.end c.in-Some.blank within c.in-Some.ensures) c.requires in
    rw take_rest open'

pub returns : goal.returns
returns c =
    let text = c.args.text.now in
    let within : c.args.end ≤ length text = omega (arith, (line_ends text c.args.end c.requires).1) in
    let made = rw take_rest at c.in_front.ensures in
    made ∙ mark_by_parts text c.args.end c.in-Some.blank c.in-Some-number_in.number within c.in-Some.ensures c.in-Some-number_in.ensures
