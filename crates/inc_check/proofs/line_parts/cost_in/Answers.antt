use Rattle.std.proofs.Common.{◌+◌, ◌≤◌, Some, length, arith}
use Rattle.std.proofs.lemmas.List.{take_rest}
use Rattle.inc_check.proofs.FrontLemmas.{line_ends, blank_low, rest_ends, cost_by_parts}
use Rattle.inc_check.proofs.line_parts.cost_in.Goals as goal

pub lent_mark_in-mark-requires : goal.lent_mark_in-mark-requires
lent_mark_in-mark-requires c =
    let text = c.args.text.now in
    let within : c.args.end ≤ length text = omega (arith, (line_ends text c.args.end c.requires).1) in
    let rest = rest_ends text (c.in-Some.amount.digits + 1) c.args.end (blank_low text c.args.end c.in-Some.amount.digits within c.in-Some.ensures.0) c.requires in
    rw take_rest rest

pub returns : goal.returns
returns c =
    let text = c.args.text.now in
    let within : c.args.end ≤ length text = omega (arith, (line_ends text c.args.end c.requires).1) in
    let mark = rw take_rest at c.lent_mark_in-mark.ensures in
    cost_by_parts text c.args.end c.in-Some.amount.digits (Some c.in-Some.amount.value) c.lent_mark_in-mark.result c.cost_with.result within c.in-Some.ensures.0 c.in-Some.ensures.1 mark c.cost_with.ensures
