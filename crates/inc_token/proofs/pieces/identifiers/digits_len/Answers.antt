use Rattle.std.proofs.Common.{arith, rules}
use Rattle.inc_token.specs.Spellings.{number_part}
use Rattle.inc_token.proofs.Parts.{number_parts}
use Rattle.inc_token.proofs.Rows.{part_fits, row_more}
use Rattle.inc_token.proofs.pieces.identifiers.digits_len.Goals as goal

pub overflow_add-end : goal.overflow_add-end
overflow_add-end c =
    let fits = part_fits (number_part c.args.language) (number_parts c.args.language) c.args.text.now c.loop-end.end c.number_part_len-part.result (omega arith) c.number_part_len-part.ensures in
    search (rules, fits)

pub loop-end-preserved : goal.loop-end-preserved
loop-end-preserved c =
    let text = c.args.text.now in
    let end = c.loop-end.end in
    let n = c.number_part_len-part.result in
    let fits = part_fits (number_part c.args.language) (number_parts c.args.language) text end n (omega arith) c.number_part_len-part.ensures in
    let more = row_more (number_part c.args.language) (number_parts c.args.language) text end n (omega arith) c.number_part_len-part.ensures (omega arith) in
    record { begun = omega arith; within = omega (arith, fits); rest = omega (arith, more, c.loop-end.invariant.rest) }
