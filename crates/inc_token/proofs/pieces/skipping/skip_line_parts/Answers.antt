use Rattle.std.proofs.Common.{◌+◌, ◌∙◌, refl, arith, rules}
use Rattle.inc_token.proofs.UnmatchedQuotes.{unmatched_first, unmatched_moved}
use Rattle.inc_token.proofs.Skipping.{plain_end, plain_until, part_fits, part_over}
use Rattle.inc_token.proofs.pieces.skipping.skip_line_parts.Goals as goal

pub loop-at-init : goal.loop-at-init
loop-at-init c =
    record {
      within = c.requires;
      rest = refl;
      unmatched = unmatched_first c.none-unmatched.result c.args.at c.args.text.now c.none-unmatched.ensures;
    }

pub overflow_add-at : goal.overflow_add-at
overflow_add-at c =
    let fits = part_fits c.args.language c.args.text.now c.loop-at.at c.part_len-len.result c.loop-at-test.true c.part_len-len.ensures.len in
    search (rules, fits)

pub skip_plain-at-requires : goal.skip_plain-at-requires
skip_plain-at-requires c =
    part_fits c.args.language c.args.text.now c.loop-at.at c.part_len-len.result c.loop-at-test.true c.part_len-len.ensures.len

pub loop-at-preserved : goal.loop-at-preserved
loop-at-preserved c =
    let text = c.args.text.now in
    let at = c.loop-at.at in
    let n = c.part_len-len.result in
    let lt = c.loop-at-test.true in
    let end = c.skip_plain-at in
    let fits = part_fits c.args.language text at n lt c.part_len-len.ensures.len in
    record {
      within = plain_end text (at + n) end.result fits end.ensures;
      rest = plain_until c.args.language text (at + n) end.result fits end.ensures
          ∙ part_over c.args.language text at n lt c.if-text-at-ne10.true c.part_len-len.ensures.len (omega arith)
          ∙ c.loop-at.invariant.rest;
      unmatched = unmatched_moved c.part_len-len.new.unmatched at end.result text (omega (arith, end.ensures)) c.part_len-len.ensures.unmatched;
    }
