use Rattle.std.proofs.Common.{◌+◌, arith, rules}
use Rattle.inc_token.proofs.PlainRows.{plain_row-at, plain_end, plain_stops, name_fits, name_more}
use Rattle.inc_token.proofs.pieces.identifiers.word_len.Goals as goal

pub loop-end-init : goal.loop-end-init
loop-end-init c =
    let text = c.args.text.now in
    let end = c.skip_parts-end.result in
    let is = c.skip_parts-end.ensures in
    record {
      begun = omega (arith, is);
      within = plain_end text c.args.at end is c.requires;
      rest = plain_row-at c.args.language text c.args.at end is;
      bare = plain_stops text c.args.at end is;
    }

pub overflow_add-end : goal.overflow_add-end
overflow_add-end c =
    let end = c.loop-end.end in
    let lt = c.loop-end-test.true in
    let fits = name_fits c.args.language c.args.text.now end c.nonletter_len-part.result lt (c.loop-end.invariant.bare lt) c.nonletter_len-part.ensures in
    search (rules, fits)

pub skip_parts-end-requires-in-loop-end : goal.skip_parts-end-requires-in-loop-end
skip_parts-end-requires-in-loop-end c =
    let end = c.loop-end.end in
    let lt = c.loop-end-test.true in
    name_fits c.args.language c.args.text.now end c.nonletter_len-part.result lt (c.loop-end.invariant.bare lt) c.nonletter_len-part.ensures

pub loop-end-preserved : goal.loop-end-preserved
loop-end-preserved c =
    let text = c.args.text.now in
    let end = c.loop-end.end in
    let n = c.nonletter_len-part.result in
    let next = c.skip_parts-end-in-loop-end.result in
    let is = c.skip_parts-end-in-loop-end.ensures in
    let lt = c.loop-end-test.true in
    let bare = c.loop-end.invariant.bare lt in
    let fits = name_fits c.args.language text end n lt bare c.nonletter_len-part.ensures in
    let more = name_more c.args.language text end n lt bare c.nonletter_len-part.ensures (omega arith) in
    record {
      begun = omega (arith, is);
      within = plain_end text (end + n) next is fits;
      rest = omega (arith, plain_row-at c.args.language text (end + n) next is, more, c.loop-end.invariant.rest);
      bare = plain_stops text (end + n) next is;
    }
