use Rattle.std.proofs.Common.{◌/◌, ◌*◌, get_or, arith}
use Rattle.inc_text.proofs.LineFeedLemmas.{count_on}
use Rattle.inc_text.proofs.line_feeds.line_feeds_before.Goals as goal

pub returns : goal.returns
returns c =
    let counted = c.requires.counted in
    let block = c.args.at / 512 in
    count_on c.args.bytes.now (block * 512) c.args.at (get_or c.args.counts.now block 0) c.line_feeds_between.result (omega arith)
    (counted.each block (omega (arith, counted.reach, c.requires.within))) c.line_feeds_between.ensures
