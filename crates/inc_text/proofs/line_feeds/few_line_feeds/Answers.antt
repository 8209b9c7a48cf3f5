use Rattle.std.proofs.Common.{◌-◌, arith}
use Rattle.inc_text.proofs.LineFeedLemmas.{count_between}
use Rattle.inc_text.proofs.line_feeds.few_line_feeds.Goals as goal

pub returns-then-bytes-from-ge-LANES : goal.returns-then-bytes-from-ge-LANES
returns-then-bytes-from-ge-LANES c =
    count_between c.args.bytes.now c.args.from (c.args.to - c.args.from) c.line_feeds_of_first.result (omega (arith, c.requires.few)) c.line_feeds_of_first.ensures
