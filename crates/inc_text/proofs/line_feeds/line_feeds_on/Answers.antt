use Rattle.inc_text.proofs.LineFeedLemmas.{count_on}
use Rattle.inc_text.proofs.line_feeds.line_feeds_on.Goals as goal

pub returns : goal.returns
returns c = count_on c.args.bytes.now c.args.from c.args.to c.args.before _ c.requires.order c.requires.known c.line_feeds_between.ensures
