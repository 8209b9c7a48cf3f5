use Rattle.inc_check.proofs.FrontLemmas.{blank_here, blank_beyond}
use Rattle.inc_check.proofs.lines.blank_before.Goals as goal

pub returns-then-blank-end : goal.returns-then-blank-end
returns-then-blank-end c = blank_here c.args.text.now c.args.end c.word_end-blank.result c.requires c.word_end-blank.ensures c.if-blank-end.true

pub returns-else-blank-end : goal.returns-else-blank-end
returns-else-blank-end c = blank_beyond c.args.text.now c.args.end c.word_end-blank.result c.requires c.word_end-blank.ensures c.if-blank-end.false
