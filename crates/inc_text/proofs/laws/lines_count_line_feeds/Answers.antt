use Rattle.inc_text.proofs.LawLemmas.{text_lines, text_rises}
use Rattle.inc_text.proofs.laws.lines_count_line_feeds.Goals as goal

pub returns-clause-lines : goal.returns-clause-lines
returns-clause-lines c = text_lines

pub returns-clause-rise : goal.returns-clause-rise
returns-clause-rise c = text_rises
