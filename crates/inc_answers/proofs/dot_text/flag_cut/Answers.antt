use Rattle.std.proofs.Common.{[]}
use Rattle.inc_answers.proofs.dot_text.flag_cut.Goals as goal

pub returns-clause-flags : goal.returns-clause-flags
returns-clause-flags c are = c.flag_counted.ensures.flags c.args.cut.now (c.flag_edges.ensures.flags [] are)
