use Rattle.inc_report.proofs.KeptOut.{cut_keeps_headers_out, answered_cut_keeps_headers_out}
use Rattle.inc_report.proofs.laws.cuts_keep_the_headers_out.Goals as goal

pub returns-clause-files : goal.returns-clause-files
returns-clause-files c = cut_keeps_headers_out

pub returns-clause-answered : goal.returns-clause-answered
returns-clause-answered c = answered_cut_keeps_headers_out
