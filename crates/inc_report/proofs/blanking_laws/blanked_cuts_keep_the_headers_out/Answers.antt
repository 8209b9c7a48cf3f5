use Rattle.inc_report.proofs.BlankedCuts.{blanked_cut_keeps_headers_out}
use Rattle.inc_report.proofs.blanking_laws.blanked_cuts_keep_the_headers_out.Goals as goal

pub returns : goal.returns
returns c = blanked_cut_keeps_headers_out
