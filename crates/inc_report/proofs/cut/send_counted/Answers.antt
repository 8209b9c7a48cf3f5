use Rattle.inc_check.specs.Certificates.{chain_marks}
use Rattle.inc_answers.specs.Fitting.{counted_as}
use Rattle.inc_answers.proofs.FitLemmas.{chain_fit}
use Rattle.inc_answers.proofs.SendingLemmas.{sends_then}
use Rattle.inc_answers.proofs.CutLemmas.{counted_text}
use Rattle.inc_report.proofs.cut.send_counted.Goals as goal

pub returns-clause-sent : goal.returns-clause-sent
returns-clause-sent g c =
    rw (counted_text c.args.project.now c.args.graph.now (counted_as c.args.edges.now c.args.count) c.requires.edges)
    (sends_then _ _ _ _ _ (sends_then _ _ _ _ _ (sends_then _ _ _ _ _ (sends_then _ _ _ _ _ c.send.ensures c.send_number.ensures) c.send_times.ensures.sent) c.send-2.ensures) c.send_edges.ensures.sent)

pub returns-clause-fit : goal.returns-clause-fit
returns-clause-fit g c =
    chain_fit (chain_marks c.args.project.now c.args.graph.now (counted_as c.args.edges.now c.args.count)) c.send_edges.ensures.small c.send_times.ensures.few
