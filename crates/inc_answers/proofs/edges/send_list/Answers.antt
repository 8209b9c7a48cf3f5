use Rattle.inc_answers.proofs.SendingLemmas.{sends_then}
use Rattle.inc_answers.proofs.WhyLemmas.{length-marks_of}
use Rattle.inc_answers.proofs.edges.send_list.Goals as goal

pub returns-clause-sent : goal.returns-clause-sent
returns-clause-sent g c =
    let long = length-marks_of c.args.project.now c.args.graph.now c.args.edges.now c.requires.edges in
    rw long (sends_then _ _ _ _ _ c.send_count_line.ensures c.send_edges.ensures.sent)
