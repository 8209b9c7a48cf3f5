use Rattle.inc_answers.proofs.SendingLemmas.{stream_begun}
use Rattle.inc_answers.proofs.WritingLemmas.{sent_written}
use Rattle.inc_report.proofs.pp.write_source.Goals as goal

pub returns-clause-written : goal.returns-clause-written
returns-clause-written g c =
    sent_written _ _ _ _ _ _ _ (rw (stream_begun c.args.out.now c.requires.sound c.requires.empty) at c.in_ok-end.ensures.sent) c.settle.ensures.written
