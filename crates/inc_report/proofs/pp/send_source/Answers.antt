use Rattle.std.proofs.Common.{refl}
use Rattle.inc_answers.proofs.WritingLemmas.{prints_all, prints_one}
use Rattle.inc_report.proofs.pp.send_source.Goals as goal

pub returns-in-Ok-keep_texts-clause-sent : goal.returns-in-Ok-keep_texts-clause-sent
returns-in-Ok-keep_texts-clause-sent g c = prints_one _ _ _ _ _ (c.in-Ok.ensures.outcome c.args.job.now.wanted _ refl) c.send_outcome-end.ensures.sent

pub returns-in-Err-clause-sent : goal.returns-in-Err-clause-sent
returns-in-Err-clause-sent g c =
    prints_all _ _ _ _ c.refuse_outcome.result (λ p h. c.in-Err.ensures.refused c.args.job.now.wanted p h.0 h.1 h.2) c.refuse_outcome.ensures.sent
