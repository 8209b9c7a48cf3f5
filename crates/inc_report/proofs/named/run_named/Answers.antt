use Rattle.std.proofs.Common.{refl}
use Rattle.inc_lookup.proofs.GivenLemmas.{given_all}
use Rattle.inc_report.proofs.NamedLemmas.{named_headline}
use Rattle.inc_answers.proofs.WritingLemmas.{finished, finished_fault, prints_all}
use Rattle.inc_report.proofs.named.run_named.Goals as goal

pub returns-clause-written : goal.returns-clause-written
returns-clause-written g c =
    rw (c.into_sources.ensures, ← c.in-Ok-new.ensures.sources)
    (finished _ _ _ _ _ _ _ _ _ c.requires c.in-Ok.ensures.output c.answer-ended.ensures.sent c.finish-result.ensures)

pub returns-clause-headline : goal.returns-clause-headline
returns-clause-headline g c =
    rw (c.into_sources.ensures, ← c.in-Ok-new.ensures.sources)
    (finished _ _ _ _ _ _ _ _ _ c.requires c.in-Ok.ensures.output
    (prints_all _ _ _ _ c.answer-ended.result (λ p is. given_all is (λ given listing laid holds. named_headline c.args.form c.args.question.now c.args.details.now p given listing holds)) c.answer-ended.ensures.sent)
    c.finish-result.ensures)

pub returns-clause-certificate : goal.returns-clause-certificate
returns-clause-certificate g c = finished_fault _ _ _ _ _ _ c.finish-result.ensures refl c.answer-ended.ensures.certificate
