use Rattle.std.proofs.Common.{map, refl}
use Rattle.inc_lookup.proofs.GivenLemmas.{given_all}
use Rattle.inc_report.proofs.RulesKept.{rules_headline}
use Rattle.inc_answers.proofs.WritingLemmas.{finished, finished_fault, prints_all}
use Rattle.inc_rules.specs.Views.{seen_rule}
use Rattle.inc_report.proofs.rules.run_rules.Goals as goal

pub returns-clause-written : goal.returns-clause-written
returns-clause-written g c = finished _ _ _ _ _ _ _ _ _ c.requires c.in-Ok.ensures.output c.tell-ended.ensures.sent c.finish.ensures

pub returns-clause-headline : goal.returns-clause-headline
returns-clause-headline g c =
    finished _ _ _ _ _ _ _ _ _ c.requires c.in-Ok.ensures.output
    (prints_all _ _ _ _ c.tell-ended.result (λ p is. given_all is (λ given listing laid holds. rules_headline (map seen_rule c.args.rules.now) c.args.question.now p given listing holds)) c.tell-ended.ensures.sent)
    c.finish.ensures

pub returns-clause-unread : goal.returns-clause-unread
returns-clause-unread g c = finished_fault _ _ _ _ _ _ c.finish.ensures tt c.tell-ended.ensures.unread

pub returns-clause-certificate : goal.returns-clause-certificate
returns-clause-certificate g c = finished_fault _ _ _ _ _ _ c.finish.ensures refl c.tell-ended.ensures.certificate
