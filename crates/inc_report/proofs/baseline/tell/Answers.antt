use Rattle.std.proofs.Common.{[], ap, length, refl, subst}
use Rattle.inc_text.specs.declared.languages.Language.{Language}
use Rattle.inc_report.specs.BaselineText.{IsShown, IsStrictBaseline}
use Rattle.inc_answers.specs.KeptFiles.{OfKept}
use Rattle.inc_report.specs.NamedText.{kept_sight}
use Rattle.inc_answers.specs.Printed.{Printed, answered}
use Rattle.inc_answers.specs.RuleViews.{seen_list}
use Rattle.inc_answers.specs.Terms.{Question}
use Rattle.inc_answers.specs.Writing.{Prints}
use Rattle.inc_report.proofs.BaselineLemmas.{baseline_given, baseline_refused}
use Rattle.inc_report.proofs.BlankLemmas.{fails_inner}
use Rattle.inc_report.proofs.NamedLemmas.{graph_kept}
use Rattle.inc_answers.proofs.WritingLemmas.{prints_all}
use Rattle.inc_report.proofs.baseline.tell.Goals as goal

pub tell_strictly-requires-clause-kept : goal.tell_strictly-requires-clause-kept
tell_strictly-requires-clause-kept g c =
    graph_kept g.S.Sources.gives c.args.kept.now c.find_graph.new.sources c.args.project.now c.args.question.now c.in-Ok.graph c.in-Ok.ensures.known
    (length c.args.project.now.paths) c.requires refl (c.in-Ok.ensures.graph (answered []))

pub returns-in-Ok-clause-sent : goal.returns-in-Ok-clause-sent
returns-in-Ok-clause-sent g c =
    let q = c.args.question.now in
    let l = seen_list c.args.list in
    prints_all
    (λ (p : Printed). (plain : Printed) × OfKept c.find_graph.new.sources.files c.args.project.now (λ listing.
    IsStrictBaseline c.args.format l q q.language listing c.args.project.now c.in-Ok.graph plain
    × IsShown c.args.format q c.args.project.now (kept_sight q.language listing c.args.project.now c.find_graph.new.sources.files) plain p))
    _ _ _ c.tell_strictly.result
    (λ p is. baseline_given g.S.Sources.gives c.args.kept.now c.find_graph.new.sources c.args.project.now c.args.format l q p is.0 c.in-Ok.graph c.requires is.1 (c.in-Ok.ensures.graph is.0))
    (subst (λ (language : Language). Prints (λ (p : Printed). (plain : Printed) × OfKept c.find_graph.new.sources.files c.args.project.now (λ listing.
    IsStrictBaseline c.args.format l q language listing c.args.project.now c.in-Ok.graph plain
    × IsShown c.args.format q c.args.project.now (kept_sight language listing c.args.project.now c.find_graph.new.sources.files) plain p))
    c.args.out.now c.tell_strictly.new.out c.tell_strictly.result) (ap (λ (x : Question). x.language) c.question.view_is) c.tell_strictly.ensures.sent)

pub returns-in-Err-clause-sent : goal.returns-in-Err-clause-sent
returns-in-Err-clause-sent g c =
    prints_all _ _ _ _ c.refuse_in.result
    (λ p is. baseline_refused g.S.Sources.gives c.args.kept.now c.find_graph.new.sources c.args.project.now c.args.format (seen_list c.args.list) c.args.question.now p is.0 is.2
    (c.in-Err.ensures.stopped is.0 is.1))
    c.refuse_in.ensures.sent

pub returns-in-Err-clause-unread : goal.returns-in-Err-clause-unread
returns-in-Err-clause-unread g c =
    fails_inner g.S.Sources.gives c.args.kept.now c.find_graph.new.sources c.args.project.now c.args.question.now c.in-Err.cause c.refuse_in.result
    c.refuse_in.ensures.unread c.in-Err.ensures.unread
