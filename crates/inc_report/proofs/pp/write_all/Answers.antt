use Rattle.std.proofs.lemmas.Result.{err_from_is_err_and}
use Rattle.inc_report.specs.PpSteps.{Common}
use Rattle.inc_answers.specs.Terms.{named_directives}
use Rattle.inc_report.proofs.PpSections.{wrote-none}
use Rattle.inc_report.proofs.pp.write_all.Goals as goal

pub returns-in_err-named-clause-written : goal.returns-in_err-named-clause-written
returns-in_err-named-clause-written g c =
    let p = err_from_is_err_and c.from_residual.result c.from_residual.ensures.1 in
    let common : Common = record { layout = c.args.project.now; words = c.args.question.now.words; settings = c.args.question.now.settings; without = named_directives c.args.project.now c.args.question.now.without } in
    rw (p.1, p.2) (wrote-none g.S.Sources.gives c.args.sources.now common _ _ _ _ c.requires.sound)

pub returns-in_err-removed-clause-written : goal.returns-in_err-removed-clause-written
returns-in_err-removed-clause-written g c =
    let p = err_from_is_err_and c.from_residual-in_err-removed.result c.from_residual-in_err-removed.ensures.1 in
    let common : Common = record { layout = c.args.project.now; words = c.args.question.now.words; settings = c.args.question.now.settings; without = named_directives c.args.project.now c.args.question.now.without } in
    rw (p.1, p.2) (wrote-none g.S.Sources.gives c.args.sources.now common _ _ _ _ c.requires.sound)

pub returns-in_err-files-clause-written : goal.returns-in_err-files-clause-written
returns-in_err-files-clause-written g c =
    let p = err_from_is_err_and c.from_residual-in_err-files.result c.from_residual-in_err-files.ensures.1 in
    let common : Common = record { layout = c.args.project.now; words = c.args.question.now.words; settings = c.args.question.now.settings; without = named_directives c.args.project.now c.args.question.now.without } in
    rw (p.1, p.2) (wrote-none g.S.Sources.gives c.args.sources.now common _ _ _ _ c.requires.sound)

pub returns-in_err-notes-clause-written : goal.returns-in_err-notes-clause-written
returns-in_err-notes-clause-written g c =
    let p = err_from_is_err_and c.from_residual-in_err-notes.result c.from_residual-in_err-notes.ensures.1 in
    let common : Common = record { layout = c.args.project.now; words = c.args.question.now.words; settings = c.args.question.now.settings; without = named_directives c.args.project.now c.args.question.now.without } in
    rw (p.1, p.2) (wrote-none g.S.Sources.gives c.args.sources.now common _ _ _ _ c.requires.sound)

pub returns-clause-written : goal.returns-clause-written
returns-clause-written g c = rw (← c.wanted_of.ensures, ← c.question.view_is, ← c.in_ok-named.ensures, ← c.deref.ensures.value, ← c.in_ok-removed.ensures) c.write_each-end.ensures.written

pub returns-clause-unread : goal.returns-clause-unread
returns-clause-unread g c = rw (← c.wanted_of.ensures, ← c.question.view_is, ← c.in_ok-named.ensures, ← c.deref.ensures.value, ← c.in_ok-removed.ensures) c.write_each-end.ensures.unread
