use Rattle.std.proofs.Common.{rules, ◌≡◌, ◌<◌, ◌∷◌, ◌++◌, [], Some, drop, length, sym, ap, ◌∙◌, subst, arith}
use Rattle.std.proofs.lemmas.List.{take_rest}
use Rattle.inc_lookup.specs.declared.projects.DirectiveId.{DirectiveId}
use Rattle.inc_answers.specs.Changes.{first_lines}
use Rattle.inc_answers.specs.ChangeSteps.{change_at}
use Rattle.inc_answers.specs.KeptFiles.{kept_at}
use Rattle.inc_answers.proofs.ChangeLemmas.{found_start, found_step, found_end}
use Rattle.inc_answers.proofs.changes.changes_of.Goals as goal

pub loop-at-init : goal.loop-at-init
loop-at-init c = rw c.new-changes.ensures.items (found_start c.args.project.now c.args.files.now c.args.language c.args.directives.now c.requires.rising)

pub loop-at-preserved : goal.loop-at-preserved
loop-at-preserved c =
    let ds = c.args.directives.now in
    let at = c.loop-at.at in
    let d = c.index-directives-at.result in
    let lines = c.in_ok-lines.lines.items in
    let added = c.in_ok-add_change.ensures in
    let are = (rw (take_rest ds at) at c.in_ok-lines.ensures) ∙ ap (λ (x : DirectiveId). first_lines x.file (drop at ds)) (sym c.index-directives-at.is) in
    let long : c.len-at.result ≡ length lines = search rules in
    let items : c.add_change.new.changes.items ≡ c.loop-at.changes.items ++ change_at c.args.project.now c.args.language d.file lines added.0 ∷ [] =
    added.2 ∙ ap (λ (x : DirectiveId). c.loop-at.changes.items ++ change_at c.args.project.now c.args.language x.file c.deref.result.now added.0 ∷ []) (sym c.index-directives-at.is)
    ∙ ap (λ ls. c.loop-at.changes.items ++ change_at c.args.project.now c.args.language d.file ls added.0 ∷ []) c.deref.ensures.value in
    rw (long, items)
    (found_step c.args.project.now c.args.files.now c.args.language ds at c.loop-at.changes.items d lines added.0 c.loop-at.invariant c.loop-at-test.true (sym c.index-directives-at.is) are
    (subst (λ x. x.file < length c.args.project.now.paths) (sym c.index-directives-at.is) (c.requires.within at d c.loop-at-test.true))
    (subst (λ (x : DirectiveId). kept_at c.args.files.now x.file ≡ Some added.0) (sym c.index-directives-at.is) added.1))

pub returns : goal.returns
returns c = found_end c.args.project.now c.args.files.now c.args.language c.args.directives.now c.loop-at.at c.loop-at.changes.items (omega (arith, c.loop-at-test.false)) c.loop-at.invariant
