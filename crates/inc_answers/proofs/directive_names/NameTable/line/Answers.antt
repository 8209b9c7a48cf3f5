use Rattle.std.proofs.Common.{◌∙◌, ap, subst, sym}
use Rattle.inc_directive.specs.FileDirectives.{Directive}
use Rattle.inc_answers.specs.DirectiveNames.{kept_kind}
use Rattle.inc_answers.specs.KeptFiles.{kept_at}
use Rattle.inc_answers.specs.NameTables.{AreNames, NameSource}
use Rattle.inc_answers.proofs.NameOrder.{kind_kept, kind_known, line_if, one_known}
use Rattle.inc_answers.proofs.directive_names.NameTable.line.Goals as goal

pub invariant_of-self : goal.invariant_of-self
invariant_of-self c =
    let place = c.index-place.ensures in
    subst (AreNames c.self.inside.language c.self.inside.kept.now) (sym c.keep_names.ensures)
    (one_known c.self.inside.language c.self.inside.kept.now c.self.inside.files.items c.index-place.result c.in_ok-names-in-None.names c.in-Some.bytes.now
    (ap (kept_at c.self.inside.kept.now) place ∙ sym c.in-Some.ensures.bytes) c.in_ok-names-in-None.ensures c.self.invariant)

pub returns-in-Some-known-clause-line : goal.returns-in-Some-known-clause-line
returns-in-Some-known-clause-line c =
    let d = c.args.directive in
    let found =
    kind_known c.self.inside.language c.self.inside.kept.now c.self.inside.files.items c.deref.result.now c.index-place.result d c.in-Some-known.names.now c.in-Some.bytes.now c.self.invariant
    c.deref.ensures.value c.index-place.ensures c.in-Some.ensures.bytes c.in-Some-known.ensures in
    line_if c.named-in-Some-known.result _ _ c.named-in-Some-known.ensures
    (c.kind-kind.ensures ∙ found ∙ ap (λ (s : NameSource). kept_kind s.language s.kept d) c.self.view_is)

pub returns-in_ok-found-in-None-clause-line : goal.returns-in_ok-found-in-None-clause-line
returns-in_ok-found-in-None-clause-line c =
    let d = c.args.directive in
    let found = kind_kept c.self.inside.language c.self.inside.kept.now d c.in_ok-names-in-None.names c.in-Some.bytes.now (sym c.in-Some.ensures.bytes) c.in_ok-names-in-None.ensures in
    ap (λ (x : Directive). x.kind) c.in_ok-found-in-None.ensures ∙ c.kind-kind-in-None.ensures ∙ found
    ∙ ap (λ (s : NameSource). kept_kind s.language s.kept d) c.self.view_is
