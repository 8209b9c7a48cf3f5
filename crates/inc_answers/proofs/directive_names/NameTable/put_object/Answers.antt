use Rattle.std.proofs.Common.{◌≡◌, ◌∙◌, ◌++◌, List, ℕ, Bor, OnOk, ap, subst, sym}
use Rattle.std.specs.Prelude.{option_map}
use Rattle.inc_directive.specs.LineKinds.{LineKind}
use Rattle.inc_answers.specs.DirectiveNames.{kept_kind}
use Rattle.inc_answers.specs.JsonDirectives.{directive_text}
use Rattle.inc_answers.specs.KeptFiles.{kept_at}
use Rattle.inc_answers.specs.NameTables.{AreNames, NameSource}
use Rattle.inc_answers.proofs.NameOrder.{kind_kept, kind_known, one_known}
use Rattle.inc_answers.proofs.directive_names.NameTable.put_object.Goals as goal

pub invariant_of-self : goal.invariant_of-self
invariant_of-self c =
    let place = c.index-place.ensures in
    subst (AreNames c.self.inside.language c.self.inside.kept.now) (sym c.keep_names.ensures)
    (one_known c.self.inside.language c.self.inside.kept.now c.self.inside.files.items c.index-place.result c.in_ok-names-in-None.names c.in-Some.bytes.now
    (ap (kept_at c.self.inside.kept.now) place ∙ sym c.in-Some.ensures.bytes) c.in_ok-names-in-None.ensures c.self.invariant)

pub returns-in-Some-known-clause-text : goal.returns-in-Some-known-clause-text
returns-in-Some-known-clause-text c =
    let d = c.args.directive in
    let found =
    kind_known c.self.inside.language c.self.inside.kept.now c.self.inside.files.items c.deref.result.now c.index-place.result d c.in-Some-known.names.now c.in-Some.bytes.now c.self.invariant
    c.deref.ensures.value c.index-place.ensures c.in-Some.ensures.bytes c.in-Some-known.ensures in
    subst (λ (k : LineKind). OnOk c.put_directive-in-Some-known.result (c.put_directive-in-Some-known.new.text.items
    ≡ c.args.text.now.items ++ directive_text k d.line c.args.path.now (option_map (λ (p : Bor (List ℕ)). p.now) c.args.to)))
    (c.kind.ensures ∙ found ∙ ap (λ (s : NameSource). kept_kind s.language s.kept d) c.self.view_is) c.put_directive-in-Some-known.ensures

pub returns-in_ok-put_directive-in-None-clause-text : goal.returns-in_ok-put_directive-in-None-clause-text
returns-in_ok-put_directive-in-None-clause-text c =
    let d = c.args.directive in
    let found = kind_kept c.self.inside.language c.self.inside.kept.now d c.in_ok-names-in-None.names c.in-Some.bytes.now (sym c.in-Some.ensures.bytes) c.in_ok-names-in-None.ensures in
    c.in_ok-put_directive-in-None.ensures
    ∙ ap (λ (k : LineKind). c.args.text.now.items ++ directive_text k d.line c.args.path.now (option_map (λ (p : Bor (List ℕ)). p.now) c.args.to))
    (c.kind-in-None.ensures ∙ found ∙ ap (λ (s : NameSource). kept_kind s.language s.kept d) c.self.view_is)
