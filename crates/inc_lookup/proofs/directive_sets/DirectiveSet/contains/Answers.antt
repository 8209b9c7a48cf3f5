use Rattle.std.proofs.Common.{rules, ◌∙◌, ap}
use Rattle.std.proofs.lemmas.Fn.{always_returns_same}
use Rattle.inc_lookup.specs.declared.projects.DirectiveId.{DirectiveId}
use Rattle.inc_lookup.specs.DirectiveLists.{is_listed, place_cmp}
use Rattle.inc_lookup.proofs.SortedDirectives.{found}
use Rattle.inc_lookup.proofs.directive_sets.DirectiveSet.contains.Goals as goal

pub returns : goal.returns
returns c =
    let w : DirectiveId = record { file = c.args.file; line = c.args.line } in
    c.is_ok.ensures.value
    ∙ found c.self.inside.listed.now c.deref.result.now (rw c.deref.ensures.value c.self.invariant) w c.binary_search_by.result c.binary_search_by.ensures.bound
    (c.binary_search_by.ensures.position (λ (d : DirectiveId). place_cmp d w) (always_returns_same _ _ _ (λ a r g h. (search rules, search rules))))
    ∙ ap (λ ids. is_listed ids c.args.file c.args.line) c.self.view_is
