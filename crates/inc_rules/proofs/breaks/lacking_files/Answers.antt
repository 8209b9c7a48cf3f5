use Rattle.std.proofs.Common.{◌≡◌, ◌∙◌, ◌<◌, List, ℕ, ap, not, subst, sym}
use Rattle.std.specs.Prelude.{filter}
use Rattle.std.specs.List.{All}
use Rattle.std.proofs.lemmas.Result.{IfOk-weaker}
use Rattle.inc_lookup.specs.Projects.{path_at}
use Rattle.inc_rules.specs.Judging.{includes, includes_first, left_files}
use Rattle.inc_rules.specs.Lines.{AreRight}
use Rattle.inc_rules.specs.Rules.{Rule, is_left}
use Rattle.inc_rules.specs.Views.{seen_rule}
use Rattle.inc_rules.specs.declared.rules.Verb.TheVariants.{Include, IncludeFirst}
use Rattle.inc_rules.proofs.BreakingLemmas.{lacks_as}
use Rattle.inc_rules.proofs.JudgeLemmas.{left_within}
use Rattle.inc_rules.proofs.breaks.lacking_files.Goals as goal

pub without_include-requires : goal.without_include-requires
without_include-requires c =
    subst (λ (l : List ℕ). All (λ f. f < c.args.graph.now.files) l)
    (sym (c.deref.ensures.value ∙ c.in_ok-left.ensures.files (seen_rule c.args.rule.now) c.in_ok-sides.ensures
    ∙ ap (filter (λ f. is_left (seen_rule c.args.rule.now) (path_at c.args.project.now f))) c.sources.ensures.sources))
    (left_within c.args.project.now c.args.graph.now (seen_rule c.args.rule.now) c.files-files.ensures.sound)

pub returns-in-Include : goal.returns-in-Include
returns-in-Include c =
    let layout = c.args.project.now in
    let g = c.args.graph.now in
    let r : Rule = seen_rule c.args.rule.now in
    let are : AreRight g.files layout r c.deref-in-Include.result.now =
    subst (λ right. AreRight g.files layout r right) (sym c.deref-in-Include.ensures.value)
    (subst (λ (n : ℕ). AreRight n layout r c.in_ok-right.right.items) (sym c.requires.files)
    (c.in_ok-right.ensures.flags r (c.in_ok-left.ensures.same ∙ c.in_ok-sides.ensures))) in
    let left : c.deref.result.now ≡ left_files layout g r =
    c.deref.ensures.value ∙ c.in_ok-left.ensures.files r c.in_ok-sides.ensures ∙ ap (filter (λ f. is_left r (path_at layout f))) c.sources.ensures.sources in
    record {
      files = IfOk-weaker c.without_include.result _ _
          (λ files is. lacks_as layout g r Include _ c.in-Include.is (is ∙ ap (filter (λ f. not (includes layout g r f))) left))
          (c.without_include.ensures layout r are);
    }

pub without_first-requires-clause-left : goal.without_first-requires-clause-left
without_first-requires-clause-left c =
    subst (λ (l : List ℕ). All (λ f. f < c.args.graph.now.files) l)
    (sym (c.deref-in-IncludeFirst.ensures.value ∙ c.in_ok-left.ensures.files (seen_rule c.args.rule.now) c.in_ok-sides.ensures
    ∙ ap (filter (λ f. is_left (seen_rule c.args.rule.now) (path_at c.args.project.now f))) c.sources.ensures.sources))
    (left_within c.args.project.now c.args.graph.now (seen_rule c.args.rule.now) c.files-files.ensures.sound)

pub returns : goal.returns
returns c =
    let layout = c.args.project.now in
    let g = c.args.graph.now in
    let r : Rule = seen_rule c.args.rule.now in
    let are : AreRight g.files layout r c.deref-in-IncludeFirst-2.result.now =
    subst (λ right. AreRight g.files layout r right) (sym c.deref-in-IncludeFirst-2.ensures.value)
    (subst (λ (n : ℕ). AreRight n layout r c.in_ok-right.right.items) (sym c.requires.files)
    (c.in_ok-right.ensures.flags r (c.in_ok-left.ensures.same ∙ c.in_ok-sides.ensures))) in
    let left : c.deref-in-IncludeFirst.result.now ≡ left_files layout g r =
    c.deref-in-IncludeFirst.ensures.value ∙ c.in_ok-left.ensures.files r c.in_ok-sides.ensures ∙ ap (filter (λ f. is_left r (path_at layout f))) c.sources.ensures.sources in
    record {
      files = IfOk-weaker c.without_first.result _ _
          (λ files is. lacks_as layout g r IncludeFirst _ c.in-IncludeFirst.is (is ∙ ap (filter (λ f. not (includes_first layout g r f))) left))
          (c.without_first.ensures layout r are);
    }
