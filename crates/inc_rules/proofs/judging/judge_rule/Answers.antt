use Rattle.std.proofs.Common.{◌≡◌, ◌∙◌, ◌<◌, Bool, List, [], ℕ, ap, length, map, false, not, refl, subst, sym}
use Rattle.std.specs.Prelude.{filter, flat_map, slice_index_or}
use Rattle.std.specs.List.{All, range_with_len}
use Rattle.std.specs.List.Sorted.{IsStrictlyIncreasing}
use Rattle.inc_lookup.specs.Projects.{path_at}
use Rattle.inc_rules.specs.Judging.{AreBreaks, AreReachChains, Judged, across_chains, includes, includes_first, left_files, right_files}
use Rattle.inc_rules.specs.Lines.{AreRight}
use Rattle.inc_rules.specs.Rules.{Rule, is_left}
use Rattle.inc_rules.specs.Views.{seen_rule}
use Rattle.inc_rules.specs.declared.rules.Verb.TheVariants.{NotReach, NotInclude, Include, IncludeFirst}
use Rattle.inc_rules.proofs.JudgeLemmas.{breaks_as, left_rise, left_within, right_are, right_rise, right_within}
use Rattle.inc_rules.proofs.judging.judge_rule.Goals as goal

pub reach_chains-requires-clause-from : goal.reach_chains-requires-clause-from
reach_chains-requires-clause-from c =
    subst (λ (l : List ℕ). All (λ f. f < c.args.graph.now.files) l)
    (sym (c.deref-in-NotReach.ensures.value ∙ c.in_ok-left.ensures.files (seen_rule c.args.rule.now) c.in_ok-sides.ensures
    ∙ ap (filter (λ f. is_left (seen_rule c.args.rule.now) (path_at c.args.project.now f))) c.sources.ensures.sources))
    (left_within c.args.project.now c.args.graph.now (seen_rule c.args.rule.now) c.files-files.ensures.sound)

pub reach_chains-requires-clause-from_rise : goal.reach_chains-requires-clause-from_rise
reach_chains-requires-clause-from_rise c =
    subst (λ (l : List ℕ). IsStrictlyIncreasing l)
    (sym (c.deref-in-NotReach.ensures.value ∙ c.in_ok-left.ensures.files (seen_rule c.args.rule.now) c.in_ok-sides.ensures
    ∙ ap (filter (λ f. is_left (seen_rule c.args.rule.now) (path_at c.args.project.now f))) c.sources.ensures.sources))
    (left_rise c.args.project.now c.args.graph.now (seen_rule c.args.rule.now) c.files-files.ensures.sound)

pub reach_chains-requires-clause-to : goal.reach_chains-requires-clause-to
reach_chains-requires-clause-to c =
    let are : AreRight c.args.graph.now.files c.args.project.now (seen_rule c.args.rule.now) c.in_ok-right.right.items =
    subst (λ (n : ℕ). AreRight n c.args.project.now (seen_rule c.args.rule.now) c.in_ok-right.right.items) (sym c.requires.files)
    (c.in_ok-right.ensures.flags (seen_rule c.args.rule.now) (c.in_ok-left.ensures.same ∙ c.in_ok-sides.ensures)) in
    subst (λ (l : List ℕ). All (λ f. f < c.args.graph.now.files) l)
    (sym (c.deref-in-NotReach-2.ensures.value ∙ c.in_ok-to.ensures
    ∙ ap (λ (flags : List Bool). filter (λ f. slice_index_or flags f false) (range_with_len 0 (length flags))) c.deref.ensures.value
    ∙ right_are c.args.project.now c.args.graph.now (seen_rule c.args.rule.now) c.in_ok-right.right.items are))
    (right_within c.args.project.now c.args.graph.now (seen_rule c.args.rule.now))

pub reach_chains-requires-clause-to_rise : goal.reach_chains-requires-clause-to_rise
reach_chains-requires-clause-to_rise c =
    let are : AreRight c.args.graph.now.files c.args.project.now (seen_rule c.args.rule.now) c.in_ok-right.right.items =
    subst (λ (n : ℕ). AreRight n c.args.project.now (seen_rule c.args.rule.now) c.in_ok-right.right.items) (sym c.requires.files)
    (c.in_ok-right.ensures.flags (seen_rule c.args.rule.now) (c.in_ok-left.ensures.same ∙ c.in_ok-sides.ensures)) in
    subst (λ (l : List ℕ). IsStrictlyIncreasing l)
    (sym (c.deref-in-NotReach-2.ensures.value ∙ c.in_ok-to.ensures
    ∙ ap (λ (flags : List Bool). filter (λ f. slice_index_or flags f false) (range_with_len 0 (length flags))) c.deref.ensures.value
    ∙ right_are c.args.project.now c.args.graph.now (seen_rule c.args.rule.now) c.in_ok-right.right.items are))
    (right_rise c.args.project.now c.args.graph.now (seen_rule c.args.rule.now))

pub returns-in-NotReach-clause-breaks : goal.returns-in-NotReach-clause-breaks
returns-in-NotReach-clause-breaks c =
    let r : Rule = seen_rule c.args.rule.now in
    let chains : List (List ℕ) = map (λ x. x.items) c.in_ok-chains-in-NotReach.chains.items in
    let are : AreRight c.args.graph.now.files c.args.project.now r c.in_ok-right.right.items =
    subst (λ (n : ℕ). AreRight n c.args.project.now r c.in_ok-right.right.items) (sym c.requires.files)
    (c.in_ok-right.ensures.flags r (c.in_ok-left.ensures.same ∙ c.in_ok-sides.ensures)) in
    let from : c.deref-in-NotReach.result.now ≡ left_files c.args.project.now c.args.graph.now r =
    c.deref-in-NotReach.ensures.value ∙ c.in_ok-left.ensures.files r c.in_ok-sides.ensures
    ∙ ap (filter (λ f. is_left r (path_at c.args.project.now f))) c.sources.ensures.sources in
    let to : c.deref-in-NotReach-2.result.now ≡ right_files c.args.project.now c.args.graph.now r =
    c.deref-in-NotReach-2.ensures.value ∙ c.in_ok-to.ensures
    ∙ ap (λ (flags : List Bool). filter (λ f. slice_index_or flags f false) (range_with_len 0 (length flags))) c.deref.ensures.value
    ∙ right_are c.args.project.now c.args.graph.now r c.in_ok-right.right.items are in
    let reach : AreReachChains (left_files c.args.project.now c.args.graph.now r) (right_files c.args.project.now c.args.graph.now r) c.args.graph.now chains =
    subst (λ (l : List ℕ). AreReachChains l (right_files c.args.project.now c.args.graph.now r) c.args.graph.now chains) from
    (subst (λ (l : List ℕ). AreReachChains c.deref-in-NotReach.result.now l c.args.graph.now chains) to c.in_ok-chains-in-NotReach.ensures) in
    subst (λ (j : Judged). AreBreaks c.args.project.now c.args.graph.now r j.chains j.files) (sym c.by_chains.ensures)
    (breaks_as c.args.project.now c.args.graph.now r NotReach (record { rule = r; chains = chains; files = [] }) c.in-NotReach.is (reach, refl))

pub across_chains-requires : goal.across_chains-requires
across_chains-requires c =
    subst (λ (l : List ℕ). All (λ f. f < c.args.graph.now.files) l)
    (sym (c.deref-in-NotInclude.ensures.value ∙ c.in_ok-left.ensures.files (seen_rule c.args.rule.now) c.in_ok-sides.ensures
    ∙ ap (filter (λ f. is_left (seen_rule c.args.rule.now) (path_at c.args.project.now f))) c.sources.ensures.sources))
    (left_within c.args.project.now c.args.graph.now (seen_rule c.args.rule.now) c.files-files.ensures.sound)

pub returns-in-NotInclude-clause-breaks : goal.returns-in-NotInclude-clause-breaks
returns-in-NotInclude-clause-breaks c =
    let r : Rule = seen_rule c.args.rule.now in
    let chains : List (List ℕ) = map (λ x. x.items) c.in_ok-chains-in-NotInclude.chains.items in
    let are : AreRight c.args.graph.now.files c.args.project.now r c.deref-in-NotInclude-2.result.now =
    subst (λ (right : List Bool). AreRight c.args.graph.now.files c.args.project.now r right) (sym c.deref-in-NotInclude-2.ensures.value)
    (subst (λ (n : ℕ). AreRight n c.args.project.now r c.in_ok-right.right.items) (sym c.requires.files)
    (c.in_ok-right.ensures.flags r (c.in_ok-left.ensures.same ∙ c.in_ok-sides.ensures))) in
    let left : c.deref-in-NotInclude.result.now ≡ left_files c.args.project.now c.args.graph.now r =
    c.deref-in-NotInclude.ensures.value ∙ c.in_ok-left.ensures.files r c.in_ok-sides.ensures
    ∙ ap (filter (λ f. is_left r (path_at c.args.project.now f))) c.sources.ensures.sources in
    subst (λ (j : Judged). AreBreaks c.args.project.now c.args.graph.now r j.chains j.files) (sym c.by_chains-in-NotInclude.ensures)
    (breaks_as c.args.project.now c.args.graph.now r NotInclude (record { rule = r; chains = chains; files = [] }) c.in-NotInclude.is
    (c.in_ok-chains-in-NotInclude.ensures c.args.project.now r are ∙ ap (flat_map (across_chains c.args.project.now c.args.graph.now r)) left, refl))

pub without_include-requires : goal.without_include-requires
without_include-requires c =
    subst (λ (l : List ℕ). All (λ f. f < c.args.graph.now.files) l)
    (sym (c.deref-in-Include.ensures.value ∙ c.in_ok-left.ensures.files (seen_rule c.args.rule.now) c.in_ok-sides.ensures
    ∙ ap (filter (λ f. is_left (seen_rule c.args.rule.now) (path_at c.args.project.now f))) c.sources.ensures.sources))
    (left_within c.args.project.now c.args.graph.now (seen_rule c.args.rule.now) c.files-files.ensures.sound)

pub returns-in-Include-clause-breaks : goal.returns-in-Include-clause-breaks
returns-in-Include-clause-breaks c =
    let r : Rule = seen_rule c.args.rule.now in
    let are : AreRight c.args.graph.now.files c.args.project.now r c.deref-in-Include-2.result.now =
    subst (λ (right : List Bool). AreRight c.args.graph.now.files c.args.project.now r right) (sym c.deref-in-Include-2.ensures.value)
    (subst (λ (n : ℕ). AreRight n c.args.project.now r c.in_ok-right.right.items) (sym c.requires.files)
    (c.in_ok-right.ensures.flags r (c.in_ok-left.ensures.same ∙ c.in_ok-sides.ensures))) in
    let left : c.deref-in-Include.result.now ≡ left_files c.args.project.now c.args.graph.now r =
    c.deref-in-Include.ensures.value ∙ c.in_ok-left.ensures.files r c.in_ok-sides.ensures
    ∙ ap (filter (λ f. is_left r (path_at c.args.project.now f))) c.sources.ensures.sources in
    subst (λ (j : Judged). AreBreaks c.args.project.now c.args.graph.now r j.chains j.files) (sym c.by_files.ensures)
    (breaks_as c.args.project.now c.args.graph.now r Include (record { rule = r; chains = []; files = c.in_ok-files-in-Include.files.items }) c.in-Include.is
    (refl, c.in_ok-files-in-Include.ensures c.args.project.now r are ∙ ap (filter (λ f. not (includes c.args.project.now c.args.graph.now r f))) left))

pub without_first-requires-clause-left : goal.without_first-requires-clause-left
without_first-requires-clause-left c =
    subst (λ (l : List ℕ). All (λ f. f < c.args.graph.now.files) l)
    (sym (c.deref-in-IncludeFirst.ensures.value ∙ c.in_ok-left.ensures.files (seen_rule c.args.rule.now) c.in_ok-sides.ensures
    ∙ ap (filter (λ f. is_left (seen_rule c.args.rule.now) (path_at c.args.project.now f))) c.sources.ensures.sources))
    (left_within c.args.project.now c.args.graph.now (seen_rule c.args.rule.now) c.files-files.ensures.sound)

pub returns-clause-breaks : goal.returns-clause-breaks
returns-clause-breaks c =
    let r : Rule = seen_rule c.args.rule.now in
    let are : AreRight c.args.graph.now.files c.args.project.now r c.deref-in-IncludeFirst-2.result.now =
    subst (λ (right : List Bool). AreRight c.args.graph.now.files c.args.project.now r right) (sym c.deref-in-IncludeFirst-2.ensures.value)
    (subst (λ (n : ℕ). AreRight n c.args.project.now r c.in_ok-right.right.items) (sym c.requires.files)
    (c.in_ok-right.ensures.flags r (c.in_ok-left.ensures.same ∙ c.in_ok-sides.ensures))) in
    let left : c.deref-in-IncludeFirst.result.now ≡ left_files c.args.project.now c.args.graph.now r =
    c.deref-in-IncludeFirst.ensures.value ∙ c.in_ok-left.ensures.files r c.in_ok-sides.ensures
    ∙ ap (filter (λ f. is_left r (path_at c.args.project.now f))) c.sources.ensures.sources in
    subst (λ (j : Judged). AreBreaks c.args.project.now c.args.graph.now r j.chains j.files) (sym c.by_files-in-IncludeFirst.ensures)
    (breaks_as c.args.project.now c.args.graph.now r IncludeFirst (record { rule = r; chains = []; files = c.in_ok-files-in-IncludeFirst.files.items })
    c.in-IncludeFirst.is (
      refl,
      c.in_ok-files-in-IncludeFirst.ensures c.args.project.now r are
          ∙ ap (filter (λ f. not (includes_first c.args.project.now c.args.graph.now r f))) left,
    ))
