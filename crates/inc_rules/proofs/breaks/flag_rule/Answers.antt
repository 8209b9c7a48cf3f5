use Rattle.std.proofs.Common.{◌≡◌, ◌∙◌, ◌<◌, List, ℕ, ap, arith, length, refl, subst, sym}
use Rattle.std.specs.Prelude.{filter}
use Rattle.std.specs.List.{All}
use Rattle.inc_graph.specs.declared.graphs.Edge.{Edge}
use Rattle.inc_lookup.specs.Projects.{path_at}
use Rattle.inc_rules.specs.Judging.{left_files}
use Rattle.inc_rules.specs.Lines.{AreRight}
use Rattle.inc_rules.specs.Rules.{Rule, is_left}
use Rattle.inc_rules.specs.Views.{seen_rule}
use Rattle.inc_rules.proofs.BreakingLemmas.{AreBound, flag_more, numbered_low}
use Rattle.inc_rules.proofs.JudgeLemmas.{left_within}
use Rattle.inc_rules.proofs.breaks.flag_rule.Goals as goal

pub bound_files-requires : goal.bound_files-requires
bound_files-requires c =
    subst (λ (l : List ℕ). All (λ f. f < c.args.graph.now.files) l)
    (sym (c.deref.ensures.value ∙ c.in_ok-left.ensures.files (seen_rule c.args.rule.now) c.in_ok-sides.ensures
    ∙ ap (filter (λ f. is_left (seen_rule c.args.rule.now) (path_at c.args.project.now f))) c.sources.ensures.sources))
    (left_within c.args.project.now c.args.graph.now (seen_rule c.args.rule.now) c.files-files.ensures.sound)

pub flag_entering-requires : goal.flag_entering-requires
flag_entering-requires c =
    subst (λ (es : List Edge). All (λ (e : Edge). e.id < length c.args.flags.now) es) (sym c.edges.ensures.edges)
    (numbered_low 0 c.args.graph.now.edges (length c.args.flags.now) (omega (arith, c.requires.long)))

pub returns-clause-flags : goal.returns-clause-flags
returns-clause-flags c =
    let layout = c.args.project.now in
    let g = c.args.graph.now in
    let r : Rule = seen_rule c.args.rule.now in
    let own : AreRight g.files layout r c.in_ok-right.right.items =
    subst (λ (n : ℕ). AreRight n layout r c.in_ok-right.right.items) (sym c.requires.files)
    (c.in_ok-right.ensures.flags r (c.in_ok-left.ensures.same ∙ c.in_ok-sides.ensures)) in
    let given : AreRight g.files layout r c.deref-2.result.now = subst (AreRight g.files layout r) (sym c.deref-2.ensures.value) own in
    let right : AreRight g.files layout r c.deref-4.result.now = subst (AreRight g.files layout r) (sym c.deref-4.ensures.value) own in
    let left : c.deref.result.now ≡ left_files layout g r =
    c.deref.ensures.value ∙ c.in_ok-left.ensures.files r c.in_ok-sides.ensures ∙ ap (filter (λ f. is_left r (path_at layout f))) c.sources.ensures.sources in
    let bound : AreBound layout g r c.deref-3.result.now =
    subst (AreBound layout g r) (sym c.deref-3.ensures.value) (c.in_ok-bound.ensures layout r refl left given) in
    λ edge low. flag_more layout g r c.deref-3.result.now c.deref-4.result.now c.files-files.ensures.sound right bound edge _ _ (rw c.edges.ensures.edges at (c.flag_entering.ensures.each edge low))
