use Rattle.std.proofs.Common.{◌∙◌, ◌<◌, List, ℕ, ap, length, not, subst, sym}
use Rattle.std.specs.Prelude.{filter}
use Rattle.std.specs.List.{All}
use Rattle.std.specs.List.Sorted.{IsStrictlyIncreasing}
use Rattle.inc_graph.specs.Members.{is_member}
use Rattle.inc_answers.proofs.CostGroupLemmas.{kept_rise, kept_within}
use Rattle.inc_answers.proofs.cost_groups.group_headers.Goals as goal

pub returns-clause-headers : goal.returns-clause-headers
returns-clause-headers c =
    c.in_ok-headers.ensures ∙ ap (filter (λ f. not (is_member f c.args.graph.now.sources))) (c.deref.ensures.value ∙ c.in_ok-files.ensures.files)

pub returns-clause-within : goal.returns-clause-within
returns-clause-within c =
    let g = c.args.graph.now in
    let are = c.in_ok-headers.ensures ∙ ap (filter (λ f. not (is_member f g.sources))) c.deref.ensures.value in
    subst (All (λ f. f < g.files)) (sym are) (kept_within g c.in_ok-files.files.items (length c.args.project.now.paths) c.requires c.in_ok-files.ensures.within)

pub returns-clause-rise : goal.returns-clause-rise
returns-clause-rise c =
    let g = c.args.graph.now in
    let are = c.in_ok-headers.ensures ∙ ap (filter (λ f. not (is_member f g.sources))) c.deref.ensures.value in
    subst (λ (fs : List ℕ). IsStrictlyIncreasing fs) (sym are) (kept_rise g c.in_ok-files.files.items c.in_ok-files.ensures.rise)
