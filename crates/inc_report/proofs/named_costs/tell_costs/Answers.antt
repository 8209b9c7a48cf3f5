use Rattle.std.proofs.Common.{◌∙◌, List, ℕ, refl, subst}
use Rattle.inc_answers.specs.CostText.{IsRanked}
use Rattle.inc_answers.specs.CostViews.{seen_ranked}
use Rattle.inc_report.proofs.NamedLemmas.{printed_same}
use Rattle.inc_report.proofs.named_costs.tell_costs.Goals as goal

pub returns : goal.returns
returns c =
    let r = seen_ranked c.in_ok-ranked.ranked in (
      r,
      subst (λ (sizes : List ℕ). IsRanked sizes c.args.words.most c.args.words.groups.now c.args.subject.project.now c.args.subject.graph.now r) (c.deref.ensures.value ∙ c.in_ok-sizes.ensures)
          c.in_ok-ranked.ensures.ranked,
      printed_same _ _ _ _ _ _ c.in_ok-cost_text.ensures c.in_ok-notes.ensures refl,
    )
