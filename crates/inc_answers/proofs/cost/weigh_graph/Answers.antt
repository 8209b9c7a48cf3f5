use Rattle.std.proofs.Common.{◌∙◌, ap, refl}
use Rattle.inc_answers.specs.CostViews.{seen_ranked}
use Rattle.inc_answers.specs.Printed.{answered_of, end_of}
use Rattle.inc_answers.specs.declared.outcome.EndKind.TheVariants.{Answered}
use Rattle.inc_answers.proofs.cost.weigh_graph.Goals as goal

pub returns-clause-sent : goal.returns-clause-sent
returns-clause-sent g c =
    record {
      text = (
        answered_of _ _,
        (seen_ranked c.in_ok-ranked.ranked, c.in_ok-ranked.ensures.ranked, refl),
        record { ends = c.noted.ensures ∙ ap (λ n. end_of n Answered) c.in_ok-notes.ensures; sent = c.send_ranked.ensures },
      );
      nothing = tt;
    }
