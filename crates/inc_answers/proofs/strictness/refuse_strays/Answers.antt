use Rattle.std.proofs.Common.{ap, map, refl, ◌∙◌}
use Rattle.inc_graph.specs.MissingLists.{missing_at}
use Rattle.inc_answers.specs.Printed.{end_of}
use Rattle.inc_answers.specs.Strictness.{not_found}
use Rattle.inc_answers.specs.declared.outcome.EndKind.TheVariants.{Refused}
use Rattle.inc_answers.proofs.SendingLemmas.{sends_then}
use Rattle.inc_answers.proofs.WritingLemmas.{prints_one}
use Rattle.inc_answers.proofs.strictness.refuse_strays.Goals as goal

pub returns-clause-sent : goal.returns-clause-sent
returns-clause-sent g c =
    prints_one _ (not_found c.args.project.now (map (missing_at c.args.graph.now.missing) c.args.strays.now)) _ _ _ refl
    (record {
      ends = c.noted.ensures ∙ ap (λ n. end_of n Refused) c.in_ok-reasons.ensures;
      sent = rw c.missing.ensures.missing at (sends_then _ _ _ _ _ c.send_line.ensures c.send_strays.ensures);
    })
