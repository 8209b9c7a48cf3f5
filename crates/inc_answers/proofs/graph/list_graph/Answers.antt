use Rattle.std.proofs.Common.{ap, refl, ◌∙◌}
use Rattle.inc_answers.specs.AnswerNotes.{definition_notes}
use Rattle.inc_answers.specs.Printed.{answered_of, end_of}
use Rattle.inc_answers.specs.declared.outcome.EndKind.TheVariants.{Answered}
use Rattle.inc_answers.proofs.graph.list_graph.Goals as goal

pub returns-clause-sent : goal.returns-clause-sent
returns-clause-sent g c = record {
  text = (
    answered_of (definition_notes c.args.project.now c.args.graph.now) _,
    refl,
    record { ends = c.noted.ensures ∙ ap (λ n. end_of n Answered) c.in_ok-notes.ensures; sent = c.send_graph.ensures },
  );
  nothing = tt;
}
