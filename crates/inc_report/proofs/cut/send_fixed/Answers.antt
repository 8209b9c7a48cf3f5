use Rattle.std.proofs.Common.{refl, ap, ◌∙◌}
use Rattle.std.specs.Prelude.{codes}
use Rattle.inc_graph.proofs.Walks.{chain-within}
use Rattle.inc_check.specs.Certificates.{marks_of}
use Rattle.inc_answers.specs.MarkTexts.{list_text}
use Rattle.inc_answers.specs.AnswerNotes.{empty_notes}
use Rattle.inc_answers.specs.Printed.{negative_of, end_of}
use Rattle.inc_answers.specs.declared.outcome.EndKind.TheVariants.{Negative}
use Rattle.inc_report.proofs.cut.send_fixed.Goals as goal

pub send_list-requires-clause-edges : goal.send_list-requires-clause-edges
send_list-requires-clause-edges g c =
    rw c.as_slice.ensures (chain-within c.args.graph.now c.args.chain.now.edges c.requires.chain.real)

pub returns : goal.returns
returns g c =
    let sent = rw c.as_slice.ensures at c.send_list.ensures.sent in (
      negative_of (empty_notes c.args.project.now c.args.graph.now) (list_text (codes "fixed") (marks_of c.args.project.now c.args.graph.now c.args.chain.now.edges)),
      (c.args.chain.now.edges, c.requires.chain, refl),
      record { ends = c.noted.ensures ∙ ap (λ n. end_of n Negative) c.requires.notes; sent = sent },
    )
