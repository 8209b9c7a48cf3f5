use Rattle.std.proofs.Common.{refl, ap, inl, inr, ◌∙◌}
use Rattle.inc_check.specs.Certificates.{certificate_of}
use Rattle.inc_check.specs.Texts.{certificate_text}
use Rattle.inc_answers.specs.Fitting.{IsFit}
use Rattle.inc_answers.specs.AnswerNotes.{empty_notes}
use Rattle.inc_answers.specs.Printed.{answered_of, end_of}
use Rattle.inc_answers.specs.declared.outcome.EndKind.TheVariants.{Answered}
use Rattle.inc_answers.proofs.CutLemmas.{counted_within}
use Rattle.inc_report.proofs.cut.send_answer.Goals as goal

pub send_cut-requires-clause-chains : goal.send_cut-requires-clause-chains
send_cut-requires-clause-chains g c =
    let answer = rw c.in-Cut.is at c.requires.answer in
    counted_within c.args.graph.now c.in-Cut.chains answer.shown.real

pub send_fixed-requires-clause-chain : goal.send_fixed-requires-clause-chain
send_fixed-requires-clause-chain g c = rw c.in-Fixed.is at c.requires.answer

pub returns-in-Cut : goal.returns-in-Cut
returns-in-Cut g c =
    let answer = rw c.in-Cut.is at c.requires.answer in
    let sent = rw c.deref.ensures.value at c.send_cut.ensures.sent in
    let small = rw c.deref.ensures.value at c.send_cut.ensures.small in
    let few = rw c.in-Cut.is at c.requires.few in
    let fits : IsFit c.args.project.now c.args.graph.now c.in-Cut.edges.items c.in-Cut.chains = record { marks = small; counted = c.send_cut.ensures.fit; few = few } in (
      answered_of (empty_notes c.args.project.now c.args.graph.now)
          (certificate_text (certificate_of c.args.project.now c.args.graph.now c.in-Cut.edges.items c.in-Cut.chains)),
      inl (c.in-Cut.edges.items, c.in-Cut.chains, answer, fits, refl),
      record { ends = c.noted.ensures ∙ ap (λ n. end_of n Answered) c.requires.notes; sent = sent },
    )

pub returns-in-Fixed : goal.returns-in-Fixed
returns-in-Fixed g c =
    let sent = c.send_fixed.ensures in
    (sent.0, inr sent.1, sent.2)
