use Rattle.inc_lookup.specs.Given.{HoldsOfGiven}
use Rattle.inc_check.specs.Texts.{OfBytes}
use Rattle.inc_report.specs.CheckText.{IsCheckBy}
use Rattle.inc_report.specs.Headline.{CheckHeadline}
use Rattle.inc_cli.specs.Questions.{Content, Promise}
use Rattle.inc_cli.proofs.ListedPrints.{of_bytes_all}
use Rattle.inc_cli.proofs.ListedReadings.{holds, prints, reading}
use Rattle.inc_cli.proofs.answering.answer_check.Goals as goal

pub returns-in-Ok : goal.returns-in-Ok
returns-in-Ok g c Content groups notes =
    let gives = g.I.Inputs.gives in
    let old = c.args.files in
    let new = c.run_check.new.sources in
    let layout = c.args.project.now in
    let q = c.args.question.now in
    let l = c.args.limits.now in
    let stream = c.in-Ok.stream in
    let left = g.I.Stream.ByteSource.left stream in
    prints gives old new layout q (λ p. OfBytes left (λ text. HoldsOfGiven (reading gives) old new layout (IsCheckBy q l text p))) _ _ _
    (λ p h. (stream, c.in-Ok.ensures, of_bytes_all left _ _ (λ text h. holds gives old new layout (IsCheckBy q l text p) h) h))
    c.run_check.ensures.written c.run_check.ensures.unread
returns-in-Ok g c Promise groups notes =
    let gives = g.I.Inputs.gives in
    let old = c.args.files in
    let new = c.run_check.new.sources in
    let layout = c.args.project.now in
    let q = c.args.question.now in
    let l = c.args.limits.now in
    let stream = c.in-Ok.stream in
    let left = g.I.Stream.ByteSource.left stream in
    prints gives old new layout q
    (λ p. OfBytes left (λ text. HoldsOfGiven (reading gives) old new layout (λ _ listing. CheckHeadline q l text p listing))) _ _ _
    (λ p h. (stream, c.in-Ok.ensures, of_bytes_all left _ _ (λ text h. holds gives old new layout (λ _ listing. CheckHeadline q l text p listing) h) h))
    c.run_check.ensures.headline c.run_check.ensures.unread
