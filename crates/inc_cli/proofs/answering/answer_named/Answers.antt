use Rattle.std.proofs.Common.{◌≡◌, subst}
use Rattle.inc_lookup.specs.Given.{HoldsOfGiven}
use Rattle.inc_report.specs.NamedHeadline.{NamedHeadline}
use Rattle.inc_report.specs.NamedText.{IsNamedBy}
use Rattle.inc_answers.specs.Terms.{Details}
use Rattle.inc_cli.specs.Commands.{details_of}
use Rattle.inc_cli.specs.Questions.{Content, Promise}
use Rattle.inc_cli.specs.Views.{seen_command}
use Rattle.inc_cli.proofs.ListedReadings.{holds, prints, reading}
use Rattle.inc_cli.proofs.answering.answer_named.Goals as goal

pub returns-clause-printed : goal.returns-clause-printed
returns-clause-printed g c Content notes =
    let gives = g.I.Inputs.gives in
    let old = c.args.files in
    let new = c.run_named-ended.result.1 in
    let layout = c.args.project.now in
    let q = c.args.question.now in
    let form = c.args.form in
    let d : Details = c.details_of-details.result in
    let same : d ≡ details_of (seen_command c.args.command) c.args.limits.now c.args.groups.now = c.details_of-details.ensures in
    prints gives old new layout q (λ p. HoldsOfGiven (reading gives) old new layout (IsNamedBy form q d p)) _ _ _
    (λ p h. holds gives old new layout (IsNamedBy form q (details_of (seen_command c.args.command) c.args.limits.now c.args.groups.now) p)
    (subst (λ (x : Details). HoldsOfGiven (reading gives) old new layout (IsNamedBy form q x p)) same h))
    c.run_named-ended.ensures.written c.run_named-ended.ensures.unread
returns-clause-printed g c Promise notes =
    let gives = g.I.Inputs.gives in
    let old = c.args.files in
    let new = c.run_named-ended.result.1 in
    let layout = c.args.project.now in
    let q = c.args.question.now in
    let form = c.args.form in
    let d : Details = c.details_of-details.result in
    let same : d ≡ details_of (seen_command c.args.command) c.args.limits.now c.args.groups.now = c.details_of-details.ensures in
    prints gives old new layout q (λ p. HoldsOfGiven (reading gives) old new layout (λ _ listing. NamedHeadline form q d p listing)) _ _ _
    (λ p h. holds gives old new layout (λ _ listing. NamedHeadline form q (details_of (seen_command c.args.command) c.args.limits.now c.args.groups.now) p listing)
    (subst (λ (x : Details). HoldsOfGiven (reading gives) old new layout (λ _ listing. NamedHeadline form q x p listing)) same h))
    c.run_named-ended.ensures.headline c.run_named-ended.ensures.unread
