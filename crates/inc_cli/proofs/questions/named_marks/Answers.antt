use Rattle.std.proofs.Common.{List, map, ℕ, subst}
use Rattle.std.specs.Borrow.{Bor}
use Rattle.inc_args.specs.Views.{seen_limits, seen_question}
use Rattle.inc_inputs.specs.NamedPlaces.{named_places}
use Rattle.inc_inputs.specs.Steps.{Comes}
use Rattle.inc_inputs.specs.Views.{seen_marked}
use Rattle.inc_cli.proofs.questions.named_marks.Goals as goal

pub returns : goal.returns
returns g c =
    let q = seen_question c.args.asking.question.now in
    let l = seen_limits c.args.asking.limits.now in
    subst (λ (ws : List (Bor (List ℕ))). Comes (named_places g.I.Inputs.gives (record { layout = c.args.project.now; written = map (λ p. p.now) ws; language = c.args.setup.now.language })
    q l c.args.marks.without.items c.args.marks.fixed.items) c.args.inputs.now (seen_marked c.named_places.result) c.named_places.new.inputs)
    c.as_slice-written.ensures.value c.named_places.ensures
