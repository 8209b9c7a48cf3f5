use Rattle.std.proofs.Common.{List, map, ℕ, subst, ap, sym}
use Rattle.std.specs.Borrow.{Bor}
use Rattle.inc_inputs.specs.Baselines.{Baseline, accepted}
use Rattle.inc_inputs.specs.Steps.{Comes}
use Rattle.inc_inputs.specs.Views.{baseline_in, seen_accepted}
use Rattle.inc_cli.specs.Runs.{listed_by}
use Rattle.inc_cli.specs.Views.{opened_in}
use Rattle.inc_cli.proofs.questions.accepted_marks.Goals as goal

pub returns : goal.returns
returns g c =
    let listed = listed_by c.args.setup.now.language (opened_in c.args.opened.now) c.args.project.now in
    subst (λ (b : Baseline). Comes (accepted g.I.Inputs.gives listed b c.args.without.items c.args.notes.items) c.args.inputs.now (seen_accepted c.accepted_places.result) c.accepted_places.new.inputs)
    c.baseline-baseline.ensures
    (subst (λ (ws : List (Bor (List ℕ))). Comes (accepted g.I.Inputs.gives (record { layout = c.args.project.now; written = map (λ p. p.now) ws; language = c.args.setup.now.language })
    (baseline_in c.baseline-baseline.result) c.args.without.items c.args.notes.items) c.args.inputs.now (seen_accepted c.accepted_places.result) c.accepted_places.new.inputs)
    c.as_slice-written.ensures.value c.accepted_places.ensures)
