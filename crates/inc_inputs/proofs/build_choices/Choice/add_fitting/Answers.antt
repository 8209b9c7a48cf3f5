use Rattle.std.proofs.Common.{◌<◌, ◌∙◌, [], List, ap, get_or, length, rules}
use Rattle.std.proofs.lemmas.Option.{slice_get-get_or}
use Rattle.inc_globs.specs.Globs.{Piece}
use Rattle.inc_inputs.specs.BuildProjects.{with_fit}
use Rattle.inc_inputs.specs.Views.{chosen_in, ground_in}
use Rattle.inc_inputs.proofs.ChoiceLemmas.{fit_more}
use Rattle.inc_inputs.proofs.build_choices.Choice.add_fitting.Goals as goal

pub loop-number-preserved : goal.loop-number-preserved
loop-number-preserved c =
    let d = ground_in c.args.ground.now in
    let n = c.loop-number.number in
    let sources = d.build.sources in
    let low : n < length sources = search rules in
    let source = get_or sources n [] in
    let old = chosen_in c.loop-number.self in
    let added = c.in_ok-add_number.ensures.added source (slice_get-get_or sources n [] low) in
    record {
      same = c.in_ok-add_number.ensures.same ∙ c.loop-number.invariant.same;
      rest =
          fit_more d c.args.files.now c.args.glob n sources old (chosen_in c.add_number.new.self) low
          (added ∙ ap (λ (p : List Piece). with_fit d c.args.files.now p n source old) c.loop-number.invariant.same)
          ∙ c.loop-number.invariant.rest;
    }
