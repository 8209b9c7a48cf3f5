use Rattle.std.proofs.Common.{◌≡◌, ◌∙◌, ap, length, refl, rules}
use Rattle.std.proofs.lemmas.List.{length-map}
use Rattle.inc_inputs.specs.BuildProjects.{Chosen, after_glob}
use Rattle.inc_inputs.specs.Views.{chosen_in}
use Rattle.inc_inputs.proofs.build_choices.with_fitting.Goals as goal

pub returns-in-Ok : goal.returns-in-Ok
returns-in-Ok c not =
    let old = chosen_in c.args.choice in
    let count : length c.args.choice.sources.items ≡ c.len-count.result = search rules in
    c.after_glob.ensures old (length-map c.args.choice.sources.items _ ∙ count) refl not ∙ ap (λ (k : Chosen). after_glob c.args.word.now old k) c.in-Ok.ensures
