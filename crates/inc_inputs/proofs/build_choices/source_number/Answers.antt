use Rattle.std.proofs.Common.{◌∙◌, ℕ, List, ap, bytes_eq}
use Rattle.std.specs.Prelude.{position}
use Rattle.inc_build.specs.Paths.{path_from}
use Rattle.inc_inputs.specs.Views.{ground_in}
use Rattle.inc_inputs.proofs.build_choices.source_number.Goals as goal

pub returns : goal.returns
returns c =
    c.source_number.ensures
    ∙ ap (λ (p : List ℕ). position (bytes_eq p) (ground_in c.args.ground.now).build.sources)
    (c.deref-2.ensures.value ∙ c.in_ok-path.ensures ∙ ap (λ (h : List ℕ). path_from h c.args.word.now) c.deref.ensures.value)
