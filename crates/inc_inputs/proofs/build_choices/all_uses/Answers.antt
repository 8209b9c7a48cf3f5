use Rattle.std.proofs.Common.{◌∙◌, ◌++◌, [], ℕ, List, ap, get_or}
use Rattle.inc_build.specs.declared.builds.Use.{Use}
use Rattle.inc_inputs.specs.Views.{ground_in}
use Rattle.inc_inputs.proofs.ChoiceLemmas.{uses_more}
use Rattle.inc_inputs.proofs.build_choices.all_uses.Goals as goal

pub loop-number-preserved : goal.loop-number-preserved
loop-number-preserved c =
    let h : ℕ → List Use = λ n. get_or (ground_in c.args.ground.now).build.uses n [] in
    c.in_ok-extend_from_slice.ensures.items ∙ ap (λ (us : List Use). c.loop-number.uses.items ++ us) c.uses.ensures
    ∙ ap (λ (us : List Use). us ++ h c.loop-number.number) c.loop-number.invariant ∙ uses_more h c.loop-number.number
