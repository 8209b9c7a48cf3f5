use Rattle.std.proofs.Common.{◌∙◌, ◌++◌, Bool, List, [], ◌∷◌, ap, false, filter, slice_index_or, sym, ℕ}
use Rattle.inc_answers.proofs.NameLemmas.{filter_more}
use Rattle.inc_answers.proofs.named_files.flagged_files.Goals as goal

pub loop-place-preserved : goal.loop-place-preserved
loop-place-preserved c =
    let p : ℕ → Bool = λ f. slice_index_or c.args.flags.now f false in
    c.in_ok-add_flagged.ensures ∙ ap (λ (fs : List ℕ). fs ++ filter p (c.loop-place.place ∷ [])) c.loop-place.invariant ∙ sym (filter_more p c.loop-place.place)
