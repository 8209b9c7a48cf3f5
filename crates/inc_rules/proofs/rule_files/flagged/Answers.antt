use Rattle.std.proofs.Common.{◌∙◌, ◌++◌, ◌∷◌, [], List, ℕ, ap, false, filter, slice_index_or, sym}
use Rattle.inc_rules.proofs.JudgeLemmas.{place_more}
use Rattle.inc_rules.proofs.rule_files.flagged.Goals as goal

pub loop-place-preserved : goal.loop-place-preserved
loop-place-preserved c =
    c.in_ok-push_flagged.ensures
    ∙ ap (λ (files : List ℕ). files ++ filter (λ f. slice_index_or c.args.flags.now f false) (c.loop-place.place ∷ [])) c.loop-place.invariant
    ∙ sym (place_more (λ f. slice_index_or c.args.flags.now f false) c.loop-place.place)
