use Rattle.std.proofs.Common.{◌∙◌, ◌++◌, ◌∷◌, [], List, ℕ, ap, false, filter, slice_index_or, sym}
use Rattle.inc_rules.proofs.JudgeLemmas.{place_more}
use Rattle.inc_rules.proofs.breaks.flagged_edges.Goals as goal

pub loop-place-preserved : goal.loop-place-preserved
loop-place-preserved c =
    c.in_ok-push_flagged.ensures
    ∙ ap (λ (edges : List ℕ). edges ++ filter (λ i. slice_index_or c.args.flags.now i false) (c.loop-place.place ∷ [])) c.loop-place.invariant
    ∙ sym (place_more (λ i. slice_index_or c.args.flags.now i false) c.loop-place.place)
