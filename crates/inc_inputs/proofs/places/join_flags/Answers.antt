use Rattle.std.proofs.Common.{◌≡◌, ◌∙◌, ◌++◌, ◌∷◌, [], Bool, List, ℕ, ap, ap₂, arith, false, map, rules, sym}
use Rattle.std.proofs.Math.Path.{fun_ext}
use Rattle.std.proofs.lemmas.List.FromFn.{map-range_with_len_more}
use Rattle.std.specs.Prelude.{◌&&◌, ◌||◌, not, slice_index_or}
use Rattle.std.specs.List.{range_with_len}
use Rattle.inc_inputs.proofs.places.join_flags.Goals as goal

pub loop-place-preserved : goal.loop-place-preserved
loop-place-preserved c =
    let p : ℕ → Bool = λ f. slice_index_or c.args.kept.now f false || (c.args.has_others && not (slice_index_or c.args.others.now f false)) in
    c.in_ok-push.ensures.items ∙ ap (λ (b : Bool). c.loop-place.flags.items ++ b ∷ []) c.is_kept.ensures
    ∙ ap (λ (bs : List Bool). bs ++ p c.loop-place.place ∷ []) c.loop-place.invariant
    ∙ sym (map-range_with_len_more p 0 c.loop-place.place c.loop-place.place (omega arith))

pub returns : goal.returns
returns c = λ ks os kept others.
    let done : c.loop-place.flags.items ≡ map (λ f. slice_index_or c.args.kept.now f false || (c.args.has_others && not (slice_index_or c.args.others.now f false))) (range_with_len 0 c.args.count) = search rules in
    done ∙ ap (λ (p : ℕ → Bool). map p (range_with_len 0 c.args.count)) (fun_ext (λ f. ap₂ (λ a b. a || (c.args.has_others && not b)) (kept f) (others f)))
