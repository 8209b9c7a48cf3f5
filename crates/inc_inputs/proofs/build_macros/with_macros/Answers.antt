use Rattle.std.proofs.Common.{◌≡◌, ◌∙◌, ◌++◌, ℕ, List, ap, map, rules}
use Rattle.std.proofs.lemmas.Fn.{filter_same}
use Rattle.std.proofs.lemmas.List.{map-append}
use Rattle.std.specs.Borrow.{Bor}
use Rattle.std.specs.Prelude.{filter, reverse}
use Rattle.inc_inputs.specs.BuildMacros.{kept_in, stays, undefined_in}
use Rattle.inc_inputs.specs.Views.{macro_of}
use Rattle.inc_inputs.proofs.MacroLemmas.{left_all, map_kept, map_reverse}
use Rattle.inc_inputs.proofs.build_macros.with_macros.Goals as goal

pub returns : goal.returns
returns c =
    let ms = map macro_of c.args.macros.now in
    let bytes : Bor (List ℕ) → List ℕ = λ w. w.now in
    let words = c.in_ok-kept.kept.words.items in
    let kept : c.retain.new.self.items ≡ filter (λ (w : Bor (List ℕ)). stays (undefined_in ms) w.now) c.args.words.items =
    filter_same _ _ _ (λ x b f' k. search rules) _ _ c.retain.ensures.filtered in
    let more : c.deref.result.now ≡ reverse words = search rules in
    ap (map bytes) (c.in_ok-extend_from_slice.ensures.items ∙ ap (λ (ws : List (Bor (List ℕ))). c.retain.new.self.items ++ ws) more)
    ∙ map-append bytes c.retain.new.self.items (reverse words)
    ∙ ap (λ (ws : List (List ℕ)). map bytes c.retain.new.self.items ++ ws) (map_reverse bytes words ∙ ap (λ (ws : List (List ℕ)). reverse ws) c.in_ok-kept.ensures.words)
    ∙ ap (λ (ws : List (Bor (List ℕ))). map bytes ws ++ reverse (kept_in ms)) kept
    ∙ ap (λ (ws : List (List ℕ)). ws ++ reverse (kept_in ms)) (map_kept bytes (stays (undefined_in ms)) c.args.words.items)
    ∙ left_all c.args.macros.now (map bytes c.args.words.items)
