-- The tokens of an expansion, and what they cost, one by one.
use Rattle.std.proofs.Common.{◌≡◌, ℕ, ◌+◌, ◌<◌, List, [], ◌∷◌, ◌++◌, map, length, drop, get_or, sym, ap, ◌∙◌, append_assoc}
use Rattle.std.proofs.lemmas.List.{map-append, length-append}
use Rattle.inc_expand.specs.declared.carried.Carried.{Carried}
use Rattle.inc_expand.specs.declared.items.Item.{Item as ItemValue}
use Rattle.inc_expand.specs.declared.pastes.Segment.{Segment}
use Rattle.inc_expand.specs.Sets.{Sets}
use Rattle.inc_expand.specs.Expansion.{item_of}
use Rattle.inc_expand.specs.Carriers.{carrier, carriers}
use Rattle.inc_expand.specs.Items.{seen_item}
use Rattle.inc_expand.specs.Joins.{segment_tokens, tokens_in}
use Rattle.inc_expand.proofs.CallSteps.{drop-at}

pub items-more : (s : Sets) (all : List Carried) (old new : List ItemValue) (item : ItemValue) (i : ℕ) (d : Carried) → i < length all → new ≡ old ++ item ∷ [] →
    seen_item item ≡ item_of (carrier s (get_or all i d)) → map seen_item old ++ map item_of (carriers s (drop i all)) ≡ map item_of (carriers s all) →
    map seen_item new ++ map item_of (carriers s (drop (i + 1) all)) ≡ map item_of (carriers s all)
items-more s all old new item i d l e same h =
    ap (λ xs. xs ++ map item_of (carriers s (drop (i + 1) all))) (ap (map seen_item) e ∙ map-append seen_item old (item ∷ []))
    ∙ append_assoc (map seen_item old) (seen_item item ∷ []) (map item_of (carriers s (drop (i + 1) all)))
    ∙ ap (λ x. map seen_item old ++ x ∷ map item_of (carriers s (drop (i + 1) all))) same
    ∙ ap (λ ts. map seen_item old ++ map item_of (carriers s ts)) (sym (drop-at all i d l)) ∙ h

-- how many tokens the segments from a place on have
pub segments-left : (all : List Segment) (i : ℕ) (d : Segment) → i < length all →
    length (tokens_in (drop i all)) ≡ length (segment_tokens (get_or all i d)) + length (tokens_in (drop (i + 1) all))
segments-left all i d l =
    ap (λ xs. length (tokens_in xs)) (drop-at all i d l) ∙ length-append (segment_tokens (get_or all i d)) (tokens_in (drop (i + 1) all))
