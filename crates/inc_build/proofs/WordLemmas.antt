-- The items of words, one word after the other.
use Rattle.std.proofs.Common.{◌≡◌, ℕ, ◌≤◌, Bool, true, false, List, [], ◌∷◌, ◌++◌, Option, Some, None, length, get_or, drop, map, option_map, refl, sym, ap, ◌∙◌, arith}
use Rattle.inc_build.specs.Views.{seen_item, seen_reading, seen_word}
use Rattle.inc_build.specs.declared.commands.Word.{Word}
use Rattle.inc_build.specs.declared.compiler_words.Item.{Item as ItemValue}
use Rattle.std.specs.Prelude.{if◌then◌else◌}
use Rattle.inc_build.specs.CompilerWords.{Item, first, items_of, kept, left_after, reading}

by_taken : (i : Option Item) (taken : Bool) (next : List ℕ) (more : List (List ℕ))
    → (if taken then kept i (items_of more) else kept i (items_of (next ∷ more))) ≡ kept i (items_of (left_after taken (next ∷ more)))
by_taken i true next more = refl
by_taken i false next more = refl

none_left : (taken : Bool) → items_of (left_after taken []) ≡ []
none_left true = refl
none_left false = refl

-- a word, and what is left after it
pub items_step : (w : List ℕ) (ws : List (List ℕ)) → items_of (w ∷ ws) ≡ kept (reading w (first ws)).0 (items_of (left_after (reading w (first ws)).1 ws))
items_step w [] = ap (kept (reading w None).0) (sym (none_left (reading w None).1))
items_step w (next ∷ more) = by_taken (reading w (Some next)).0 (reading w (Some next)).1 next more

cut_first : (left : List Word) (d : Word) → 1 ≤ length left → map seen_word left ≡ seen_word (get_or left 0 d) ∷ map seen_word (drop 1 left)
cut_first [] d some = absurd (omega (arith, some))
cut_first (w ∷ ws) d some = refl

-- the items so far and those of the rest are all, after a word as before it
pub kept_on : (all : List Item) (old new : List ItemValue) (left rest more : List Word) (d : Word) (w : List ℕ) (next : Option (List ℕ)) (r : Option ItemValue × Bool)
    → 1 ≤ length left → w ≡ seen_word (get_or left 0 d) → rest ≡ drop 1 left → next ≡ first (map seen_word rest) → seen_reading r ≡ reading w next
    → ((is : List Item) → map seen_item new ++ is ≡ map seen_item old ++ kept (option_map seen_item r.0) is)
    → map seen_word more ≡ left_after r.1 (map seen_word rest)
    → map seen_item old ++ items_of (map seen_word left) ≡ all
    → map seen_item new ++ items_of (map seen_word more) ≡ all
kept_on all old new left rest more d w next r some word after nexts read pushed left_is so_far =
    let ws = map seen_word rest in
    let taken : reading w next ≡ reading w (first ws) = ap (reading w) nexts in
    let by = read ∙ taken in
    let whole : w ∷ ws ≡ map seen_word left = rw (word, after) (sym (cut_first left d some)) in
    pushed (items_of (map seen_word more))
    ∙ ap (λ l. map seen_item old ++ kept (option_map seen_item r.0) (items_of l)) left_is
    ∙ ap (λ (x : Option Item × Bool). map seen_item old ++ kept x.0 (items_of (left_after x.1 ws))) by
    ∙ ap (λ l. map seen_item old ++ l) (sym (items_step w ws) ∙ ap items_of whole)
    ∙ so_far
