use Rattle.std.proofs.Common.{rules, ◌≡◌, ◌<◌, ◌+◌, ◌++◌, List, [], ◌∷◌, ℕ, Bool, not, map, take, length, get_or, sym, ap, ◌∙◌, arith}
use Rattle.std.specs.Prelude.{◌==◌}
use Rattle.std.proofs.lemmas.List.{take_more, take_all, map-append, take-map, length-map}
use Rattle.inc_graph.proofs.QueueLemmas.{kept_reached}
use Rattle.inc_graph.proofs.search.Search.reached.Goals as goal

one_more : (xs : List ℕ) (i x : ℕ) (b : Bool) (done more : List Bool) → i < length xs → x ≡ get_or xs i x → b ≡ not (x == 0)
    → done ≡ take i (map (λ m. not (m == 0)) xs) → more ≡ done ++ b ∷ [] → more ≡ take (i + 1) (map (λ m. not (m == 0)) xs)
one_more xs i x b done more within read is so_far pushed =
    let f : ℕ → Bool = λ m. not (m == 0) in
    pushed ∙ ap (λ (y : Bool). done ++ y ∷ []) is ∙ ap (λ (l : List Bool). l ++ f x ∷ []) (so_far ∙ take-map f i xs)
    ∙ sym (take-map f (i + 1) xs ∙ ap (map f) (take_more xs i x within ∙ ap (λ (y : ℕ). take i xs ++ y ∷ []) (sym read)) ∙ map-append f (take i xs) (x ∷ []))

pub loop-place-preserved : goal.loop-place-preserved
loop-place-preserved g c =
    one_more c.as_slice-place-items.result.now c.loop-place.place-index (get_or c.as_slice-place-items.result.now c.loop-place.place-index 0) _ c.loop-place.reached.items c.push.new.self.items
    c.loop-place-test.true (search rules) (search rules) c.loop-place.invariant c.in_ok-push.ensures.items

pub returns : goal.returns
returns g c =
    let marks = c.self.inside.places.items in
    let f : ℕ → Bool = λ m. not (m == 0) in
    rw (← c.self.view_is)
    (c.loop-place.invariant ∙ take_all c.loop-place.place-index _ (let l = length-map c.as_slice-place-items.result.now f in omega (arith, c.loop-place-test.false)) ∙ ap (λ (l : List ℕ). map f l) c.as_slice-place-items.ensures.value
    ∙ kept_reached c.self.inside.queue.items marks c.self.invariant)
