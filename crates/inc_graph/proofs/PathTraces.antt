-- The path to a file of a queue, back from step to step.
use Rattle.std.proofs.Common.{◌≡◌, ℕ, ◌+◌, ◌-◌, ◌<◌, ◌≤◌, List, [], ◌∷◌, ◌++◌, Some, None, length, drop, reverse, sym, ap, ◌∙◌, arith}
use Rattle.std.specs.Prelude.{slice_set}
use Rattle.std.proofs.lemmas.List.{append_assoc, drop-set, length-set, reverse-append}
use Rattle.inc_graph.specs.declared.search.ParentStep.{ParentStep}
use Rattle.inc_graph.specs.declared.search.Visit.{Visit}
use Rattle.inc_graph.specs.Search.{parent_at, path_to}
use Rattle.inc_graph.proofs.QueueLemmas.{AreFalling, path_some, path_none}

-- a path with one step less, and the steps behind it
pub path_back : {S : Type 0} (vs : List (Visit S)) (at : ℕ) (p : ParentStep S) (behind : List S) → AreFalling vs → parent_at vs at ≡ Some p
    → path_to vs at ++ behind ≡ path_to vs p.from ++ p.step ∷ behind
path_back {S} vs at p behind falls there =
    ap (λ (l : List S). l ++ behind) (path_some vs at p falls there) ∙ append_assoc (path_to vs p.from) (p.step ∷ []) behind

pub path_begun : {S : Type 0} (vs : List (Visit S)) (at : ℕ) (behind : List S) → AreFalling vs → parent_at vs at ≡ None → path_to vs at ++ behind ≡ behind
path_begun {S} vs at behind falls there = ap (λ (l : List S). l ++ behind) (path_none vs at falls there)

-- the path so far is from `start` on, and goes on before that to the file at a place
pub record IsTrace {S : Type 0} (vs : List (Visit S)) (old : List S) (place end : ℕ) (steps : List S) (at start : ℕ) : Type 0 where
  -- the place is one of the queue
  pub within : at < length vs
  -- there is room for what is left of the path
  pub room : at ≤ start
  -- it begins before the end
  pub below : start ≤ end
  -- as many steps as there was room for
  pub long : length steps ≡ length old
  -- what is left of the path, and what is there, make the whole
  pub so_far : path_to vs place ++ drop end old ≡ path_to vs at ++ drop start steps

pub trace_step : {S : Type 0} (vs : List (Visit S)) (old : List S) (place end : ℕ) (steps : List S) (at start : ℕ) (p : ParentStep S) → AreFalling vs → parent_at vs at ≡ Some p
    → end ≤ length old → IsTrace vs old place end steps at start → IsTrace vs old place end (slice_set steps (start - 1) p.step) p.from (start - 1)
trace_step {S} vs old place end steps at start p falls there fits t =
    let less = falls at p there in
    let within = t.within in
    let room = t.room in
    let below = t.below in
    let long = t.long in
    let before : start - 1 + 1 ≡ start = omega arith in
    let put : drop (start - 1) (slice_set steps (start - 1) p.step) ≡ p.step ∷ drop start steps =
    drop-set steps (start - 1) p.step (omega arith) ∙ ap (λ (n : ℕ). p.step ∷ drop n steps) before in
    record {
      within = omega arith;
      room = omega arith;
      below = omega arith;
      long = length-set steps (start - 1) p.step ∙ t.long;
      so_far = t.so_far ∙ path_back vs at p (drop start steps) falls there ∙ ap (λ (l : List S). path_to vs p.from ++ l) (sym put);
    }

-- the same, of a list of the steps so far from the last one on
pub path_step : {S : Type 0} (vs : List (Visit S)) (place at : ℕ) (steps more : List S) (p : ParentStep S) → AreFalling vs → parent_at vs at ≡ Some p → more ≡ steps ++ p.step ∷ []
    → path_to vs place ≡ path_to vs at ++ reverse steps → path_to vs place ≡ path_to vs p.from ++ reverse more
path_step {S} vs place at steps more p falls there pushed so_far =
    so_far ∙ path_back vs at p (reverse steps) falls there
    ∙ ap (λ (l : List S). path_to vs p.from ++ l) (sym (reverse-append steps (p.step ∷ [])) ∙ ap (λ (l : List S). reverse l) (sym pushed))
