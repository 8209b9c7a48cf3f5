-- Walks of trees: a step, and how many there are left.
use Rattle.std.proofs.Common.{◌≡◌, ℕ, zero, suc, ◌+◌, ◌<◌, ◌≤◌, Bool, true, false, not, ◌||◌, List, [], ◌∷◌, ◌++◌, All, filter, length, get_or, refl, sym, ap, ◌∙◌, inl, inr, arith}
use Rattle.std.specs.Prelude.{◌==◌}
use Rattle.std.proofs.lemmas.Bool.{cases_Bool, cond-true, cond-false, or_right, eq-eqb, eqb-true, false≢true}
use Rattle.std.proofs.lemmas.List.{length-append, length-map, map-append}
use Rattle.std.proofs.lemmas.List.Elements.{All-append, All-map, All-nil, All-cons, All-head, All-tail}
use Rattle.std.proofs.lemmas.List.Folds.{list_any-append}
use Rattle.inc_graph.specs.declared.graphs.Edge as declared
use Rattle.inc_graph.specs.IncludeGraph.{Edge, Graph, IsSound}
use Rattle.inc_graph.specs.Indexes.{edges_leaving}
use Rattle.inc_graph.specs.Members.{is_member}
use Rattle.inc_graph.specs.Views.{numbered_from}
use Rattle.inc_graph.proofs.Members.{member_of_one}
use Rattle.inc_cost.specs.Trees.{IsWalking, child, children, files_in, is_met, left, steps_left, walked}
use Rattle.inc_cost.specs.declared.trees.Node.{Node}
use Rattle.inc_cost.proofs.SearchSteps.{item_inside}

file_of : Node → ℕ
file_of n = n.file

-- a file is met where it was, or is that of the node at the end
pub met_push : (tree : List Node) (n : Node) (f : ℕ) → is_met (tree ++ n ∷ []) f ≡ (is_met tree f || (n.file == f))
met_push tree n f =
    ap (is_member f) (map-append (λ (x : Node). x.file) tree (n ∷ [])) ∙ list_any-append (λ m. m == f) (files_in tree) (n.file ∷ [])
    ∙ ap (λ b. is_met tree f || b) (member_of_one n.file f)

pub met_there : (tree : List Node) (n : Node) (f : ℕ) → n.file ≡ f → is_met (tree ++ n ∷ []) f ≡ true
met_there tree n f is = met_push tree n f ∙ or_right (is_met tree f) (n.file == f) (eq-eqb n.file f is)

pub met_other : (tree : List Node) (n : Node) (f : ℕ) → (n.file == f) ≡ false → is_met (tree ++ n ∷ []) f ≡ is_met tree f
met_other tree n f other = met_push tree n f ∙ none (is_met tree f) (n.file == f) other
  where
    none : (a b : Bool) → b ≡ false → (a || b) ≡ a
    none true b e = refl
    none false b e = e

---- how many steps are left

-- each edge that leaves the file of a node is left before, and no longer once the node is in the tree
abbrev IsLeftWith : (tree : List Node) (w : Node) (n : ℕ) (es : List Edge) → Type 0
IsLeftWith tree w n es =
    length (filter (λ (e : declared.Edge). e.from == w.file) (numbered_from n es)) + length (filter (λ (e : Edge). not (is_met (tree ++ w ∷ []) e.from)) es)
    ≡ length (filter (λ (e : Edge). not (is_met tree e.from)) es)

leaving_left : (tree : List Node) (w : Node) (n : ℕ) (es : List Edge) → is_met tree w.file ≡ false → IsLeftWith tree w n es
leaving_left tree w n [] out = refl
leaving_left tree w n (e ∷ es) out = by_test (leaving_left tree w (n + 1) es out) (e.from == w.file) refl
  where
    apart : (a b : ℕ) → (a == b) ≡ false → (b == a) ≡ false
    apart a b other = elim (cases_Bool (b == a)) [
      | inl is ↦ absurd (false≢true (sym other ∙ eq-eqb a b (sym (eqb-true b a is))))
      | inr not' ↦ not'
    ]

    by_met : IsLeftWith tree w (n + 1) es → (b : Bool) → is_met tree e.from ≡ b → (e.from == w.file) ≡ false → is_met (tree ++ w ∷ []) e.from ≡ b → IsLeftWith tree w n (e ∷ es)
    by_met rest true met other now = rw (met, other, now) rest
    by_met rest false met other now = rw (met, other, now) (let r = rest in omega (arith, r))

    by_test : IsLeftWith tree w (n + 1) es → (b : Bool) → (e.from == w.file) ≡ b → IsLeftWith tree w n (e ∷ es)
    by_test rest true same =
        let is : w.file ≡ e.from = sym (eqb-true e.from w.file same) in
        let before : is_met tree e.from ≡ false = ap (is_met tree) (sym is) ∙ out in
        rw (same, before, met_there tree w e.from is) (let r = rest in omega (arith, r))
    by_test rest false other =
        let turned : (w.file == e.from) ≡ false = apart e.from w.file other in
        by_met rest (is_met tree e.from) refl other (met_other tree w e.from turned)

pub left_more : (g : Graph) (tree : List Node) (w : Node) → is_met tree w.file ≡ false → length (children g w) + left g (tree ++ w ∷ []) ≡ left g tree
left_more g tree w out = ap (λ (k : ℕ). k + left g (tree ++ w ∷ [])) (length-map (edges_leaving g.edges w.file) (child w.depth)) ∙ leaving_left tree w 0 g.edges out

---- a step

pub walked_past : (g : Graph) (n : ℕ) (tree : List Node) (w : Node) (ws : List Node) → is_met tree w.file ≡ true → walked g (suc n) tree (w ∷ ws) ≡ walked g n tree ws
walked_past g n tree w ws met = cond-true (is_met tree w.file) (walked g n tree ws) (walked g n (tree ++ w ∷ []) (children g w ++ ws)) met

pub walked_into : (g : Graph) (n : ℕ) (tree : List Node) (w : Node) (ws : List Node) → is_met tree w.file ≡ false
    → walked g (suc n) tree (w ∷ ws) ≡ walked g n (tree ++ w ∷ []) (children g w ++ ws)
walked_into g n tree w ws out = cond-false (is_met tree w.file) (walked g n tree ws) (walked g n (tree ++ w ∷ []) (children g w ++ ws)) out

pub walked_end : (g : Graph) (n : ℕ) (tree : List Node) → walked g n tree [] ≡ tree
walked_end g zero tree = refl
walked_end g (suc n) tree = refl

pub steps_past : (g : Graph) (tree : List Node) (w : Node) (ws : List Node) → steps_left g tree (w ∷ ws) ≡ suc (steps_left g tree ws)
steps_past g tree w ws = omega arith

pub steps_into : (g : Graph) (tree : List Node) (w : Node) (ws : List Node) → is_met tree w.file ≡ false → steps_left g tree (w ∷ ws) ≡ suc (steps_left g (tree ++ w ∷ []) (children g w ++ ws))
steps_into g tree w ws out =
    let more = left_more g tree w out in
    let long = length-append (children g w) ws in
    omega arith

---- children

leaving_low : (g : Graph) (file : ℕ) → IsSound g → All (λ (e : declared.Edge). e.to < g.files) (edges_leaving g.edges file)
leaving_low g file sound = λ k d low.
    let e = get_or (edges_leaving g.edges file) k d in
    (item_inside g file k (edges_leaving g.edges file) e sound refl low (get_or_self (edges_leaving g.edges file) k d low)).1
  where
    get_or_self : (es : List declared.Edge) (k : ℕ) (d : declared.Edge) → k < length es → get_or es k d ≡ get_or es k (get_or es k d)
    get_or_self [] k d low = absurd (omega arith)
    get_or_self (e ∷ es) zero d low = refl
    get_or_self (e ∷ es) (suc k) d low = get_or_self es k d (omega arith)

pub children_low : (g : Graph) (w : Node) → IsSound g → All (λ (n : Node). n.file < g.files) (children g w)
children_low g w sound = All-map (λ (n : Node). n.file < g.files) (child w.depth) (edges_leaving g.edges w.file) (leaving_low g w.file sound)

pub children_shallow : (g : Graph) (w : Node) (most : ℕ) → w.depth < most → All (λ (n : Node). n.depth ≤ most) (children g w)
children_shallow g w most low = All-map (λ (n : Node). n.depth ≤ most) (child w.depth) (edges_leaving g.edges w.file) (λ k d within. omega arith)

---- the walk

-- the first that waits is passed over
pub walking_past : (g : Graph) (source : ℕ) (files room : ℕ) (tree : List Node) (w : Node) (ws : List Node) → is_met tree w.file ≡ true
    → IsWalking g source (record { files = files; room = room; tree = tree; waiting = w ∷ ws }) → IsWalking g source (record { files = files; room = room; tree = tree; waiting = ws })
walking_past g source files room tree w ws met h = record {
  sized = record { files = h.sized.files; room = h.sized.room };
  rest = sym (ap (λ (n : ℕ). walked g n tree (w ∷ ws)) (steps_past g tree w ws) ∙ walked_past g (steps_left g tree ws) tree w ws met) ∙ h.rest;
  room = (let old = h.room in omega arith);
  low = All-tail (λ (n : Node). n.file < g.files) w ws h.low;
  shallow = All-tail (λ (n : Node). n.depth ≤ length tree) w ws h.shallow;
}

-- or goes into the tree
pub walking_into : (g : Graph) (source : ℕ) (files room : ℕ) (tree : List Node) (w : Node) (ws : List Node) → IsSound g → is_met tree w.file ≡ false
    → IsWalking g source (record { files = files; room = room; tree = tree; waiting = w ∷ ws })
    → IsWalking g source (record { files = files; room = room; tree = tree ++ w ∷ []; waiting = children g w ++ ws })
walking_into g source files room tree w ws sound out h =
    let steps = steps_into g tree w ws out in
    let long : length (tree ++ w ∷ []) ≡ length tree + 1 = length-append tree (w ∷ []) in
    let here : w.depth ≤ length tree = All-head (λ (n : Node). n.depth ≤ length tree) w ws h.shallow in
    record {
      sized = record { files = h.sized.files; room = h.sized.room };
      rest =
          sym (ap (λ (n : ℕ). walked g n tree (w ∷ ws)) steps ∙ walked_into g (steps_left g (tree ++ w ∷ []) (children g w ++ ws)) tree w ws out) ∙ h.rest;
      room = (let old = h.room in omega arith);
      low = All-append (λ (n : Node). n.file < g.files) (children g w) ws (children_low g w sound) (All-tail (λ (n : Node). n.file < g.files) w ws h.low);
      shallow =
          All-append (λ (n : Node). n.depth ≤ length (tree ++ w ∷ [])) (children g w) ws (children_shallow g w (length (tree ++ w ∷ [])) (omega arith))
          (λ k d low. let x = All-tail (λ (n : Node). n.depth ≤ length tree) w ws h.shallow k d low in omega arith);
    }

-- it begins with the source
pub walking_begun : (g : Graph) (source files room : ℕ) → files ≡ g.files → room ≡ suc (length g.edges) → source < g.files
    → IsWalking g source (record { files = files; room = room; tree = []; waiting = record { file = source; depth = 0 } ∷ [] })
walking_begun g source files room sized long low =
    let all = all_left g.edges in
    let steps : steps_left g [] (record { file = source; depth = 0 } ∷ []) ≡ suc (length g.edges) = omega (arith, all) in
    record {
      sized = record { files = sized; room = long };
      rest = ap (λ (n : ℕ). walked g n [] (record { file = source; depth = 0 } ∷ [])) steps;
      room = omega arith;
      low = All-cons (λ (n : Node). n.file < g.files) (record { file = source; depth = 0 }) [] low (All-nil (λ (n : Node). n.file < g.files));
      shallow = All-cons (λ (n : Node). n.depth ≤ 0) (record { file = source; depth = 0 }) [] (omega arith) (All-nil (λ (n : Node). n.depth ≤ 0));
    }
  where
    all_left : (es : List Edge) → length (filter (λ (e : Edge). not (is_met [] e.from)) es) ≡ length es
    all_left [] = refl
    all_left (e ∷ es) = ap suc (all_left es)
