-- Edges that are flagged one after the other, and chains of them.
use Rattle.std.proofs.Common.{◌≡◌, ◌∙◌, ℕ, ◌+◌, ◌<◌, Bool, List, [], ◌∷◌, ◌++◌, Some, drop, get_or, length, refl, ap, subst, sym}
use Rattle.std.specs.Prelude.{flat_map, slice_get}
use Rattle.std.proofs.lemmas.List.{append-nil, append_assoc, drop_more}
use Rattle.std.proofs.lemmas.Option.{get_or_from_slice_get, slice_get-get_or}
use Rattle.std.specs.List.{All}
use Rattle.inc_graph.specs.Cuts.{Counted}
use Rattle.inc_graph.specs.FileSets.{AreFlags}

-- flags of some edges are those of more now; those that are left lead to those of all
abbrev pub Flagging : (old now : List Bool) → (left all : List ℕ) → Type 0
Flagging old now left all = (done : List ℕ) → AreFlags done old → (d : List ℕ) × AreFlags d now × (d ++ left ≡ done ++ all)

pub flagging_begins : (old : List Bool) (all : List ℕ) → Flagging old old all all
flagging_begins old all done are = (done, are, refl)

pub flagging_goes_on : (old now new : List Bool) (xs left all : List ℕ) → ((d : List ℕ) → AreFlags d now → AreFlags (d ++ xs) new) → Flagging old now (xs ++ left) all
    → Flagging old new left all
flagging_goes_on old now new xs left all more before done are =
    let m = before done are in (m.0 ++ xs, more m.0 m.1, append_assoc m.0 xs left ∙ m.2)

pub flagging_ends : (old now : List Bool) (left all : List ℕ) → left ≡ [] → Flagging old now left all → (done : List ℕ) → AreFlags done old → AreFlags (done ++ all) now
flagging_ends old now left all none before done are =
    let m = before done are in
    let same : m.0 ≡ done ++ all = sym (append-nil m.0) ∙ ap (λ (l : List ℕ). m.0 ++ l) (sym none) ∙ m.2 in
    subst (λ (l : List ℕ). AreFlags l now) same m.1

-- the number at a place, and those behind it
pub flagging_next : (old now new : List Bool) (xs all : List ℕ) (place x : ℕ) → place < length xs → x ≡ get_or xs place x
    → ((d : List ℕ) → AreFlags d now → AreFlags (d ++ x ∷ []) new) → Flagging old now (drop place xs) all → Flagging old new (drop (place + 1) xs) all
flagging_next old now new xs all place x low at more before =
    let here : drop place xs ≡ x ∷ drop (place + 1) xs = drop_more xs place x low ∙ ap (λ (y : ℕ). y ∷ drop (place + 1) xs) (sym at) in
    flagging_goes_on old now new (x ∷ []) (drop (place + 1) xs) all more (subst (λ (l : List ℕ). Flagging old now l all) here before)

-- the chain at a place, and those behind it
pub flagging_chain : {X : Type 0} (chain : X → List ℕ) (old now new : List Bool) (cs : List X) (all : List ℕ) (place : ℕ) (c : X) → place < length cs → slice_get cs place ≡ Some c
    → ((d : List ℕ) → AreFlags d now → AreFlags (d ++ chain c) new) → Flagging old now (flat_map chain (drop place cs)) all → Flagging old new (flat_map chain (drop (place + 1) cs)) all
flagging_chain chain old now new cs all place c low at more before =
    let here : drop place cs ≡ c ∷ drop (place + 1) cs =
    drop_more cs place c low ∙ ap (λ y. y ∷ drop (place + 1) cs) (get_or_from_slice_get cs place c c at) in
    flagging_goes_on old now new (chain c) (flat_map chain (drop (place + 1) cs)) all more (subst (λ l. Flagging old now (flat_map chain l) all) here before)

-- the same of a list that is gone through by its elements
pub flagging_item : {X : Type 0} (chain : X → List ℕ) (old now new : List Bool) (cs : List X) (all : List ℕ) (place : ℕ) (c : X) → place < length cs → c ≡ get_or cs place c
    → ((d : List ℕ) → AreFlags d now → AreFlags (d ++ chain c) new) → Flagging old now (flat_map chain (drop place cs)) all → Flagging old new (flat_map chain (drop (place + 1) cs)) all
flagging_item chain old now new cs all place c low at more before =
    flagging_chain chain old now new cs all place c low (slice_get-get_or cs place c low ∙ ap (λ x. Some x) (sym at)) more before

-- the chain at a place
pub counted_at : (cs : List Counted) (place : ℕ) → place < length cs → (c : Counted) × (slice_get cs place ≡ Some c)
counted_at cs place low = let none : Counted = record { chain = []; count = 0 } in (get_or cs place none, slice_get-get_or cs place none low)

pub counted_edges : (edges : ℕ) (cs : List Counted) (place : ℕ) (c : Counted) → place < length cs → slice_get cs place ≡ Some c
    → All (λ (x : Counted). All (λ i. i < edges) x.chain) cs → All (λ i. i < edges) c.chain
counted_edges edges cs place c low at each = subst (λ (x : Counted). All (λ i. i < edges) x.chain) (get_or_from_slice_get cs place c c at) (each place c low)
