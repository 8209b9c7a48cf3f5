-- Marks that come twice.
use Rattle.std.proofs.Common.{◌≡◌, ℕ, zero, suc, ◌<◌, Bool, true, false, List, [], ◌∷◌, ◌++◌, ◌||◌, Option, Some, None, length, set, get_or, inl, inr, refl, sym, ap, ◌∙◌, subst, arith}
use Rattle.std.specs.Prelude.{replicate, position}
use Rattle.std.specs.List.{list_any}
use Rattle.std.proofs.lemmas.Bool.{cases_Bool, cases_eq, cond-false}
use Rattle.std.proofs.lemmas.Option.{none-some, same_Some}
use Rattle.std.proofs.lemmas.List.{get_or-set_same, get_or-set_other}
use Rattle.std.proofs.lemmas.List.Folds.{list_any-append}
use Rattle.indexmap.specs.IndexSet.{insert_key}
use Rattle.inc_lookup.specs.Projects.{Layout}
use Rattle.inc_lookup.proofs.ListingLemmas.{position-none-push, position-none-then, position-some-append}
use Rattle.inc_graph.specs.declared.edge_costs.MarkKey.{MarkKey}
use Rattle.inc_graph.specs.EdgeCosts.{mark_of, is_seen}
use Rattle.inc_graph.specs.IncludeGraph.{Graph}
use Rattle.inc_graph.specs.Marks.{Mark}
use Rattle.inc_graph.specs.MarkedEdges.{same_mark, edge_number, are_repeated, first_repeated}
use Rattle.inc_graph.proofs.NamedEdges.{mark_is, same_self, number_within, one_mark}

---- the first mark that equals one before it

or_round : (a b c : Bool) → (a || (b || c)) ≡ ((b || a) || c)
or_round true true c = refl
or_round true false c = refl
or_round false true c = refl
or_round false false c = refl

or_false : (b : Bool) → (b || false) ≡ b
or_false true = refl
or_false false = refl

length-are_repeated : (before ms : List Mark) → length (are_repeated before ms) ≡ length ms
length-are_repeated before [] = refl
length-are_repeated before (m ∷ ms) = ap suc (length-are_repeated (m ∷ before) ms)

-- one more mark
repeated_push : (before ms : List Mark) (m : Mark) → are_repeated before (ms ++ m ∷ []) ≡ are_repeated before ms ++ (list_any (same_mark m) ms || list_any (same_mark m) before) ∷ []
repeated_push before [] m = refl
repeated_push before (k ∷ ms) m =
    ap (λ (bs : List Bool). list_any (same_mark k) before ∷ bs)
    (repeated_push (k ∷ before) ms m ∙ ap (λ (b : Bool). are_repeated (k ∷ before) ms ++ b ∷ []) (or_round (list_any (same_mark m) ms) (same_mark m k) (list_any (same_mark m) before)))

first_push : (ms : List Mark) (m : Mark) → first_repeated (ms ++ m ∷ []) ≡ position (λ b. b) (are_repeated [] ms ++ list_any (same_mark m) ms ∷ [])
first_push ms m = ap (position (λ b. b)) (repeated_push [] ms m ∙ ap (λ (b : Bool). are_repeated [] ms ++ b ∷ []) (or_false (list_any (same_mark m) ms)))

pub still_repeated : (ms : List Mark) (m : Mark) (i : ℕ) → first_repeated ms ≡ Some i → first_repeated (ms ++ m ∷ []) ≡ Some i
still_repeated ms m i is = first_push ms m ∙ position-some-append (λ b. b) (are_repeated [] ms) (list_any (same_mark m) ms ∷ []) i is

pub none_repeated : (ms : List Mark) (m : Mark) → first_repeated ms ≡ None → list_any (same_mark m) ms ≡ false → first_repeated (ms ++ m ∷ []) ≡ None
none_repeated ms m none fresh = first_push ms m ∙ position-none-push (λ b. b) (are_repeated [] ms) (list_any (same_mark m) ms) none fresh

pub now_repeated : (ms : List Mark) (m : Mark) → first_repeated ms ≡ None → list_any (same_mark m) ms ≡ true → first_repeated (ms ++ m ∷ []) ≡ Some (length ms)
now_repeated ms m none seen =
    first_push ms m ∙ position-none-then (λ b. b) (are_repeated [] ms) (list_any (same_mark m) ms) [] none seen ∙ ap (λ (n : ℕ). Some n) (length-are_repeated [] ms)

---- marks that have come

abbrev pub same_key : MarkKey → MarkKey → Bool
same_key a b = same_mark (mark_of a) (mark_of b)

abbrev pub mark_from : List ℕ → ℕ → Mark
mark_from path line = record { path = path; line = line }

pub key_is : (path : List ℕ) (line : ℕ) (m n : Mark) → path ≡ m.path → line ≡ m.line → m ≡ n → mark_from path line ≡ n
key_is path line m n paths lines same = ap (λ (p : List ℕ). mark_from p line) paths ∙ ap (mark_from m.path) lines ∙ same

or_swap : (a b : Bool) → (a || b) ≡ (b || (a || false))
or_swap true true = refl
or_swap true false = refl
or_swap false true = refl
or_swap false false = refl

none_flagged : (n i : ℕ) → get_or (replicate n false) i false ≡ false
none_flagged zero i = refl
none_flagged (suc n) zero = refl
none_flagged (suc n) (suc i) = none_flagged n i

-- at first none has
pub unseen : (n : ℕ) (flags : List Bool) (keys : List MarkKey) (o : Option ℕ) (m : Mark) → flags ≡ replicate n false → keys ≡ [] → is_seen flags keys o m ≡ false
unseen n flags keys None m fresh none = ap (list_any (λ k. same_mark m (mark_of k))) none
unseen n flags keys (Some i) m fresh none = ap (λ (l : List Bool). get_or l i false) fresh ∙ none_flagged n i

-- those that have
abbrev pub Seen : Layout → Graph → (flags : List Bool) (keys : List MarkKey) → List Mark → Type 0
Seen layout g flags keys ms = (m : Mark) → is_seen flags keys (edge_number layout g m) m ≡ list_any (same_mark m) ms

module _ (layout : Layout) (g : Graph) (flags : List Bool) (keys : List MarkKey) (long : length flags ≡ length g.edges) (ms : List Mark) (seen : Seen layout g flags keys ms) (new : Mark) where
  more : (fs : List Bool) (ks : List MarkKey) → ((m : Mark) → is_seen fs ks (edge_number layout g m) m ≡ (same_mark m new || is_seen flags keys (edge_number layout g m) m)) → Seen layout g fs ks (ms ++ new ∷ [])
  more fs ks added m =
      added m ∙ ap (λ (b : Bool). same_mark m new || b) (seen m) ∙ or_swap (same_mark m new) (list_any (same_mark m) ms)
      ∙ sym (list_any-append (same_mark m) ms (new ∷ []))

  other : (m : Mark) (o : Option ℕ) → edge_number layout g m ≡ o → (edge_number layout g new ≡ o → ⊥) → same_mark m new ≡ false
  other m o is apart =
      elim (cases_Bool (same_mark m new)) [
        | inl same ↦ absurd (apart (ap (edge_number layout g) (sym (mark_is m new same)) ∙ is))
        | inr fails ↦ fails
      ]

  -- the mark of an edge
  module _ (i : ℕ) (number : edge_number layout g new ≡ Some i) where
    pub by_flag : list_any (same_mark new) ms ≡ get_or flags i false
    by_flag = sym (seen new) ∙ ap (λ (o : Option ℕ). is_seen flags keys o new) number

    flagged : (m : Mark) (o : Option ℕ) → edge_number layout g m ≡ o → is_seen (set flags i true) keys o m ≡ (same_mark m new || is_seen flags keys o m)
    flagged m None none = sym (ap (λ b. b || list_any (λ k. same_mark m (mark_of k)) keys) (other m None none (λ e. none-some i (sym e ∙ number))))
    flagged m (Some j) here =
        elim (cases_eq j i) [
          | inl same ↦
              let inside : i < length flags = omega (arith, long, number_within layout g new i number) in
              let mine : edge_number layout g m ≡ Some i = here ∙ ap (λ (n : ℕ). Some n) same in
              ap (λ (n : ℕ). get_or (set flags i true) n false) same ∙ get_or-set_same flags i true false inside
              ∙ sym (ap (λ b. b || get_or flags j false) (same_self m new (one_mark layout g m new i mine number)))
          | inr apart ↦
              get_or-set_other flags i j true false apart
              ∙ sym (ap (λ b. b || get_or flags j false) (other m (Some j) here (λ e. apart (same_Some j i (sym e ∙ number)))))
        ]

    pub flag_more : (fs : List Bool) → fs ≡ set flags i true → Seen layout g fs keys (ms ++ new ∷ [])
    flag_more fs put = subst (λ (l : List Bool). Seen layout g l keys (ms ++ new ∷ [])) (sym put) (more (set flags i true) keys (λ m. flagged m (edge_number layout g m) refl))

  -- a mark that names none
  module _ (k : MarkKey) (of : mark_of k ≡ new) (none : edge_number layout g new ≡ None) where
    pub by_key : list_any (same_mark new) ms ≡ list_any (same_key k) keys
    by_key = sym (seen new) ∙ ap (λ (o : Option ℕ). is_seen flags keys o new) none ∙ ap (λ (m : Mark). list_any (λ j. same_mark m (mark_of j)) keys) (sym of)

    added : (m : Mark) (o : Option ℕ) → edge_number layout g m ≡ o → is_seen flags (keys ++ k ∷ []) o m ≡ (same_mark m new || is_seen flags keys o m)
    added m None here =
        list_any-append (λ j. same_mark m (mark_of j)) keys (k ∷ [])
        ∙ sym (or_swap (same_mark m (mark_of k)) (list_any (λ j. same_mark m (mark_of j)) keys))
        ∙ ap (λ (x : Mark). same_mark m x || list_any (λ j. same_mark m (mark_of j)) keys) of
    added m (Some j) here = sym (ap (λ b. b || get_or flags j false) (other m (Some j) here (λ e. none-some j (sym none ∙ e))))

    pub key_more : (ks : List MarkKey) → list_any (same_key k) keys ≡ false → ks ≡ insert_key same_key keys k → Seen layout g flags ks (ms ++ new ∷ [])
    key_more ks fresh put =
        let pushed : ks ≡ keys ++ k ∷ [] = put ∙ cond-false (list_any (same_key k) keys) keys (keys ++ k ∷ []) fresh in
        subst (λ (l : List MarkKey). Seen layout g flags l (ms ++ new ∷ [])) (sym pushed) (more flags (keys ++ k ∷ []) (λ m. added m (edge_number layout g m) refl))
