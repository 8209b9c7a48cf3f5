-- Where a mark is in a project, and whether a graph has a directive there.
use Rattle.std.proofs.Common.{◌≡◌, ℕ, suc, zero, ◌+◌, ◌<◌, ◌≤◌, Bool, true, false, ◌||◌, List, [], ◌∷◌, ◌++◌, take, drop, Option, Some, None, length, get_or, filter, inl, inr, refl, sym, ap, ◌∙◌, arith}
use Rattle.std.specs.Prelude.{◌==◌, ◌&&◌, not, map, slice_get, bytes_eq, unwrap_or, position}
use Rattle.std.specs.List.{All, list_any, position_from, range_with_len}
use Rattle.std.proofs.lemmas.Bool.{cases_Bool, cases_eq, eq-eqb, ne_eqb, true≢false, cond-true, cond-false}
use Rattle.std.proofs.lemmas.Option.{none-some, same_Some}
use Rattle.std.proofs.lemmas.Slice.Eq.{bytes_eq-Decides}
use Rattle.std.proofs.lemmas.Iterator.Adapters.{position_from-zero}
use Rattle.std.proofs.lemmas.List.{take-append-drop, length-take-le, length-map, map-append}
use Rattle.inc_lookup.proofs.ListingLemmas.{position-none-then}
use Rattle.inc_graph.specs.MissingLists.{Missing}
use Rattle.inc_lookup.specs.Projects.{Layout, path_at, place_of}
use Rattle.inc_graph.specs.declared.graphs.Edge as declared
use Rattle.inc_graph.specs.IncludeGraph.{Edge, Graph, IsSound}
use Rattle.inc_graph.specs.Indexes.{ids_to, edges_entering}
use Rattle.inc_graph.specs.Marks.{Mark}
use Rattle.inc_graph.specs.Members.{is_member}
use Rattle.inc_graph.specs.MarkedEdges.{names, names_edge, is_reached, is_unknown}
use Rattle.inc_graph.specs.Spots.{is_directive_at, is_unknown_at}
use Rattle.inc_graph.specs.Views.{numbered_from}
use Rattle.inc_graph.proofs.Lists.{drop_read}

---- lists

-- two tests that agree on each element
any_agree : {X : Type 0} (p q : X → Bool) (xs : List X) → All (λ x. p x ≡ q x) xs → list_any p xs ≡ list_any q xs
any_agree p q [] each = refl
any_agree p q (x ∷ xs) each =
    ap (λ b. b || list_any p xs) (each 0 x (omega arith)) ∙ ap (λ b. q x || b) (any_agree p q xs (λ k d low. each (suc k) d (omega arith)))

none_in_range : (p : ℕ → Bool) (i n : ℕ) → ((k : ℕ) → i ≤ k → k < i + n → p k ≡ false) → list_any p (range_with_len i n) ≡ false
none_in_range p i zero each = refl
none_in_range p i (suc n) each =
    ap (λ b. b || list_any p (range_with_len (i + 1) n)) (each i (omega arith) (omega arith))
    ∙ none_in_range p (i + 1) n (λ k low high. each k (omega arith) (omega arith))

or_false : (b : Bool) → (b || false) ≡ b
or_false true = refl
or_false false = refl

-- a test that one number alone can pass
one_in_range : (p : ℕ → Bool) (i n f : ℕ) → i ≤ f → f < i + n → ((k : ℕ) → k < i + n → (k ≡ f → ⊥) → p k ≡ false) → list_any p (range_with_len i n) ≡ p f
one_in_range p i zero f low high others = absurd (omega arith)
one_in_range p i (suc n) f low high others =
    elim (cases_eq i f) [
      | inl same ↦
          ap (λ b. p i || b) (none_in_range p (i + 1) n (λ k above below. others k (omega arith) (λ e. omega (arith, e, same))))
          ∙ or_false (p i) ∙ ap p same
      | inr apart ↦
          ap (λ b. b || list_any p (range_with_len (i + 1) n)) (others i (omega arith) apart)
          ∙ one_in_range p (i + 1) n f (omega (arith, apart)) (omega arith) (λ k below other. others k (omega arith) other)
    ]

-- where the first that passes is the one at this place
pub stop_at : {X : Type 0} (p : X → Bool) (xs : List X) (i : ℕ) (x : X) → i < length xs → x ≡ get_or xs i x → position p (take i xs) ≡ None → p x ≡ true → position p xs ≡ Some i
stop_at p xs i x within is none passes =
    ap (position p) (sym (take-append-drop i xs) ∙ ap (λ l. take i xs ++ l) (drop_read xs i x within is))
    ∙ position-none-then p (take i xs) x (drop (i + 1) xs) none passes
    ∙ ap (λ (n : ℕ). Some n) (length-take-le i xs (omega arith))

pub stop_by : {X Y : Type 0} (f : X → Y) (p : Y → Bool) (xs : List X) (i : ℕ) (x : X) → i < length xs → x ≡ get_or xs i x → position p (map f (take i xs)) ≡ None → p (f x) ≡ true
    → position p (map f xs) ≡ Some i
stop_by f p xs i x within is none passes =
    ap (λ l. position p (map f l)) (sym (take-append-drop i xs) ∙ ap (λ l. take i xs ++ l) (drop_read xs i x within is))
    ∙ ap (position p) (map-append f (take i xs) (x ∷ drop (i + 1) xs))
    ∙ position-none-then p (map f (take i xs)) (f x) (map f (drop (i + 1) xs)) none passes
    ∙ ap (λ (n : ℕ). Some n) (length-map (take i xs) f ∙ length-take-le i xs (omega arith))

---- the file of a path

found_from : (p : List ℕ) (i : ℕ) (ps : List (List ℕ)) (f : ℕ) → position_from (bytes_eq p) i ps ≡ Some f → (k : ℕ) × (f ≡ i + k) × (bytes_eq p (unwrap_or (slice_get ps k) []) ≡ true)
found_from p i [] f e = absurd (none-some f e)
found_from p i (q ∷ qs) f e =
    elim (cases_Bool (bytes_eq p q)) [
      | inl is ↦
          let here : i ≡ f = same_Some i f (sym (cond-true (bytes_eq p q) _ _ is) ∙ e) in
          (0, omega arith, is)
      | inr fails ↦
          let more = found_from p (i + 1) qs f (sym (cond-false (bytes_eq p q) _ _ fails) ∙ e) in
          let k : ℕ = more.0 in
          let is : f ≡ i + 1 + k = more.1 in
          (suc k, omega arith, more.2)
    ]

found_there : (p : List ℕ) (ps : List (List ℕ)) (f : ℕ) → place_of p ps ≡ Some f → bytes_eq p (unwrap_or (slice_get ps f) []) ≡ true
found_there p ps f e =
    let at = found_from p 0 ps f (sym (position_from-zero (bytes_eq p) ps) ∙ e) in
    let k : ℕ = at.0 in
    let is : f ≡ 0 + k = at.1 in
    let same : f ≡ k = omega arith in
    ap (λ (n : ℕ). bytes_eq p (unwrap_or (slice_get ps n) [])) same ∙ at.2

pub eq_sym : (a b : ℕ) → (a == b) ≡ (b == a)
eq_sym a b =
    elim (cases_eq a b) [
      | inl same ↦ eq-eqb a b same ∙ sym (eq-eqb b a (sym same))
      | inr apart ↦ ne_eqb a b apart ∙ sym (ne_eqb b a (λ e. apart (sym e)))
    ]

module _ (layout : Layout) (p : List ℕ) (place : Option ℕ) (is : place ≡ place_of p layout.paths)
    (only : (k : ℕ) → k < length layout.paths → path_at layout k ≡ p → place ≡ Some k) where
  -- a path that is none of the project's
  pub no_path : place ≡ None → (k : ℕ) → k < length layout.paths → bytes_eq p (path_at layout k) ≡ false
  no_path none k within =
      elim (cases_Bool (bytes_eq p (path_at layout k))) [
        | inl same ↦ absurd (none-some k (sym none ∙ only k within (sym ((bytes_eq-Decides p (path_at layout k)).0 same))))
        | inr fails ↦ fails
      ]

  -- a path is that of one file
  pub path_is : (f : ℕ) → place ≡ Some f → (k : ℕ) → k < length layout.paths → bytes_eq p (path_at layout k) ≡ (k == f)
  path_is f here k within =
      elim (cases_Bool (bytes_eq p (path_at layout k))) [
        | inl same ↦
            let at : f ≡ k = same_Some f k (sym here ∙ only k within (sym ((bytes_eq-Decides p (path_at layout k)).0 same))) in
            same ∙ sym (eq-eqb k f (sym at))
        | inr fails ↦
            fails ∙ sym (ne_eqb k f (λ e. true≢false (sym (ap (λ (n : ℕ). bytes_eq p (path_at layout n)) e ∙ found_there p layout.paths f (sym is ∙ here)) ∙ fails)))
      ]

---- marks that name no directive

and_last : (a b : Bool) → b ≡ false → (a && b) ≡ false
and_last true b e = e
and_last false b e = refl

and_round : (r h d : Bool) (e m : Bool) → d ≡ (e || m) → ((r && (not h && true)) && (not e && not m)) ≡ (r && (not h && not d))
and_round true true d e m is = refl
and_round true false d true m is = ap not (sym is)
and_round true false d false m is = ap not (sym is)
and_round false h d e m is = refl

module _ (layout : Layout) (g : Graph) (m : Mark) (sound : IsSound g) (files : g.files ≡ length layout.paths)
    (place : Option ℕ) (is : place ≡ place_of m.path layout.paths)
    (only : (k : ℕ) → k < length layout.paths → path_at layout k ≡ m.path → place ≡ Some k) where
  -- a mark of no file of the project
  pub known_nowhere : place ≡ None → is_unknown layout g m ≡ false
  known_nowhere none =
      ap (λ b. b && (not (list_any (names_edge layout m) g.edges) && not (list_any (λ (d : Missing). names layout m d.file d.line) g.missing)))
      (none_in_range (λ f. is_reached g f && (not (is_member f g.headers) && bytes_eq m.path (path_at layout f))) 0 g.files
      (λ k low high. and_last (is_reached g k) _ (and_last (not (is_member k g.headers)) _ (no_path layout m.path place is only none k (omega arith)))))

  named_at : (f : ℕ) → place ≡ Some f → (file line : ℕ) → file < g.files → names layout m file line ≡ ((file == f) && (line == m.line))
  named_at f here file line within =
      ap (λ b. b && (m.line == line)) (path_is layout m.path place is only f here file (omega arith)) ∙ ap (λ b. (file == f) && b) (eq_sym m.line line)

  -- a mark of a file
  pub unknown_there : (f : ℕ) → f < g.files → place ≡ Some f → is_unknown layout g m ≡ is_unknown_at g f m.line
  unknown_there f within here =
      let whole = one_in_range (λ k. is_reached g k && (not (is_member k g.headers) && bytes_eq m.path (path_at layout k))) 0 g.files f (omega arith) (omega arith)
      (λ k below other. and_last (is_reached g k) _ (and_last (not (is_member k g.headers)) _ (path_is layout m.path place is only f here k (omega arith) ∙ ne_eqb k f other))) in
      let bytes : bytes_eq m.path (path_at layout f) ≡ true = path_is layout m.path place is only f here f (omega arith) ∙ eq-eqb f f refl in
      let edges = any_agree (names_edge layout m) (λ (e : Edge). (e.from == f) && (e.line == m.line)) g.edges
      (λ k d low. named_at f here (get_or g.edges k d).from (get_or g.edges k d).line (sound.inner k d low).from_within) in
      let missing = any_agree (λ (d : Missing). names layout m d.file d.line) (λ (d : Missing). (d.file == f) && (d.line == m.line)) g.missing
      (λ k d low. named_at f here (get_or g.missing k d).file (get_or g.missing k d).line (sound.missing_within k d low)) in
      ap (λ b. b && (not (list_any (names_edge layout m) g.edges) && not (list_any (λ (d : Missing). names layout m d.file d.line) g.missing)))
      (whole ∙ ap (λ b. is_reached g f && (not (is_member f g.headers) && b)) bytes)
      ∙ ap (λ b. (is_reached g f && (not (is_member f g.headers) && true)) && (not b && not (list_any (λ (d : Missing). names layout m d.file d.line) g.missing))) edges
      ∙ ap (λ b. (is_reached g f && (not (is_member f g.headers) && true)) && (not (list_any (λ (e : Edge). (e.from == f) && (e.line == m.line)) g.edges) && not b)) missing
      ∙ and_round (is_reached g f) (is_member f g.headers) (is_directive_at g f m.line) _ _ refl

---- edges to a file

suc_some : (n : ℕ) → not (suc n == 0) ≡ true
suc_some n = ap not (ne_eqb (suc n) 0 (λ e. omega (arith, e)))

to_numbered : (n : ℕ) (es : List Edge) (f : ℕ) → not (length (ids_to (numbered_from n es) f) == 0) ≡ list_any (λ (e : Edge). e.to == f) es
to_numbered n [] f = refl
to_numbered n (e ∷ es) f =
    elim (cases_Bool (e.to == f)) [
      | inl is ↦
          ap (λ (l : List declared.Edge). not (length (map (λ (x : declared.Edge). x.id) l) == 0)) (cond-true (e.to == f) _ _ is)
          ∙ suc_some (length (map (λ (x : declared.Edge). x.id) (filter (λ (x : declared.Edge). x.to == f) (numbered_from (n + 1) es))))
          ∙ sym (ap (λ b. b || list_any (λ (x : Edge). x.to == f) es) is)
      | inr fails ↦
          ap (λ (l : List declared.Edge). not (length (map (λ (x : declared.Edge). x.id) l) == 0)) (cond-false (e.to == f) _ _ fails)
          ∙ to_numbered (n + 1) es f ∙ sym (ap (λ b. b || list_any (λ (x : Edge). x.to == f) es) fails)
    ]

pub reached_else : (g : Graph) (f : ℕ) → is_member f g.sources ≡ false → not (length (edges_entering g.edges f) == 0) ≡ is_reached g f
reached_else g f apart = to_numbered 0 g.edges f ∙ sym (ap (λ b. b || list_any (λ (e : Edge). e.to == f) g.edges) apart)
