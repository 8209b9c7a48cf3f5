-- The edges that marks name: by the file of the path, and by the line among the edges that leave it.
use Rattle.std.proofs.Common.{◌≡◌, ℕ, zero, suc, ◌+◌, ◌<◌, ◌≤◌, Bool, true, false, cond, List, [], ◌∷◌, Option, Some, None, is_some, length, get_or, filter, inl, inr, refl, sym, ap, subst, ◌∙◌, arith}
use Rattle.std.specs.Prelude.{◌==◌, ◌&&◌, ◌||◌, not, nat_lt, position, slice_get, bytes_eq}
use Rattle.std.specs.Option.{IfSome, option_map_or}
use Rattle.std.specs.List.{All, list_all, list_any, position_from}
use Rattle.std.specs.List.Sorted.{IsNonDecreasingBy, IsPartitionPoint}
use Rattle.std.proofs.lemmas.Bool.{and_parts, and_from, cases_Bool, cases_eq, cond-true, cond-false, eq-eqb, eqb-true, ltb-true, false≢true, false_from_ne_true, ne_eqb}
use Rattle.std.proofs.lemmas.Iterator.Adapters.{position_from-zero}
use Rattle.std.proofs.lemmas.Option.{none-some, same_Some, slice_get-get_or, slice_get_past, slice_get_within, get_or_from_slice_get}
use Rattle.std.proofs.lemmas.List.Elements.{All-nil, All-cons, All-head, All-tail}
use Rattle.std.proofs.lemmas.List.Quantifiers.{position-Some}
use Rattle.std.proofs.lemmas.Slice.Eq.{bytes_eq-Decides}
use Rattle.inc_lookup.specs.Projects.{Layout, path_at, place_of}
use Rattle.inc_lookup.proofs.ListingLemmas.{is_some-position}
use Rattle.inc_graph.specs.declared.graphs.Edge as declared
use Rattle.inc_graph.specs.IncludeGraph.{Edge, Graph, IsSound, is_edge_before, are_ordered}
use Rattle.inc_graph.specs.Indexes.{edges_leaving}
use Rattle.inc_graph.specs.Marks.{Mark}
use Rattle.inc_graph.specs.Views.{seen_edge, numbered_from, numbered}
use Rattle.inc_graph.specs.MarkedEdges.{in_place, same_mark, names_edge, edge_number, is_unknown}
use Rattle.inc_graph.specs.Near.{IsListed, IsNamedFrom, IsNamedElsewhere}
use Rattle.inc_graph.proofs.NumberedEdges.{numbered_from-at, numbered_at, length-numbered_from}
use Rattle.inc_graph.proofs.UnknownMarks.{eq_sym, path_is, no_path}

---- the edges of a file are on lines that ascend

-- each on a later line than the one before, the first on this line or a later one
abbrev pub AscendFrom : ℕ → List declared.Edge → Type 0
AscendFrom least [] = Unit {0}
AscendFrom least (e ∷ es) = (least ≤ e.line) × AscendFrom (e.line + 1) es

-- after an edge
line_behind : (a b : Edge) → (nat_lt a.from b.from || ((a.from == b.from) && nat_lt a.line b.line)) ≡ true → b.from ≡ a.from → a.line + 1 ≤ b.line
line_behind a b before same = either (nat_lt a.from b.from) ((a.from == b.from) && nat_lt a.line b.line) refl refl before
  where
    either : (s t : Bool) → nat_lt a.from b.from ≡ s → ((a.from == b.from) && nat_lt a.line b.line) ≡ t → (s || t) ≡ true → a.line + 1 ≤ b.line
    either true t lower e h = let less = ltb-true a.from b.from lower in absurd (omega arith)
    either false true f e h = let less = ltb-true a.line b.line (and_parts (a.from == b.from) (nat_lt a.line b.line) e).1 in omega arith
    either false false f e h = absurd (false≢true h)

lines_behind : (a : Edge) (es : List Edge) → list_all (is_edge_before a) es ≡ true → All (λ (e : Edge). e.from ≡ a.from → a.line + 1 ≤ e.line) es
lines_behind a [] h = All-nil (λ (e : Edge). e.from ≡ a.from → a.line + 1 ≤ e.line)
lines_behind a (e ∷ es) h =
    let parts = and_parts (is_edge_before a e) (list_all (is_edge_before a) es) h in
    All-cons (λ (x : Edge). x.from ≡ a.from → a.line + 1 ≤ x.line) e es (line_behind a e parts.0) (lines_behind a es parts.1)

ascend_cond : (b : Bool) (least : ℕ) (e : declared.Edge) (es : List declared.Edge) → (b ≡ true → least ≤ e.line) → (b ≡ true → AscendFrom (e.line + 1) es) → (b ≡ false → AscendFrom least es)
    → AscendFrom least (cond b (e ∷ es) es)
ascend_cond true least e es low behind apart = (low refl, behind refl)
ascend_cond false least e es low behind apart = apart refl

ascend_leaving : (f n least : ℕ) (es : List Edge) → are_ordered es ≡ true → All (λ (e : Edge). e.from ≡ f → least ≤ e.line) es
    → AscendFrom least (filter (λ (e : declared.Edge). e.from == f) (numbered_from n es))
ascend_leaving f n least [] ordered low = tt
ascend_leaving f n least (e ∷ es) ordered low =
    let parts = and_parts (list_all (is_edge_before e) es) (are_ordered es) ordered in
    let behind = lines_behind e es parts.0 in
    ascend_cond (e.from == f) least (record { id = n; from = e.from; to = e.to; line = e.line }) (filter (λ (x : declared.Edge). x.from == f) (numbered_from (n + 1) es))
    (λ here. All-head (λ (x : Edge). x.from ≡ f → least ≤ x.line) e es low (eqb-true e.from f here))
    (λ here. ascend_leaving f (n + 1) (e.line + 1) es parts.1 (λ k d within. λ at. behind k d within (at ∙ sym (eqb-true e.from f here))))
    (λ apart. ascend_leaving f (n + 1) least es parts.1 (All-tail (λ (x : Edge). x.from ≡ f → least ≤ x.line) e es low))

not_below : (es : List declared.Edge) (least i : ℕ) (d : declared.Edge) → AscendFrom least es → i < length es → least ≤ (get_or es i d).line
not_below [] least i d a h = absurd (omega arith)
not_below (e ∷ es) least zero d a h = a.0
not_below (e ∷ es) least (suc i) d a h = let more = not_below es (e.line + 1) i d a.1 (omega arith) in let first = a.0 in omega arith

lines_rise : (es : List declared.Edge) (least : ℕ) → AscendFrom least es → IsNonDecreasingBy (λ (e : declared.Edge). e.line) es
lines_rise [] least a i j d le lt = absurd (omega arith)
lines_rise (e ∷ es) least a zero zero d le lt = omega arith
lines_rise (e ∷ es) least a zero (suc j) d le lt = let more = not_below es (e.line + 1) j d a.1 (omega arith) in omega arith
lines_rise (e ∷ es) least a (suc i) zero d le lt = absurd (omega arith)
lines_rise (e ∷ es) least a (suc i) (suc j) d le lt = lines_rise es (e.line + 1) a.1 i j d (omega arith) (omega arith)

leaving_ascend : (g : Graph) (f : ℕ) → IsSound g → AscendFrom 0 (edges_leaving g.edges f)
leaving_ascend g f sound = ascend_leaving f 0 0 g.edges sound.ordered (λ k d within. λ at. omega arith)

pub leaving_rise : (g : Graph) (f : ℕ) (items : List declared.Edge) → IsSound g → items ≡ edges_leaving g.edges f → IsNonDecreasingBy (λ (e : declared.Edge). e.line) items
leaving_rise g f items sound are =
    subst (λ (es : List declared.Edge). IsNonDecreasingBy (λ (e : declared.Edge). e.line) es) (sym are) (lines_rise (edges_leaving g.edges f) 0 (leaving_ascend g f sound))

---- the edge on a line

on_line : ℕ → List declared.Edge → Option ℕ
on_line line [] = None
on_line line (e ∷ es) = cond (e.line == line) (Some e.id) (on_line line es)

abbrev pub if_on : ℕ → Option declared.Edge → Option ℕ
if_on line None = None
if_on line (Some e) = cond (e.line == line) (Some e.id) None

by_file : (b l : Bool) (line : ℕ) (e : declared.Edge) (es : List declared.Edge) (rest : Option ℕ) → (e.line == line) ≡ l → rest ≡ on_line line es
    → cond (b && l) (Some e.id) rest ≡ on_line line (cond b (e ∷ es) es)
unfolding on_line
by_file true true line e es rest is more = rw is refl
by_file true false line e es rest is more = rw is more
by_file false l line e es rest is more = more

-- the first edge of a file and a line is the first on the line of those that leave the file
position_on_line : (f line n : ℕ) (es : List Edge) → position_from (λ (e : Edge). (e.from == f) && (e.line == line)) n es ≡ on_line line (filter (λ (e : declared.Edge). e.from == f) (numbered_from n es))
unfolding on_line
position_on_line f line n [] = refl
position_on_line f line n (e ∷ es) =
    by_file (e.from == f) (e.line == line) line (record { id = n; from = e.from; to = e.to; line = e.line }) (filter (λ (x : declared.Edge). x.from == f) (numbered_from (n + 1) es)) _ refl
    (position_on_line f line (n + 1) es)

not_before : (es : List declared.Edge) (least line : ℕ) → AscendFrom least es → line < least → on_line line es ≡ None
unfolding on_line
not_before [] least line a h = refl
not_before (e ∷ es) least line a h =
    let low = a.0 in
    let other : (e.line == line) ≡ false = ne_eqb e.line line (λ q. omega arith) in
    let more : on_line line es ≡ None = not_before es (e.line + 1) line a.1 (omega arith) in
    rw other more

first_at : (e : declared.Edge) (es : List declared.Edge) (line : ℕ) → AscendFrom (e.line + 1) es → line ≤ e.line → (b : Bool) → (e.line == line) ≡ b → cond b (Some e.id) None ≡ cond b (Some e.id) (on_line line es)
first_at e es line a h true is = refl
first_at e es line a h false is = sym (not_before es (e.line + 1) line a (omega arith))

at_point : (es : List declared.Edge) (least line k : ℕ) → AscendFrom least es → ((i : ℕ) (d : declared.Edge) → i < k → (get_or es i d).line < line)
    → ((d : declared.Edge) → k < length es → line ≤ (get_or es k d).line) → k ≤ length es → if_on line (slice_get es k) ≡ on_line line es
unfolding on_line
at_point [] least line k a before after bound = refl
at_point (e ∷ es) least line zero a before after bound = first_at e es line a.1 (after e (omega arith)) (e.line == line) refl
at_point (e ∷ es) least line (suc k) a before after bound =
    let passed : e.line < line = before 0 e (omega arith) in
    let other : (e.line == line) ≡ false = ne_eqb e.line line (λ q. omega arith) in
    rw other (at_point es (e.line + 1) line k a.1 (λ i d h. before (suc i) d (omega arith)) (λ d h. after d (omega arith)) (omega arith))

-- the edge at the partition point, if it is on the line
pub at_partition : (g : Graph) (f line k : ℕ) (items : List declared.Edge) → IsSound g → items ≡ edges_leaving g.edges f → k ≤ length items
    → IsPartitionPoint (λ (e : declared.Edge). e.line < line) (λ (e : declared.Edge). line ≤ e.line) items k
    → if_on line (slice_get items k) ≡ position (λ (e : Edge). (e.from == f) && (e.line == line)) g.edges
at_partition g f line k items sound are bound point =
    let ascend : AscendFrom 0 items = subst (λ (es : List declared.Edge). AscendFrom 0 es) (sym are) (leaving_ascend g f sound) in
    at_point items 0 line k ascend (λ i d lt. point.0 i d (omega arith) lt) (λ d lt. point.1 k d (omega arith) lt) bound
    ∙ ap (on_line line) are ∙ sym (position_on_line f line 0 g.edges)
    ∙ sym (position_from-zero (λ (e : Edge). (e.from == f) && (e.line == line)) g.edges)

pub edge_there : (line : ℕ) (items : List declared.Edge) (k : ℕ) (e : declared.Edge) (p : Option ℕ) → k < length items → e ≡ get_or items k e → if_on line (slice_get items k) ≡ p → e.line ≡ line → Some e.id ≡ p
edge_there line items k e p low at is same =
    sym (cond-true (e.line == line) (Some e.id) None (eq-eqb e.line line same)) ∙ ap (if_on line) (ap (λ (x : declared.Edge). Some x) at ∙ sym (slice_get-get_or items k e low)) ∙ is

pub edge_elsewhere : (line : ℕ) (items : List declared.Edge) (k : ℕ) (e : declared.Edge) (p : Option ℕ) → k < length items → e ≡ get_or items k e → if_on line (slice_get items k) ≡ p → (e.line ≡ line → ⊥) → None ≡ p
edge_elsewhere line items k e p low at is apart =
    sym (cond-false (e.line == line) (Some e.id) None (ne_eqb e.line line apart)) ∙ ap (if_on line) (ap (λ (x : declared.Edge). Some x) at ∙ sym (slice_get-get_or items k e low)) ∙ is

pub no_edge_left : (line : ℕ) (items : List declared.Edge) (k : ℕ) (p : Option ℕ) → length items ≤ k → if_on line (slice_get items k) ≡ p → None ≡ p
no_edge_left line items k p past is = sym (ap (if_on line) (slice_get_past items k past)) ∙ is

---- an edge that is at its number

both_true : (a b : Bool) → a ≡ true → b ≡ true → (a && b) ≡ true
both_true a b e f = ap (λ t. t && b) e ∙ f

-- the only edge of its file and line is the first
only_there : (f line n k : ℕ) (es : List Edge) (x : Edge) → are_ordered es ≡ true → slice_get es k ≡ Some x → x.from ≡ f → x.line ≡ line
    → position_from (λ (e : Edge). (e.from == f) && (e.line == line)) n es ≡ Some (n + k)
only_there f line n k [] x ordered at from here = absurd (none-some x at)
only_there f line n zero (e ∷ es) x ordered at from here =
    let same : e ≡ x = same_Some e x at in
    let k : n ≡ n + 0 = omega arith in
    cond-true ((e.from == f) && (e.line == line)) (Some n) _
    (both_true (e.from == f) (e.line == line) (eq-eqb e.from f (ap (λ (y : Edge). y.from) same ∙ from)) (eq-eqb e.line line (ap (λ (y : Edge). y.line) same ∙ here)))
    ∙ ap (λ (i : ℕ). Some i) k
only_there f line n (suc k) (e ∷ es) x ordered at from here =
    let parts = and_parts (list_all (is_edge_before e) es) (are_ordered es) ordered in
    let more : n + 1 + k ≡ n + suc k = omega arith in
    elim (cases_Bool ((e.from == f) && (e.line == line))) [
      | inl passes ↦
          let both = and_parts (e.from == f) (e.line == line) passes in
          let is : get_or es k x ≡ x = get_or_from_slice_get es k x x at in
          let later : e.line + 1 ≤ (get_or es k x).line =
          lines_behind e es parts.0 k x (slice_get_within es k x at) (ap (λ (y : Edge). y.from) is ∙ from ∙ sym (eqb-true e.from f both.0)) in
          let on : (get_or es k x).line ≡ line = ap (λ (y : Edge). y.line) is ∙ here in
          let first : e.line ≡ line = eqb-true e.line line both.1 in
          absurd (omega arith)
      | inr fails ↦ cond-false ((e.from == f) && (e.line == line)) (Some n) _ fails ∙ only_there f line (n + 1) k es x parts.1 at from here ∙ ap (λ (i : ℕ). Some i) more
    ]

-- the edge at its number, where it is the one of the file and the line
pub edge_hinted : (g : Graph) (f line : ℕ) (e : declared.Edge) → IsSound g → IsListed g e → e.from ≡ f → e.line ≡ line
    → Some e.id ≡ position (λ (x : Edge). (x.from == f) && (x.line == line)) g.edges
edge_hinted g f line e sound at from here =
    let number : e.id ≡ 0 + e.id = omega arith in
    ap (λ (i : ℕ). Some i) number ∙ sym (position_from-zero (λ (x : Edge). (x.from == f) && (x.line == line)) g.edges ∙ only_there f line 0 e.id g.edges (seen_edge e) sound.ordered at from here)

---- the edge of a mark

position_agree : {X : Type 0} (p q : X → Bool) (n : ℕ) (xs : List X) → All (λ x. p x ≡ q x) xs → position_from p n xs ≡ position_from q n xs
position_agree p q n [] each = refl
position_agree p q n (x ∷ xs) each =
    ap (λ b. cond b (Some n) (position_from p (n + 1) xs)) (All-head (λ y. p y ≡ q y) x xs each)
    ∙ ap (λ o. cond (q x) (Some n) o) (position_agree p q (n + 1) xs (All-tail (λ y. p y ≡ q y) x xs each))

same_position : {X : Type 0} (p q : X → Bool) (xs : List X) → All (λ x. p x ≡ q x) xs → position p xs ≡ position q xs
same_position p q xs each = position_from-zero p xs ∙ position_agree p q 0 xs each ∙ sym (position_from-zero q xs)

none_from : {X : Type 0} (p : X → Bool) (n : ℕ) (xs : List X) → All (λ x. p x ≡ false) xs → position_from p n xs ≡ None
none_from p n [] each = refl
none_from p n (x ∷ xs) each = rw (All-head (λ y. p y ≡ false) x xs each) (none_from p (n + 1) xs (All-tail (λ y. p y ≡ false) x xs each))

module _ (layout : Layout) (g : Graph) (m : Mark) (sound : IsSound g) (files : g.files ≡ length layout.paths) (place : Option ℕ) (is : place ≡ place_of m.path layout.paths)
    (only : (k : ℕ) → k < length layout.paths → path_at layout k ≡ m.path → place ≡ Some k) where
  from_within : (k : ℕ) (d : Edge) → k < length g.edges → (get_or g.edges k d).from < length layout.paths
  from_within k d within = let low = (sound.inner k d within).from_within in omega arith

  pub mark_in_file : (f : ℕ) → place ≡ Some f → position (λ (e : Edge). (e.from == f) && (e.line == m.line)) g.edges ≡ edge_number layout g m
  mark_in_file f here =
      sym (same_position (names_edge layout m) (λ (e : Edge). (e.from == f) && (e.line == m.line)) g.edges (λ k d within.
      let e : Edge = get_or g.edges k d in
      ap (λ b. b && (m.line == e.line)) (path_is layout m.path place is only f here e.from (from_within k d within))
      ∙ ap (λ b. (e.from == f) && b) (eq_sym m.line e.line)))

  pub mark_nowhere : place ≡ None → None ≡ edge_number layout g m
  mark_nowhere none =
      sym (position_from-zero (names_edge layout m) g.edges ∙ none_from (names_edge layout m) 0 g.edges (λ k d within.
      let e : Edge = get_or g.edges k d in
      ap (λ b. b && (m.line == e.line)) (no_path layout m.path place is only none e.from (from_within k d within))))

  pub mark_in_place : (o : Option ℕ) → place ≡ o → in_place g o m.line ≡ edge_number layout g m
  mark_in_place None none = mark_nowhere none
  mark_in_place (Some f) here = mark_in_file f here

  -- no other edge has this file and line
  pub only_named : (k : ℕ) (e : Edge) → slice_get g.edges k ≡ Some e → names_edge layout m e ≡ true → edge_number layout g m ≡ Some k
  only_named k e at named =
      let parts = and_parts (bytes_eq m.path (path_at layout e.from)) (m.line == e.line) named in
      let same : 0 + k ≡ k = omega arith in
      let read : get_or g.edges k e ≡ e = get_or_from_slice_get g.edges k e e at in
      let low = from_within k e (slice_get_within g.edges k e at) in
      let inside : e.from < length layout.paths = omega (arith, low, ap (λ (x : Edge). x.from) read) in
      let here : place ≡ Some e.from = only e.from inside (sym ((bytes_eq-Decides m.path (path_at layout e.from)).0 parts.0)) in
      sym (mark_in_file e.from here) ∙ position_from-zero (λ (x : Edge). (x.from == e.from) && (x.line == m.line)) g.edges
      ∙ only_there e.from m.line 0 k g.edges e sound.ordered at refl (sym (eqb-true m.line e.line parts.1)) ∙ ap (λ (n : ℕ). Some n) same

---- marks by their edges

pub no_edge : Edge
no_edge = record { from = 0; to = 0; line = 0 }

pub mark_is : (a b : Mark) → same_mark a b ≡ true → a ≡ b
mark_is a b e =
    let parts = and_parts (bytes_eq a.path b.path) (a.line == b.line) e in
    let path = (bytes_eq-Decides a.path b.path).0 parts.0 in
    let line = eqb-true a.line b.line parts.1 in
    ap (λ p. record { path = p; line = a.line }) path ∙ ap (λ n. record { path = b.path; line = n }) line

pub same_self : (a b : Mark) → a ≡ b → same_mark a b ≡ true
same_self a b e =
    and_from (bytes_eq a.path b.path) (a.line == b.line) ((bytes_eq-Decides a.path b.path).1 (ap (λ (m : Mark). m.path) e)) (eq-eqb a.line b.line (ap (λ (m : Mark). m.line) e))

edge_mark : Layout → Edge → Mark
edge_mark layout e = record { path = path_at layout e.from; line = e.line }

-- a mark names an edge of the graph
pub number_within : (layout : Layout) (g : Graph) (m : Mark) (i : ℕ) → edge_number layout g m ≡ Some i → i < length g.edges
number_within layout g m i e = (position-Some (names_edge layout m) g.edges i no_edge e).0

-- so does a line of a file at which an edge is found
pub place_within : (g : Graph) (o : Option ℕ) (line i : ℕ) → in_place g o line ≡ Some i → i < length g.edges
place_within g None line i e = absurd (none-some i e)
place_within g (Some f) line i e = (position-Some (λ (x : Edge). (x.from == f) && (x.line == line)) g.edges i no_edge e).0

pub place_listed : (g : Graph) (items : List declared.Edge) (o : Option ℕ) (line i k : ℕ) → items ≡ numbered g.edges → in_place g o line ≡ Some i → k ≡ i → k < length items
place_listed g items o line i k are is same =
    let low = place_within g o line i is in
    let count : length items ≡ length g.edges = ap (λ (l : List declared.Edge). length l) are ∙ length-numbered_from 0 g.edges in
    omega arith

-- an edge leads to a file of the project
pub leads_within : (g : Graph) (e : declared.Edge) → IsSound g → IsListed g e → e.to < g.files
leads_within g e sound at =
    let read : get_or g.edges e.id (seen_edge e) ≡ seen_edge e = get_or_from_slice_get g.edges e.id (seen_edge e) (seen_edge e) at in
    let within = (sound.inner e.id (seen_edge e) (slice_get_within g.edges e.id (seen_edge e) at)).to_within in
    subst (λ (x : Edge). x.to < g.files) read within

pub number_all : (layout : Layout) (g : Graph) (m : Mark) (o : Option ℕ) → o ≡ edge_number layout g m → IfSome o (λ i. i < length g.edges)
number_all layout g m None e = tt
number_all layout g m (Some i) e = number_within layout g m i (sym e)

pub names_it : (layout : Layout) (g : Graph) (m : Mark) (i : ℕ) (e : Edge) → edge_number layout g m ≡ Some i → slice_get g.edges i ≡ Some e → names_edge layout m e ≡ true
names_it layout g m i e is at =
    ap (names_edge layout m) (sym (get_or_from_slice_get g.edges i e e at)) ∙ (position-Some (names_edge layout m) g.edges i e is).1

-- marks of one edge are equal
pub one_mark : (layout : Layout) (g : Graph) (m k : Mark) (i : ℕ) → edge_number layout g m ≡ Some i → edge_number layout g k ≡ Some i → m ≡ k
unfolding edge_mark
one_mark layout g m k i first second =
    let e : Edge = get_or g.edges i no_edge in
    mark_is m (edge_mark layout e) (position-Some (names_edge layout m) g.edges i no_edge first).1
    ∙ sym (mark_is k (edge_mark layout e) (position-Some (names_edge layout k) g.edges i no_edge second).1)

no_unknown : (s n t : Bool) → n ≡ true → (s && (not n && t)) ≡ false
no_unknown true true t e = refl
no_unknown false n t e = refl
no_unknown true false t e = absurd (false≢true e)

-- a mark of an edge is known
pub named_known : (layout : Layout) (g : Graph) (m : Mark) → is_some (edge_number layout g m) ≡ true → is_unknown layout g m ≡ false
named_known layout g m some =
    no_unknown _ (list_any (names_edge layout m) g.edges) _ (sym (is_some-position (names_edge layout m) g.edges) ∙ some)

-- whether an edge is at a line of a file
pub edge_stands : (g : Graph) (file line : ℕ) (o : Option ℕ) (b : Bool) → o ≡ position (λ (e : Edge). (e.from == file) && (e.line == line)) g.edges → is_some o ≡ b
    → list_any (λ (e : Edge). (e.from == file) && (e.line == line)) g.edges ≡ b
edge_stands g file line o b is some = sym (is_some-position (λ (e : Edge). (e.from == file) && (e.line == line)) g.edges) ∙ ap is_some (sym is) ∙ some

---- the edge of a mark, where it leaves a file that is known

-- an edge as it is read at its number
pub edge_listed : (g : Graph) (k : ℕ) (items : List declared.Edge) (e : declared.Edge) → items ≡ numbered g.edges → k < length items → e ≡ get_or items k e → (slice_get g.edges e.id ≡ Some (seen_edge e)) × (e.id ≡ k)
edge_listed g k items e are low is =
    let count : length items ≡ length g.edges = ap (λ (l : List declared.Edge). length l) are ∙ length-numbered_from 0 g.edges in
    let read : e ≡ get_or (numbered g.edges) k e = is ∙ ap (λ (l : List declared.Edge). get_or l k e) are in
    let at : slice_get g.edges k ≡ Some (seen_edge e) = numbered_from-at 0 g.edges k e (omega arith) read in
    let number : e.id ≡ 0 + k = ap (λ (d : declared.Edge). d.id) (read ∙ numbered_at 0 g.edges k (seen_edge e) e at) in
    let same : e.id ≡ k = omega arith in
    (ap (slice_get g.edges) same ∙ at, same)

module _ (layout : Layout) (g : Graph) (m : Mark) (file : ℕ) (sound : IsSound g) (files : g.files ≡ length layout.paths)
    (once : (i j : ℕ) → i < length layout.paths → j < length layout.paths → path_at layout i ≡ path_at layout j → i ≡ j) (within : file < g.files) where
  path_here : (k : ℕ) → k < length layout.paths → path_at layout file ≡ m.path → bytes_eq m.path (path_at layout k) ≡ (k == file)
  path_here k low is = elim (cases_eq k file) [
    | inl same ↦ (bytes_eq-Decides m.path (path_at layout k)).1 (sym (ap (path_at layout) same ∙ is)) ∙ sym (eq-eqb k file same)
    | inr apart ↦
        false_from_ne_true (bytes_eq m.path (path_at layout k)) (λ met. apart (once k file low (omega arith) (sym ((bytes_eq-Decides m.path (path_at layout k)).0 met) ∙ sym is)))
        ∙ sym (ne_eqb k file apart)
  ]

  mark_here : path_at layout file ≡ m.path → position (λ (e : Edge). (e.from == file) && (e.line == m.line)) g.edges ≡ edge_number layout g m
  mark_here is =
      sym (same_position (names_edge layout m) (λ (e : Edge). (e.from == file) && (e.line == m.line)) g.edges (λ k d below.
      let low : (get_or g.edges k d).from < length layout.paths = let i = (sound.inner k d below).from_within in omega arith in
      ap (λ b. b && (m.line == (get_or g.edges k d).line)) (path_here (get_or g.edges k d).from low is)
      ∙ ap (λ b. ((get_or g.edges k d).from == file) && b) (eq_sym m.line (get_or g.edges k d).line)))

  pub named_from : (e : declared.Edge) → path_at layout file ≡ m.path → Some e.id ≡ position (λ (x : Edge). (x.from == file) && (x.line == m.line)) g.edges
      → slice_get g.edges e.id ≡ Some (seen_edge e) → e.to < g.files → IsNamedFrom layout g file m e
  named_from e is there at to =
      let found = position-Some (λ (x : Edge). (x.from == file) && (x.line == m.line)) g.edges e.id (seen_edge e) (sym there) in
      let read : get_or g.edges e.id (seen_edge e) ≡ seen_edge e = get_or_from_slice_get g.edges e.id (seen_edge e) (seen_edge e) at in
      let x : Edge = get_or g.edges e.id (seen_edge e) in
      record {
        number = sym (mark_here is) ∙ sym there;
        at = at;
        from = sym (ap (λ (y : Edge). y.from) read) ∙ eqb-true x.from file (and_parts (x.from == file) (x.line == m.line) found.1).0;
        to = to;
      }

  -- a mark of another path names no edge that leaves the file
  pub named_elsewhere : (path_at layout file ≡ m.path → ⊥) → IsNamedElsewhere layout g file m
  named_elsewhere apart i number =
      let found = position-Some (names_edge layout m) g.edges i no_edge number in
      let x : Edge = get_or g.edges i no_edge in
      let path = (bytes_eq-Decides m.path (path_at layout x.from)).0 (and_parts (bytes_eq m.path (path_at layout x.from)) (m.line == x.line) found.1).0 in
      ap (λ (o : Option Edge). option_map_or (λ (y : Edge). y.from == file) o false) (slice_get-get_or g.edges i no_edge found.0)
      ∙ ne_eqb x.from file (λ same. apart (ap (path_at layout) (sym same) ∙ sym path))

  -- and neither does one where no edge is on the line
  pub named_nowhere : path_at layout file ≡ m.path → None ≡ position (λ (x : Edge). (x.from == file) && (x.line == m.line)) g.edges → IsNamedElsewhere layout g file m
  named_nowhere is none i number = absurd (none-some i (none ∙ mark_here is ∙ number))
