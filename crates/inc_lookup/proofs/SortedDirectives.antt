-- Directives by file and line: those of one file, and whether one is among them.
use Rattle.std.proofs.Common.{◌≡◌, ℕ, ◌+◌, ◌<◌, ◌≤◌, ◌∷◌, Bool, true, false, List, [], Ok, Err, Result, length, map, take, drop, get_or, inl, inr, refl, sym, ap, ◌∙◌, arith}
use Rattle.std.specs.Prelude.{◌==◌, ◌&&◌, ◌||◌, is_ok, nat_lt}
use Rattle.std.proofs.Math.Bool.{or-false}
use Rattle.std.specs.Cmp.{IsTotalOrder, ranks}
use Rattle.std.specs.List.{All, list_any}
use Rattle.std.specs.List.Sorted.{IsBinarySearchResult, IsPartitionedBy, IsPartitionPoint, IsSearchInRange}
use Rattle.std.specs.Ordering.{MatchOrdering, is_lt, nat_cmp, ordering_then}
use Rattle.std.specs.declared.cmp.Ordering.{Ordering}
use Rattle.std.specs.declared.cmp.Ordering.TheVariants.{Less, Equal, Greater}
use Rattle.std.proofs.lemmas.Bool.{cases_lt, eq-eqb, eqb-true, lt-ltb, ltb-true, ltb-false, ne_eqb, true≢false}
use Rattle.std.proofs.lemmas.Cmp.{nat_cmp_total, on_total, then_total}
use Rattle.std.proofs.lemmas.List.{get_or-drop, get_or-take, length-drop, length-take-le, take-append-drop}
use Rattle.std.proofs.lemmas.List.Elements.{All-tail}
use Rattle.std.proofs.lemmas.List.Folds.{list_any-append, list_any_at, list_any_none}
use Rattle.std.proofs.lemmas.List.Sorted.{list_any-IsPermutation, ranks_by, searchable_from_sorted, sorted_far}
use Rattle.inc_lookup.specs.declared.projects.DirectiveId.{DirectiveId}
use Rattle.inc_lookup.specs.DirectiveLists.{is_listed, place_cmp, AreInOrder}

pub place_total : IsTotalOrder place_cmp
place_total = then_total (on_total (λ (d : DirectiveId). d.file) nat_cmp_total) (on_total (λ (d : DirectiveId). d.line) nat_cmp_total)

---- one directive

abbrev is_equal : Ordering → Bool
is_equal Equal = true
is_equal _ = false

-- it is at a place where it compares equal with it
same_place : (x y u v : ℕ) (o p : Ordering) → MatchOrdering o (x < y) (x ≡ y) (y < x) → MatchOrdering p (u < v) (u ≡ v) (v < u) → ((x == y) && (u == v)) ≡ is_equal (ordering_then o p)
same_place x y u v Less p h k = ap (λ b. b && (u == v)) (ne_eqb x y (omega arith))
same_place x y u v Greater p h k = ap (λ b. b && (u == v)) (ne_eqb x y (omega arith))
same_place x y u v Equal Less h k = ap (λ b. b && (u == v)) (eq-eqb x y h) ∙ ne_eqb u v (omega arith)
same_place x y u v Equal Greater h k = ap (λ b. b && (u == v)) (eq-eqb x y h) ∙ ne_eqb u v (omega arith)
same_place x y u v Equal Equal h k = ap (λ b. b && (u == v)) (eq-eqb x y h) ∙ eq-eqb u v k

at_place : (d w : DirectiveId) → ((d.file == w.file) && (d.line == w.line)) ≡ is_equal (place_cmp d w)
at_place d w = same_place d.file w.file d.line w.line (nat_cmp d.file w.file) (nat_cmp d.line w.line) (ranks d.file w.file) (ranks d.line w.line)

-- what the search of directives in order answers
pub found : (ids sorted : List DirectiveId) → AreInOrder ids sorted → (w : DirectiveId) (r : Result ℕ ℕ) → IsSearchInRange r (length sorted)
    → IsBinarySearchResult (λ d. place_cmp d w) sorted r → is_ok r ≡ is_listed ids w.file w.line
found ids sorted h w r range result = by r range result ∙ sym (list_any-IsPermutation test ids sorted h.same)
  where
    test : DirectiveId → Bool
    test d = (d.file == w.file) && (d.line == w.line)

    by : (r : Result ℕ ℕ) → IsSearchInRange r (length sorted) → IsBinarySearchResult (λ d. place_cmp d w) sorted r → is_ok r ≡ list_any test sorted
    by (Ok i) within at = sym (list_any_at test sorted i w within (at_place (get_or sorted i w) w ∙ ap is_equal (at w)))
    by (Err i) within at =
        let point = at (searchable_from_sorted place_total (λ (d : DirectiveId). d) sorted w h.rising) in
        sym (list_any_none test sorted (λ k d lt.
        elim (cases_lt k i) [
          | inl below ↦ at_place (get_or sorted k d) w ∙ ap is_equal (point.0 k d (omega arith) below)
          | inr from ↦ at_place (get_or sorted k d) w ∙ ap is_equal (point.1 k d from lt)
        ]))

---- those of a file

file_rises : (a b : DirectiveId) → is_lt (place_cmp b a) ≡ false → a.file ≤ b.file
file_rises a b late = by (nat_cmp b.file a.file) (ranks b.file a.file) late
  where
    by : (o : Ordering) → MatchOrdering o (b.file < a.file) (b.file ≡ a.file) (a.file < b.file) → is_lt (ordering_then o (nat_cmp b.line a.line)) ≡ false → a.file ≤ b.file
    by Less h e = absurd (true≢false e)
    by Equal h e = omega arith
    by Greater h e = omega arith

module _ (ids sorted : List DirectiveId) (h : AreInOrder ids sorted) (file : ℕ) where
  files_rise : (i j : ℕ) (d : DirectiveId) → i ≤ j → j < length sorted → (get_or sorted i d).file ≤ (get_or sorted j d).file
  files_rise i j d le lt = file_rises (get_or sorted i d) (get_or sorted j d) (sorted_far (λ a b. is_lt (place_cmp a b)) (ranks_by place_total (λ (e : DirectiveId). e)) sorted h.rising i j d le lt)

  pub parted_below : IsPartitionedBy (λ (d : DirectiveId). nat_lt d.file file) sorted
  parted_below i j d le lt below =
      let rise = files_rise i j d le lt in
      let less = ltb-true (get_or sorted j d).file file below in
      lt-ltb (get_or sorted i d).file file (omega arith)

  module _ (from count : ℕ) (rest : List DirectiveId) (low : from ≤ length sorted) (begun : IsPartitionPoint (λ (d : DirectiveId). nat_lt d.file file ≡ true) (λ (d : DirectiveId). nat_lt d.file file ≡ false) sorted from) (are : rest ≡ drop from sorted) where
    at : (i : ℕ) (d : DirectiveId) → get_or rest i d ≡ get_or sorted (from + i) d
    at i d = ap (λ (ds : List DirectiveId). get_or ds i d) are ∙ get_or-drop from sorted i d

    size : length rest + from ≡ length sorted
    size = let e = ap length are in let long = length-drop from sorted in omega arith

    pub parted_at : IsPartitionedBy (λ (d : DirectiveId). d.file == file) rest
    parted_at i j d le lt equal =
        let rise = files_rise (from + i) (from + j) d (omega arith) (omega (arith, size)) in
        let last = eqb-true (get_or rest j d).file file equal in
        let more = ltb-false (get_or sorted (from + i) d).file file (begun.1 (from + i) d (omega arith) (omega (arith, size))) in
        eq-eqb (get_or rest i d).file file (omega (arith, ap (λ (e : DirectiveId). e.file) (at i d), ap (λ (e : DirectiveId). e.file) (at j d)))

    module _ (ended : IsPartitionPoint (λ (d : DirectiveId). (d.file == file) ≡ true) (λ (d : DirectiveId). (d.file == file) ≡ false) rest count) (line : ℕ) where
      abbrev test : DirectiveId → Bool
      test d = (d.file == file) && (d.line == line)

      before : list_any test (take from sorted) ≡ false
      before =
          list_any_none test (take from sorted) (λ k d lt.
          let inside : k < from = omega (arith, lt, length-take-le from sorted low) in
          let less = ltb-true (get_or sorted k d).file file (begun.0 k d (omega arith) inside) in
          ap test (get_or-take from sorted k d inside) ∙ ap (λ b. b && ((get_or sorted k d).line == line)) (ne_eqb (get_or sorted k d).file file (omega arith)))

      after : list_any test (drop count rest) ≡ false
      after =
          list_any_none test (drop count rest) (λ k d lt.
          ap test (get_or-drop count rest k d)
          ∙ ap (λ b. b && ((get_or rest (count + k) d).line == line)) (ended.1 (count + k) d (omega arith) (omega (arith, lt, length-drop count rest))))

      whole : list_any test sorted ≡ list_any test (take count rest)
      whole =
          ap (list_any test) (sym (take-append-drop from sorted)) ∙ list_any-append test (take from sorted) (drop from sorted) ∙ ap (λ b. b || list_any test (drop from sorted)) before
          ∙ ap (list_any test) (sym are) ∙ ap (list_any test) (sym (take-append-drop count rest)) ∙ list_any-append test (take count rest) (drop count rest)
          ∙ ap (λ b. list_any test (take count rest) || b) after ∙ or-false (list_any test (take count rest))

      lines_among : (ds : List DirectiveId) → All (λ (d : DirectiveId). (d.file == file) ≡ true) ds → list_any (λ k. k == line) (map (λ (d : DirectiveId). d.line) ds) ≡ list_any test ds
      lines_among [] all = refl
      lines_among (d ∷ ds) all =
          ap (λ b. (d.line == line) || b) (lines_among ds (All-tail (λ (e : DirectiveId). (e.file == file) ≡ true) d ds all))
          ∙ ap (λ b. (b && (d.line == line)) || list_any test ds) (sym (all 0 d (omega arith)))

      pub lines_listed : count ≤ length rest → list_any (λ k. k == line) (map (λ (d : DirectiveId). d.line) (take count rest)) ≡ is_listed ids file line
      lines_listed bound =
          lines_among (take count rest) (λ k d lt.
          let inside : k < count = omega (arith, lt, length-take-le count rest bound) in
          ap (λ (e : DirectiveId). e.file == file) (get_or-take count rest k d inside) ∙ ended.0 k d (omega arith) inside)
          ∙ sym whole ∙ sym (list_any-IsPermutation test ids sorted h.same)
