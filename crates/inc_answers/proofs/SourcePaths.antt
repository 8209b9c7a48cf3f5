-- Files as sources, each with the include paths with which a question reads it.
use Rattle.std.proofs.Common.{◌≡◌, ◌≢◌, ℕ, suc, ◌+◌, ◌<◌, ◌≤◌, Bool, true, not, List, [], ◌∷◌, ◌++◌, Option, Some, None, length, get_or, refl, ap, sym, ◌∙◌, arith}
use Rattle.std.specs.Prelude.{map, nat_lt, option_map, slice_index_or}
use Rattle.std.specs.List.{All, list_all, range_with_len}
use Rattle.std.specs.List.Sorted.{IsStrictlyIncreasing}
use Rattle.std.proofs.lemmas.Bool.{and_from, le-ltb, ltb-true, not_from_false}
use Rattle.std.proofs.lemmas.Option.{none-some}
use Rattle.std.proofs.lemmas.List.{append_assoc, length-append, length-map, map-append}
use Rattle.std.proofs.lemmas.List.Elements.{All-append, All-cons, All-head, All-map, All-nil, All-tail, filter_passes}
use Rattle.std.proofs.lemmas.List.Folds.{list_all-append}
use Rattle.std.proofs.lemmas.List.FromFn.{get_or-range_with_len, length-range_with_len}
use Rattle.std.proofs.lemmas.List.Kept.{AllPairs-from_increasing}
use Rattle.inc_graph.specs.IncludeGraph.{are_rising}
use Rattle.inc_graph.specs.declared.building.Source.{Source}
use Rattle.inc_answers.specs.NamedFiles.{given_paths, or_each, source_of, source_paths, sources_of}
use Rattle.inc_answers.specs.Terms.{Question}
use Rattle.inc_answers.proofs.NameLemmas.{range_more}

range_below : (n : ℕ) → All (λ k. k < n) (range_with_len 0 n)
range_below n = λ i d h.
    let low : i < n = omega (arith, length-range_with_len 0 n) in
    omega (arith, get_or-range_with_len 0 n i d low)

pub none_as_seen : {A B : Type 0} (f : A → B) (o : Option A) → option_map f o ≡ None → o ≡ None
none_as_seen f None e = refl
none_as_seen f (Some x) e = absurd (none-some (f x) (sym e))

-- one include path more
pub one_more : (so_far old : List Source) (f n : ℕ) → so_far ≡ old ++ map (source_of f) (range_with_len 0 n)
    → so_far ++ source_of f n ∷ [] ≡ old ++ map (source_of f) (range_with_len 0 (n + 1))
one_more so_far old f n is =
    let last : 0 + n ≡ n = omega arith in
    let next : map (source_of f) (range_with_len 0 (n + 1)) ≡ map (source_of f) (range_with_len 0 n) ++ source_of f n ∷ [] =
    ap (map (source_of f)) (range_more 0 n ∙ ap (λ (k : ℕ). range_with_len 0 n ++ k ∷ []) last) ∙ map-append (source_of f) (range_with_len 0 n) (n ∷ []) in
    ap (λ (ss : List Source). ss ++ source_of f n ∷ []) is ∙ append_assoc old (map (source_of f) (range_with_len 0 n)) (source_of f n ∷ [])
    ∙ ap (λ (ss : List Source). old ++ ss) (sym next)

each_below : (n : ℕ) (ks : List ℕ) → All (λ k. k < n) ks → All (λ k. k < n) (or_each n ks)
each_below n [] b = range_below n
each_below n (k ∷ ks) b = b

each_some : (n : ℕ) (ks : List ℕ) → 0 < length (or_each (suc n) ks)
each_some n [] = omega arith
each_some n (k ∷ ks) = omega arith

-- of what is added to a list either something is there, or all
pub added_some : (old : List Source) (f n : ℕ) (ks : List ℕ) → length (old ++ map (source_of f) ks) ≢ length old → old ++ map (source_of f) ks ≡ old ++ map (source_of f) (or_each n ks)
added_some old f n [] ne = absurd (ne (length-append old [] ∙ omega arith))
added_some old f n (k ∷ ks) ne = refl

pub added_none : (old : List Source) (f n : ℕ) (ks : List ℕ) → length (old ++ map (source_of f) ks) ≡ length old → ks ≡ []
added_none old f n [] e = refl
added_none old f n (k ∷ ks) e = let l = length-append old (map (source_of f) (k ∷ ks)) in absurd (omega (arith, l, e))

-- those of a file have it
of_file : (P : ℕ → Type 0) (f : ℕ) → P f → (ks : List ℕ) → All (λ (s : Source). P s.file) (map (source_of f) ks)
of_file P f p [] = All-nil (λ (s : Source). P s.file)
of_file P f p (k ∷ ks) = All-cons (λ (s : Source). P s.file) (source_of f k) (map (source_of f) ks) p (of_file P f p ks)

abbrev are_from : (f : ℕ) → List Source → Bool
are_from f ss = list_all (λ (t : Source). not (nat_lt t.file f)) ss

file_from : (f g : ℕ) → f ≤ g → (ks : List ℕ) → are_from f (map (source_of g) ks) ≡ true
file_from f g low [] = refl
file_from f g low (k ∷ ks) = and_from (not (nat_lt g f)) (are_from f (map (source_of g) ks)) (not_from_false (nat_lt g f) (le-ltb g f low)) (file_from f g low ks)

-- a file before others that are not lower
one_rises : (f : ℕ) (ks : List ℕ) (more : List Source) → are_from f more ≡ true → are_rising more ≡ true → are_rising (map (source_of f) ks ++ more) ≡ true
one_rises f [] more low up = up
one_rises f (k ∷ ks) more low up =
    let mine : List Source = map (source_of f) ks in
    and_from (are_from f (mine ++ more)) (are_rising (mine ++ more))
    (list_all-append (λ (t : Source). not (nat_lt t.file f)) mine more ∙ and_from (are_from f mine) (are_from f more) (file_from f f (omega arith) ks) low)
    (one_rises f ks more low up)

module _ (q : Question) where
  abbrev pub count : ℕ
  count = suc (length q.others)

  given_below : (ks : List ℕ) → All (λ k. k < count) (given_paths count ks)
  given_below ks = λ i d low. ltb-true (get_or (given_paths count ks) i d) count (filter_passes (λ k. nat_lt k count) ks i d low)

  paths_below : (f : ℕ) → All (λ k. k < count) (source_paths q f)
  paths_below f = each_below count (given_paths count (slice_index_or q.read_with f [])) (given_below (slice_index_or q.read_with f []))

  pub sources_paths : (files : List ℕ) → All (λ (s : Source). s.path < count) (sources_of q files)
  sources_paths [] = All-nil (λ (s : Source). s.path < count)
  sources_paths (f ∷ fs) =
      All-append (λ (s : Source). s.path < count) (map (source_of f) (source_paths q f)) (sources_of q fs)
      (All-map (λ (s : Source). s.path < count) (source_of f) (source_paths q f) (paths_below f)) (sources_paths fs)

  pub sources_within : (n : ℕ) (files : List ℕ) → All (λ f. f < n) files → All (λ (s : Source). s.file < n) (sources_of q files)
  sources_within n [] within = All-nil (λ (s : Source). s.file < n)
  sources_within n (f ∷ fs) within =
      All-append (λ (s : Source). s.file < n) (map (source_of f) (source_paths q f)) (sources_of q fs)
      (of_file (λ g. g < n) f (All-head (λ g. g < n) f fs within) (source_paths q f)) (sources_within n fs (All-tail (λ g. g < n) f fs within))

  pub some_sources : (files : List ℕ) → 0 < length files → 0 < length (sources_of q files)
  some_sources [] some = some
  some_sources (f ∷ fs) some =
      let both = length-append (map (source_of f) (source_paths q f)) (sources_of q fs) in
      let own = length-map (source_paths q f) (source_of f) in
      let first : 0 < length (source_paths q f) = each_some (length q.others) (given_paths count (slice_index_or q.read_with f [])) in
      omega (arith, both, own, first)

  all_from : (f : ℕ) (fs : List ℕ) → ((k : ℕ) → k < length fs → f < get_or fs k 0) → are_from f (sources_of q fs) ≡ true
  all_from f [] low = refl
  all_from f (g ∷ gs) low =
      let first = low 0 (omega arith) in
      list_all-append (λ (t : Source). not (nat_lt t.file f)) (map (source_of g) (source_paths q g)) (sources_of q gs)
      ∙ and_from (are_from f (map (source_of g) (source_paths q g))) (are_from f (sources_of q gs)) (file_from f g (omega arith) (source_paths q g))
      (all_from f gs (λ k less. low (suc k) (omega arith)))

  rise : (fs : List ℕ) → ((j k : ℕ) → j < k → k < length fs → get_or fs j 0 < get_or fs k 0) → are_rising (sources_of q fs) ≡ true
  rise [] up = refl
  rise (f ∷ fs) up =
      one_rises f (source_paths q f) (sources_of q fs) (all_from f fs (λ k low. up 0 (suc k) (omega arith) (omega arith)))
      (rise fs (λ j k less low. up (suc j) (suc k) (omega arith) (omega arith)))

  pub sources_rise : (files : List ℕ) → IsStrictlyIncreasing files → are_rising (sources_of q files) ≡ true
  sources_rise files up = rise files (λ j k less low. AllPairs-from_increasing files up j k 0 less low)
