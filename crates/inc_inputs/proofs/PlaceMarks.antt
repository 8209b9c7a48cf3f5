-- What the words about places stand for, one more at a time.
use Rattle.std.proofs.Common.{◌≡◌, ℕ, ◌+◌, ◌<◌, Bool, false, List, [], ◌∷◌, ◌++◌, Option, Ok, Err, length, take, drop, get_or, map, refl, sym, ap, ap₂, ◌∙◌, arith, add-one}
use Rattle.std.specs.Prelude.{◌&&◌, ◌||◌, filter_map, is_some, not}
use Rattle.std.specs.List.{range_with_len}
use Rattle.std.proofs.lemmas.Bool.{cond-false}
use Rattle.std.proofs.Math.Seq.{take-suc}
use Rattle.std.proofs.lemmas.List.{append_assoc, drop_more, get_or-map, length-map}
use Rattle.std.proofs.lemmas.List.Elements.{filter_map-append}
use Rattle.inc_lookup.specs.Projects.{Layout}
use Rattle.inc_graph.specs.Marks.{Mark}
use Rattle.inc_graph.specs.Members.{is_member}
use Rattle.inc_inputs.specs.Ends.{is_empty, named_files}
use Rattle.inc_inputs.specs.PlaceWords.{line_colon, name_colon}
use Rattle.inc_inputs.specs.Places.{Marks, kept_flags, marks_after, marks_behind, whole_words, word_marks, words_marks}
use Rattle.inc_inputs.specs.Reports.{Report}
use Rattle.inc_inputs.specs.declared.sides.Side.{Side}
use Rattle.inc_inputs.proofs.EndLemmas.{filter_next, path_behind}

---- marks of words

behind_both : (ms ns : List Mark) (r : Marks) → marks_behind ms (marks_behind ns r) ≡ marks_behind (ms ++ ns) r
behind_both ms ns (Ok more) = ap (λ (xs : List Mark). Ok xs) (sym (append_assoc ms ns more))
behind_both ms ns (Err r) = refl

module _ {X : Type 0} (f : X → List ℕ) (layout : Layout) (side : Side) (xs : List X) where
  abbrev pub marks_left : ℕ → Marks
  marks_left i = words_marks layout side (drop i (map f xs))

  module _ (i : ℕ) (d : X) (low : i < length xs) where
    short : i < length (map f xs)
    short = omega (arith, low, length-map xs f)

    next : marks_left i ≡ marks_after (word_marks layout side (f (get_or xs i d))) (marks_left (i + 1))
    next =
        ap (words_marks layout side) (drop_more (map f xs) i [] short)
        ∙ ap (λ (w : List ℕ). marks_after (word_marks layout side w) (marks_left (i + 1))) (get_or-map f xs i d [] low)

    pub marks_more : (done more : List Mark) (all : Marks) → word_marks layout side (f (get_or xs i d)) ≡ Ok more → marks_behind done (marks_left i) ≡ all
        → marks_behind (done ++ more) (marks_left (i + 1)) ≡ all
    marks_more done more all is so_far =
        sym (behind_both done more (marks_left (i + 1))) ∙ ap (λ (r : Marks). marks_behind done (marks_after r (marks_left (i + 1)))) (sym is) ∙ ap (marks_behind done) (sym next) ∙ so_far

    pub marks_fault : (done : List Mark) (all : Marks) (r : Report) → word_marks layout side (f (get_or xs i d)) ≡ Err r → marks_behind done (marks_left i) ≡ all → Err r ≡ all
    marks_fault done all r is so_far = ap (λ (x : Marks). marks_behind done (marks_after x (marks_left (i + 1)))) (sym is) ∙ ap (marks_behind done) (sym next) ∙ so_far

---- lists that grow

module _ {X : Type 0} (f : X → List ℕ) (xs : List X) (i : ℕ) (d : X) (low : i < length xs) where
  within : i < length (map f xs)
  within = omega (arith, low, length-map xs f)

  -- the mark of one path more
  pub pushed_next : (p : List ℕ → Option Mark) (start old new : List Mark) → old ≡ start ++ filter_map p (take i (map f xs))
      → new ≡ old ++ filter_map p (f (get_or xs i d) ∷ []) → new ≡ start ++ filter_map p (take (i + 1) (map f xs))
  pushed_next p start old new so_far is =
      is ∙ ap (λ (ms : List Mark). ms ++ filter_map p (f (get_or xs i d) ∷ [])) so_far
      ∙ append_assoc start (filter_map p (take i (map f xs))) (filter_map p (f (get_or xs i d) ∷ []))
      ∙ ap (λ (q : List ℕ). start ++ (filter_map p (take i (map f xs)) ++ filter_map p (q ∷ []))) (sym (path_behind f xs i d low))
      ∙ ap (λ (ms : List Mark). start ++ ms) (sym (ap (λ (n : ℕ). filter_map p (take n (map f xs))) (add-one i) ∙ ap (filter_map p) (take-suc (map f xs) i [] within)
      ∙ filter_map-append p (take i (map f xs)) (get_or (map f xs) i [] ∷ [])))

  -- one word more, if it has no line and no name
  pub whole_next : (old new : List (List ℕ)) → old ≡ whole_words (take i (map f xs)) → new ≡ old ++ whole_words (f (get_or xs i d) ∷ []) → new ≡ whole_words (take (i + 1) (map f xs))
  whole_next old new so_far is =
      is ∙ ap (λ (ws : List (List ℕ)). ws ++ whole_words (f (get_or xs i d) ∷ [])) so_far
      ∙ ap (λ (q : List ℕ). whole_words (take i (map f xs)) ++ whole_words (q ∷ [])) (sym (path_behind f xs i d low))
      ∙ sym (filter_next (λ w. not (is_some (line_colon w) || is_some (name_colon w))) (map f xs) i [] within)

---- flags

-- where a file is kept, the flags of all files are these
pub kept_made : (layout : Layout) (keep only : List (List ℕ)) (count : ℕ) (has_only : Bool) → count ≡ length layout.paths → has_only ≡ not (is_empty only)
    → (is_empty keep && is_empty only) ≡ false
    → map (λ f. is_member f (named_files layout keep) || (has_only && not (is_member f (named_files layout only)))) (range_with_len 0 count) ≡ kept_flags layout keep only
kept_made layout keep only count has_only all are some =
    ap₂ (λ (n : ℕ) (b : Bool). map (λ f. is_member f (named_files layout keep) || (b && not (is_member f (named_files layout only)))) (range_with_len 0 n)) all are
    ∙ sym (cond-false (is_empty keep && is_empty only) [] (map (λ f. is_member f (named_files layout keep) || (not (is_empty only) && not (is_member f (named_files layout only)))) (range_with_len 0 (length layout.paths))) some)
