-- What words of --from and --to stand for, one more at a time.
use Rattle.std.proofs.Common.{◌≡◌, ℕ, ◌+◌, ◌<◌, Bool, true, List, [], ◌∷◌, ◌++◌, Option, Some, None, Ok, Err, length, take, drop, get_or, map, set, refl, sym, ap, ◌∙◌, subst, arith, add-one, length-append}
use Rattle.std.specs.Prelude.{filter, not, unwrap_or}
use Rattle.std.specs.List.{cons_option}
use Rattle.std.proofs.Math.Seq.{take-suc, take-append_seam, take-append-add}
use Rattle.std.proofs.lemmas.List.{append-nil, append_assoc, drop_more, get_or-map, length-map}
use Rattle.std.proofs.lemmas.List.Elements.{filter-append, filter_map-append}
use Rattle.std.proofs.lemmas.Option.{slice_get-get_or}
use Rattle.inc_lookup.specs.Projects.{Layout, found_as, path_at}
use Rattle.inc_globs.specs.Globs.{Piece, fits}
use Rattle.inc_graph.specs.FileSets.{AreFlags}
use Rattle.inc_graph.proofs.Members.{flags_more}
use Rattle.inc_inputs.specs.Ends.{Paths, after, apart, before, is_path_of, joined_paths, named_files, word_paths}
use Rattle.inc_inputs.specs.Reports.{Report}
use Rattle.inc_inputs.specs.declared.sides.Side.{Side}

---- words

before_both : (ps qs : List (List ℕ)) (r : Paths) → before ps (before qs r) ≡ before (ps ++ qs) r
before_both ps qs (Ok rs) = ap (λ (xs : List (List ℕ)). Ok xs) (sym (append_assoc ps qs rs))
before_both ps qs (Err r) = refl

module _ {X : Type 0} (f : X → List ℕ) (layout : Layout) (side : Side) (xs : List X) where
  abbrev pub rest : ℕ → Paths
  rest i = joined_paths layout side (drop i (map f xs))

  module _ (i : ℕ) (d : X) (low : i < length xs) where
    short : i < length (map f xs)
    short = omega (arith, low, length-map xs f)

    next : rest i ≡ after (word_paths layout side (f (get_or xs i d))) (rest (i + 1))
    next =
        ap (joined_paths layout side) (drop_more (map f xs) i [] short)
        ∙ ap (λ (w : List ℕ). after (word_paths layout side w) (rest (i + 1))) (get_or-map f xs i d [] low)

    pub word_more : (done more : List (List ℕ)) (all : Paths) → word_paths layout side (f (get_or xs i d)) ≡ Ok more → before done (rest i) ≡ all
        → before (done ++ more) (rest (i + 1)) ≡ all
    word_more done more all is so_far =
        sym (before_both done more (rest (i + 1))) ∙ ap (λ (r : Paths). before done (after r (rest (i + 1)))) (sym is) ∙ ap (before done) (sym next) ∙ so_far

    pub word_fault : (done : List (List ℕ)) (all : Paths) (r : Report) → word_paths layout side (f (get_or xs i d)) ≡ Err r → before done (rest i) ≡ all → Err r ≡ all
    word_fault done all r is so_far = ap (λ (x : Paths). before done (after x (rest (i + 1)))) (sym is) ∙ ap (before done) (sym next) ∙ so_far

  pub words_end : (i : ℕ) (done : List (List ℕ)) (all : Paths) → i ≡ length xs → before done (rest i) ≡ all → Ok done ≡ all
  words_end i done all end so_far =
      let last : i ≡ length (map f xs) = end ∙ sym (length-map xs f) in
      ap (λ (ps : List (List ℕ)). Ok ps) (sym (append-nil done))
      ∙ ap (λ (ws : List (List ℕ)). before done (joined_paths layout side ws)) (sym (ap (λ (k : ℕ). drop k (map f xs)) last ∙ none_left (map f xs)))
      ∙ so_far
    where
      none_left : (ws : List (List ℕ)) → drop (length ws) ws ≡ []
      none_left [] = refl
      none_left (w ∷ ws) = none_left ws

---- elements that pass a test

pub filter_next : (p : List ℕ → Bool) (ps : List (List ℕ)) (i : ℕ) (d : List ℕ) → i < length ps → filter p (take (i + 1) ps) ≡ filter p (take i ps) ++ filter p (get_or ps i d ∷ [])
filter_next p ps i d low =
    ap (λ (n : ℕ). filter p (take n ps)) (add-one i) ∙ ap (filter p) (take-suc ps i d low) ∙ filter-append p (take i ps) (get_or ps i d ∷ [])

---- flags

last_at : (fs : List ℕ) (f d : ℕ) → get_or (fs ++ f ∷ []) (length fs) d ≡ f
last_at [] f d = refl
last_at (g ∷ gs) f d = last_at gs f d

pub flag_more : (fs : List ℕ) (f : ℕ) (flags : List Bool) → f < length flags → AreFlags fs flags → AreFlags (fs ++ f ∷ []) (set flags f true)
flag_more fs f flags within are =
    let low : length fs < length (fs ++ f ∷ []) = omega (arith, length-append fs (f ∷ [])) in
    let more = flags_more (fs ++ f ∷ []) (length fs) f flags low (sym (last_at fs f f)) within
    (subst (λ (gs : List ℕ). AreFlags gs flags) (sym (take-append_seam fs (f ∷ []))) are) in
    subst (λ (gs : List ℕ). AreFlags gs (set flags f true)) (take-append-add fs (f ∷ []) 1) more

pub names_one : (layout : Layout) (p : List ℕ) (f : ℕ) → found_as layout.paths p ≡ Some f → named_files layout (p ∷ []) ≡ f ∷ []
names_one layout p f is = ap (λ (o : Option ℕ). cons_option o []) is

pub names_none : (layout : Layout) (p : List ℕ) → found_as layout.paths p ≡ None → named_files layout (p ∷ []) ≡ []
names_none layout p is = ap (λ (o : Option ℕ). cons_option o []) is

pub named_next : (layout : Layout) (ps : List (List ℕ)) (i : ℕ) (d : List ℕ) → i < length ps → named_files layout (take (i + 1) ps) ≡ named_files layout (take i ps) ++ named_files layout (get_or ps i d ∷ [])
named_next layout ps i d low =
    ap (λ (n : ℕ). named_files layout (take n ps)) (add-one i) ∙ ap (named_files layout) (take-suc ps i d low)
    ∙ filter_map-append (found_as layout.paths) (take i ps) (get_or ps i d ∷ [])

-- the path behind a reference
pub path_behind : {X : Type 0} (f : X → List ℕ) (xs : List X) (i : ℕ) (d : X) → i < length xs → get_or (map f xs) i [] ≡ f (get_or xs i d)
path_behind f xs i d low = get_or-map f xs i d [] low

-- the paths of a project that a glob fits, one more
pub fits_next : (layout : Layout) (now first : List Piece) (start old new : List (List ℕ)) (i : ℕ) → i < length layout.paths → now ≡ first
    → old ≡ start ++ filter (fits first) (take i layout.paths) → new ≡ old ++ filter (fits now) (path_at layout i ∷ [])
    → new ≡ start ++ filter (fits first) (take (i + 1) layout.paths)
fits_next layout now first start old new i low same so_far is =
    let here : path_at layout i ≡ get_or layout.paths i [] = ap (λ (o : Option (List ℕ)). unwrap_or o []) (slice_get-get_or layout.paths i [] low) in
    is
    ∙ ap (λ (g : List Piece). old ++ filter (fits g) (path_at layout i ∷ [])) same
    ∙ ap (λ (ps : List (List ℕ)). ps ++ filter (fits first) (path_at layout i ∷ [])) so_far
    ∙ append_assoc start (filter (fits first) (take i layout.paths)) (filter (fits first) (path_at layout i ∷ []))
    ∙ ap (λ (p : List ℕ). start ++ (filter (fits first) (take i layout.paths) ++ filter (fits first) (p ∷ []))) here
    ∙ ap (λ (ps : List (List ℕ)). start ++ ps) (sym (filter_next (fits first) layout.paths i [] low))

module _ {X : Type 0} (f : X → List ℕ) (layout : Layout) (xs : List X) (i : ℕ) (d : X) (low : i < length xs) where
  within : i < length (map f xs)
  within = omega (arith, low, length-map xs f)

  -- flags for the files of one path more
  pub flags_next : (flags : List Bool) → AreFlags (named_files layout (take i (map f xs)) ++ named_files layout (f (get_or xs i d) ∷ [])) flags
      → AreFlags (named_files layout (take (i + 1) (map f xs))) flags
  flags_next flags are =
      subst (λ (fs : List ℕ). AreFlags fs flags)
      (sym (named_next layout (map f xs) i [] within ∙ ap (λ (p : List ℕ). named_files layout (take i (map f xs)) ++ named_files layout (p ∷ [])) (path_behind f xs i d low))) are

  -- one path more that is apart from headers
  pub apart_next : (headers old new : List (List ℕ)) → old ≡ apart layout (take i (map f xs)) headers
      → new ≡ old ++ filter (λ p. not (is_path_of layout (named_files layout headers) p)) (f (get_or xs i d) ∷ []) → new ≡ apart layout (take (i + 1) (map f xs)) headers
  apart_next headers old new so_far is =
      let p : List ℕ → Bool = λ q. not (is_path_of layout (named_files layout headers) q) in
      is ∙ ap (λ (ps : List (List ℕ)). ps ++ filter p (f (get_or xs i d) ∷ [])) so_far
      ∙ ap (λ (q : List ℕ). filter p (take i (map f xs)) ++ filter p (q ∷ [])) (sym (path_behind f xs i d low))
      ∙ sym (filter_next p (map f xs) i [] within)
