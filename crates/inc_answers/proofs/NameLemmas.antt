-- Which files paths name: one path more, and what holds of all of them.
use Rattle.std.proofs.Common.{◌≡◌, ℕ, zero, suc, ◌+◌, ◌<◌, ◌≤◌, Bool, true, false, List, [], ◌∷◌, ◌++◌, Option, Some, None, Result, Ok, Err, length, take, drop, get_or, map, cond, set, refl, sym, ap, ◌∙◌, subst, arith, inl, inr, add-one, length-append}
use Rattle.std.specs.Prelude.{◌==◌, filter, filter_map, option_and_then, slice_index_or, Contains}
use Rattle.std.specs.List.{All, cons_option, position_from, range_with_len}
use Rattle.std.specs.List.Sorted.{IsStrictlyIncreasing}
use Rattle.std.specs.Option.{is_none, option_map_or}
use Rattle.std.proofs.Math.Seq.{take-suc, take-append_seam, take-append-add}
use Rattle.std.proofs.lemmas.Bool.{cases_eq, cases_lt, eq-eqb, ne_eqb, or_left}
use Rattle.std.proofs.lemmas.Iterator.Adapters.{position_from-zero}
use Rattle.std.proofs.lemmas.List.{get_or-map, length-map}
use Rattle.std.proofs.lemmas.List.Elements.{All-filter, filter-append, filter_agree, filter_map-append}
use Rattle.std.proofs.lemmas.List.FromFn.{get_or-range_with_len, length-range_with_len}
use Rattle.std.proofs.lemmas.List.Kept.{IsStrictlyIncreasing-filter}
use Rattle.std.proofs.lemmas.List.Quantifiers.{position-Some}
use Rattle.inc_lookup.specs.Paths.{normal_form}
use Rattle.inc_lookup.specs.Projects.{Layout, place_of}
use Rattle.inc_graph.specs.FileSets.{AreFlags}
use Rattle.inc_graph.specs.Members.{is_member}
use Rattle.inc_graph.proofs.ClosureWalks.{contains_none, kept}
use Rattle.inc_graph.proofs.Lists.{drop_read}
use Rattle.inc_graph.proofs.Members.{flags_more, member_of_one}
use Rattle.inc_answers.specs.NamedFiles.{file_at, files_among, files_at, first_unnamed, some_files_at}

-- one file more
last_at : (fs : List ℕ) (f d : ℕ) → get_or (fs ++ f ∷ []) (length fs) d ≡ f
last_at [] f d = refl
last_at (g ∷ gs) f d = last_at gs f d

pub flag_more : (fs : List ℕ) (f : ℕ) (flags : List Bool) → f < length flags → AreFlags fs flags → AreFlags (fs ++ f ∷ []) (set flags f true)
flag_more fs f flags within are =
    let low : length fs < length (fs ++ f ∷ []) = omega (arith, length-append fs (f ∷ [])) in
    let more = flags_more (fs ++ f ∷ []) (length fs) f flags low (sym (last_at fs f f)) within
    (subst (λ (gs : List ℕ). AreFlags gs flags) (sym (take-append_seam fs (f ∷ []))) are) in
    subst (λ (gs : List ℕ). AreFlags gs (set flags f true)) (take-append-add fs (f ∷ []) 1) more

---- one path more

-- the path names no file
abbrev pub unnamed : Layout → List ℕ → Bool
unnamed layout p = is_none (file_at layout p)

module _ (layout : Layout) (ps : List (List ℕ)) where
  -- the first path that names no file is among those from this place on
  abbrev pub IsLater : ℕ → Type 0
  IsLater i = position_from (unnamed layout) i (drop i ps) ≡ position_from (unnamed layout) 0 ps

  module _ (i : ℕ) (p : List ℕ) (low : i < length ps) (at : p ≡ get_or ps i p) where
    at_place : (b : Bool) → unnamed layout p ≡ b → position_from (unnamed layout) i (drop i ps) ≡ cond b (Some i) (position_from (unnamed layout) (i + 1) (drop (i + 1) ps))
    at_place b is =
        ap (position_from (unnamed layout) i) (drop_read ps i p low at)
        ∙ ap (λ (c : Bool). cond c (Some i) (position_from (unnamed layout) (i + 1) (drop (i + 1) ps))) is

    pub found_none : file_at layout p ≡ None → IsLater i → files_at layout ps ≡ Err i
    found_none none later =
        let first : first_unnamed layout ps ≡ Some i =
        position_from-zero (unnamed layout) ps ∙ sym later ∙ at_place true (ap (λ (o : Option ℕ). is_none o) none) in
        ap (λ (o : Option ℕ). elim o [ None ↦ Ok (files_among layout (filter_map (file_at layout) ps)) | Some j ↦ Err j ]) first

    module _ (f : ℕ) (there : file_at layout p ≡ Some f) where
      pub later_next : IsLater i → IsLater (i + 1)
      later_next later = sym (at_place false (ap (λ (o : Option ℕ). is_none o) there)) ∙ later

      one_more : filter_map (file_at layout) (take (i + 1) ps) ≡ filter_map (file_at layout) (take i ps) ++ f ∷ []
      one_more =
          ap (λ (n : ℕ). filter_map (file_at layout) (take n ps)) (add-one i)
          ∙ ap (filter_map (file_at layout)) (take-suc ps i p low)
          ∙ ap (λ (q : List ℕ). filter_map (file_at layout) (take i ps ++ q ∷ [])) (sym at)
          ∙ filter_map-append (file_at layout) (take i ps) (p ∷ [])
          ∙ ap (λ (o : Option ℕ). filter_map (file_at layout) (take i ps) ++ cons_option o []) there

      pub flags_next : (flags : List Bool) → f < length flags → AreFlags (filter_map (file_at layout) (take i ps)) flags
          → AreFlags (filter_map (file_at layout) (take (i + 1) ps)) (set flags f true)
      flags_next flags within are =
          subst (λ (fs : List ℕ). AreFlags fs (set flags f true)) (sym one_more) (flag_more (filter_map (file_at layout) (take i ps)) f flags within are)

  pub all_named : IsLater (length ps) → first_unnamed layout ps ≡ None
  all_named later = position_from-zero (unnamed layout) ps ∙ sym later ∙ ap (position_from (unnamed layout) (length ps)) (none_left ps)
    where
      none_left : (qs : List (List ℕ)) → drop (length qs) qs ≡ []
      none_left [] = refl
      none_left (q ∷ qs) = none_left qs

-- the same of paths behind references
module _ {X : Type 0} (f : X → List ℕ) (layout : Layout) (xs : List X) (i : ℕ) (d : X) (low : i < length xs) (later : IsLater layout (map f xs) i) where
  path : List ℕ
  path = f (get_or xs i d)

  short : i < length (map f xs)
  short = omega (arith, low, length-map xs f)

  read : path ≡ get_or (map f xs) i path
  unfolding path
  read = sym (get_or-map f xs i d (f (get_or xs i d)) low)

  pub read_none : file_at layout (f (get_or xs i d)) ≡ None → files_at layout (map f xs) ≡ Err i
  unfolding path
  read_none none = found_none layout (map f xs) i path short read none later

  module _ (file : ℕ) (there : file_at layout (f (get_or xs i d)) ≡ Some file) where
    pub read_next : IsLater layout (map f xs) (i + 1)
    unfolding path
    read_next = later_next layout (map f xs) i path short read file there later

    pub read_flags : (flags : List Bool) → file < length flags → AreFlags (filter_map (file_at layout) (take i (map f xs))) flags
        → AreFlags (filter_map (file_at layout) (take (i + 1) (map f xs))) (set flags file true)
    unfolding path
    read_flags flags within are = flags_next layout (map f xs) i path short read file there flags within are

---- the files that have a flag

pub range_more : (a n : ℕ) → range_with_len a (n + 1) ≡ range_with_len a n ++ (a + n) ∷ []
range_more a zero = ap (λ (x : ℕ). x ∷ []) (omega arith)
range_more a (suc n) =
    let next : suc n + 1 ≡ suc (n + 1) = omega arith in
    let last : (a + 1) + n ≡ a + suc n = omega arith in
    ap (range_with_len a) next
    ∙ ap (λ (xs : List ℕ). a ∷ xs) (range_more (a + 1) n ∙ ap (λ (x : ℕ). range_with_len (a + 1) n ++ x ∷ []) last)

pub filter_more : (p : ℕ → Bool) (n : ℕ) → filter p (range_with_len 0 (n + 1)) ≡ filter p (range_with_len 0 n) ++ filter p (n ∷ [])
filter_more p n =
    let last : 0 + n ≡ n = omega arith in
    ap (filter p) (range_more 0 n ∙ ap (λ (x : ℕ). range_with_len 0 n ++ x ∷ []) last) ∙ filter-append p (range_with_len 0 n) (n ∷ [])

---- all of them

module _ (layout : Layout) (ps : List (List ℕ)) where
  module _ (flags held : List Bool) (fs : List ℕ) (same : flags ≡ held) (are : AreFlags (filter_map (file_at layout) ps) held)
      (is : fs ≡ filter (λ f. slice_index_or flags f false) (range_with_len 0 (length layout.paths))) where
    pub flagged_among : fs ≡ files_among layout (filter_map (file_at layout) ps)
    flagged_among =
        is ∙ filter_agree (λ f. slice_index_or flags f false) (λ f. is_member f (filter_map (file_at layout) ps))
        (λ f. ap (λ (bs : List Bool). slice_index_or bs f false) same ∙ are f) (range_with_len 0 (length layout.paths))

    pub flagged_are : first_unnamed layout ps ≡ None → files_at layout ps ≡ Ok fs
    flagged_are named =
        ap (λ (o : Option ℕ). elim o [ None ↦ Ok (files_among layout (filter_map (file_at layout) ps)) | Some i ↦ Err i ]) named
        ∙ ap (λ (xs : List ℕ). Ok xs) (sym flagged_among)

  by_first : (o : Option ℕ) (all : List ℕ) (fs : List ℕ) → ◌≡◌ {A = Result (List ℕ) ℕ} (elim o [ None ↦ Ok all | Some i ↦ Err i ]) (Ok fs) → fs ≡ all
  by_first None all fs is = cc
  by_first (Some i) all fs is = absurd (apart is)
    where
      apart : {i : ℕ} {x : List ℕ} → Err i ≡ Ok x → ⊥
      apart e = cc

  pub are_among : (fs : List ℕ) → files_at layout ps ≡ Ok fs → fs ≡ files_among layout (filter_map (file_at layout) ps)
  are_among fs is = by_first (first_unnamed layout ps) (files_among layout (filter_map (file_at layout) ps)) fs is

range_within : (n : ℕ) → All (λ f. f < n) (range_with_len 0 n)
range_within n k d low =
    let long = length-range_with_len 0 n in
    let at : get_or (range_with_len 0 n) k d ≡ 0 + k = get_or-range_with_len 0 n k d (omega (arith, low, long)) in
    omega (arith, at, low, long)

range_rises : (n : ℕ) → IsStrictlyIncreasing (range_with_len 0 n)
range_rises n k low =
    let long = length-range_with_len 0 n in
    let here : slice_index_or (range_with_len 0 n) k 0 ≡ 0 + k = get_or-range_with_len 0 n k 0 (omega (arith, low, long)) in
    let next : slice_index_or (range_with_len 0 n) (k + 1) 0 ≡ 0 + (k + 1) = get_or-range_with_len 0 n (k + 1) 0 (omega (arith, low, long)) in
    omega (arith, here, next)

pub among_within : (layout : Layout) (fs : List ℕ) → All (λ f. f < length layout.paths) (files_among layout fs)
among_within layout fs = All-filter (λ f. is_member f fs) (λ f. f < length layout.paths) (range_with_len 0 (length layout.paths)) (range_within (length layout.paths))

pub among_rise : (layout : Layout) (fs : List ℕ) → IsStrictlyIncreasing (files_among layout fs)
among_rise layout fs = IsStrictlyIncreasing-filter (λ f. is_member f fs) (range_with_len 0 (length layout.paths)) (range_rises (length layout.paths))

---- a path that names a file

file_within : (layout : Layout) (p : List ℕ) (f : ℕ) → file_at layout p ≡ Some f → f < length layout.paths
file_within layout p f is = by_form (normal_form p) is
  where
    by_form : (o : Option (List ℕ)) → option_and_then (λ q. place_of q layout.paths) o ≡ Some f → f < length layout.paths
    by_form (Some q) at = (position-Some _ layout.paths f [] at).0
    by_form None at = cc

in_range : (n f : ℕ) → f < n → Contains (range_with_len 0 n) f
in_range n f low = (f, omega (arith, length-range_with_len 0 n), get_or-range_with_len 0 n f f low ∙ omega arith)

-- a list that has an element
some_there : (xs : List ℕ) (x : ℕ) → Contains xs x → 0 < length xs
some_there [] x c = absurd (contains_none x c)
some_there (y ∷ ys) x c = omega arith

module _ (layout : Layout) where
  first_named : (p : List ℕ) (ps : List (List ℕ)) (ts : List ℕ) → files_at layout (p ∷ ps) ≡ Ok ts → (o : Option ℕ) → file_at layout p ≡ o → 0 < length ts
  first_named p ps ts is None none = absurd (apart (sym (found_none layout (p ∷ ps) 0 p (omega arith) refl none refl) ∙ is))
    where
      apart : {i : ℕ} {x : List ℕ} → Err i ≡ Ok x → ⊥
      apart e = cc
  first_named p ps ts is (Some f) there =
      let all : List ℕ = filter_map (file_at layout) (p ∷ ps) in
      let begins : all ≡ f ∷ filter_map (file_at layout) ps = ap (λ (o : Option ℕ). cons_option o (filter_map (file_at layout) ps)) there in
      let member : is_member f all ≡ true = ap (is_member f) begins ∙ or_left (f == f) (is_member f (filter_map (file_at layout) ps)) (eq-eqb f f refl) in
      subst (λ (xs : List ℕ). 0 < length xs) (sym (are_among layout (p ∷ ps) ts is))
      (some_there (files_among layout all) f (kept (λ x. is_member x all) (range_with_len 0 (length layout.paths)) f (in_range (length layout.paths) f (file_within layout p f there)) member))

  pub some_named : (ps : List (List ℕ)) (ts : List ℕ) → some_files_at layout ps ≡ Ok ts → 0 < length ts
  some_named [] ts is = cc
  some_named (p ∷ ps) ts is = first_named p ps ts is (file_at layout p) refl

  pub some_are : (ps : List (List ℕ)) → 0 < length ps → some_files_at layout ps ≡ files_at layout ps
  some_are [] some = absurd (omega arith)
  some_are (p ∷ ps) some = refl

---- one path

none_before : (a n f : ℕ) → f < a → filter (λ x. is_member x (f ∷ [])) (range_with_len a n) ≡ []
none_before a zero f low = refl
none_before a (suc n) f low =
    let rest : List ℕ = filter (λ x. is_member x (f ∷ [])) (range_with_len (a + 1) n) in
    let other : is_member a (f ∷ []) ≡ false = member_of_one f a ∙ ne_eqb f a (λ e. absurd (omega (arith, e, low))) in
    ap (λ (b : Bool). cond b (a ∷ rest) rest) other ∙ none_before (a + 1) n f (omega arith)

one_kept : (a n f : ℕ) → a ≤ f → f < a + n → filter (λ x. is_member x (f ∷ [])) (range_with_len a n) ≡ f ∷ []
one_kept a zero f from low = absurd (omega arith)
one_kept a (suc n) f from low =
    let rest : List ℕ = filter (λ x. is_member x (f ∷ [])) (range_with_len (a + 1) n) in
    elim (cases_eq f a) [
      | inl same ↦
          ap (λ (b : Bool). cond b (a ∷ rest) rest) (member_of_one f a ∙ eq-eqb f a same)
          ∙ ap (λ (xs : List ℕ). a ∷ xs) (none_before (a + 1) n f (omega (arith, same)))
          ∙ ap (λ (x : ℕ). x ∷ []) (sym same)
      | inr other ↦
          ap (λ (b : Bool). cond b (a ∷ rest) rest) (member_of_one f a ∙ ne_eqb f a other)
          ∙ one_kept (a + 1) n f (later from other) (omega arith)
    ]
  where
    later : a ≤ f → (f ≡ a → ⊥) → a + 1 ≤ f
    later from other = elim (cases_lt a f) [ inl less ↦ omega arith | inr more ↦ absurd (other (omega arith)) ]

-- of one path there is the file that it names, or none
pub files_of_one : (layout : Layout) (p : List ℕ) → files_at layout (p ∷ []) ≡ option_map_or (λ f. Ok (f ∷ [])) (file_at layout p) (Err 0)
files_of_one layout p = by_file (file_at layout p) refl
  where
    by_file : (o : Option ℕ) → file_at layout p ≡ o → files_at layout (p ∷ []) ≡ option_map_or (λ f. Ok (f ∷ [])) o (Err 0)
    by_file None none = found_none layout (p ∷ []) 0 p (omega arith) refl none refl
    by_file (Some f) there =
        let named : first_unnamed layout (p ∷ []) ≡ None = all_named layout (p ∷ []) (later_next layout (p ∷ []) 0 p (omega arith) refl f there refl) in
        let within = file_within layout p f there in
        let low : f < 0 + length layout.paths = omega (arith, within) in
        let all : filter_map (file_at layout) (p ∷ []) ≡ f ∷ [] = ap (λ (o : Option ℕ). cons_option o []) there in
        ap (λ (o : Option ℕ). elim o [ None ↦ Ok (files_among layout (filter_map (file_at layout) (p ∷ []))) | Some i ↦ Err i ]) named
        ∙ ap (λ (fs : List ℕ). Ok (files_among layout fs)) all
        ∙ ap (λ (fs : List ℕ). Ok fs) (one_kept 0 (length layout.paths) f (omega arith) low)
