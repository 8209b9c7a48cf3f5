-- Notes of words and lists, one more at a time.
use Rattle.std.proofs.Common.{◌≡◌, ℕ, suc, ◌+◌, ◌-◌, ◌<◌, Bool, true, false, List, [], ◌∷◌, ◌++◌, codes, drop, get_or, length, map, take, refl, sym, ap, ◌∙◌}
use Rattle.std.proofs.lemmas.List.{drop_more, take_rest}
use Rattle.std.proofs.lemmas.Option.{slice_get-get_or}
use Rattle.std.specs.Prelude.{◌||◌, flat_map, nat_lt, unwrap_or}
use Rattle.std.specs.List.{list_any}
use Rattle.inc_lookup.specs.Projects.{Layout, path_at}
use Rattle.inc_args.specs.Meaning.{FileWords}
use Rattle.inc_graph.specs.Marks.{Mark}
use Rattle.inc_inputs.specs.BuildNotes.{Kept, none, with_line, with_lines}
use Rattle.inc_inputs.specs.DirNotes.{all_dir_lines, dir_lines}
use Rattle.inc_inputs.specs.declared.dir_notes.TheConstants.{MOST_WORDS}
use Rattle.inc_inputs.specs.ListNotes.{begins_octal, has_octal}
use Rattle.inc_inputs.specs.MarkNotes.{stray_line, stray_lines}
use Rattle.inc_inputs.proofs.NoteLemmas.{with_lines-append}

-- a path of the project
module _ (f : List ℕ → Bool) (layout : Layout) (place : ℕ) (low : place < length layout.paths) where
  any_next : list_any f (drop place layout.paths) ≡ f (path_at layout place) || list_any f (drop (place + 1) layout.paths)
  any_next =
      let here : path_at layout place ≡ get_or layout.paths place [] = ap (λ o. unwrap_or o []) (slice_get-get_or layout.paths place [] low) in
      ap (list_any f) (drop_more layout.paths place [] low) ∙ ap (λ p. f p || list_any f (drop (place + 1) layout.paths)) (sym here)

  pub any_here : (b : Bool) → b ≡ f (path_at layout place) → b ≡ true → list_any f (drop place layout.paths) ≡ list_any f layout.paths → true ≡ list_any f layout.paths
  any_here b is does so_far = ap (λ (c : Bool). c || list_any f (drop (place + 1) layout.paths)) (sym does ∙ is) ∙ sym any_next ∙ so_far

  pub any_later : (b : Bool) → b ≡ f (path_at layout place) → b ≡ false → list_any f (drop place layout.paths) ≡ list_any f layout.paths
      → list_any f (drop (place + 1) layout.paths) ≡ list_any f layout.paths
  any_later b is fails so_far = ap (λ (c : Bool). c || list_any f (drop (place + 1) layout.paths)) (sym fails ∙ is) ∙ sym any_next ∙ so_far

-- the lines of one more element of a list
pub lines_more : {X : Type 0} (f : List ℕ → List (List ℕ)) (g : X → List ℕ) (xs : List X) (at : ℕ) (d : X) (w : List ℕ) (k l : Kept) → at < length xs → w ≡ g (get_or xs at d)
    → l ≡ with_lines k (f w) → with_lines l (flat_map f (map g (drop (at + 1) xs))) ≡ with_lines k (flat_map f (map g (drop at xs)))
lines_more {X} f g xs at d w k l low word noted =
    let rest : List (List ℕ) = flat_map f (map g (drop (at + 1) xs)) in
    ap (λ (n : Kept). with_lines n rest) noted
    ∙ sym (with_lines-append k (f w) rest)
    ∙ ap (λ (v : List ℕ). with_lines k (f v ++ rest)) word
    ∙ ap (λ (ys : List X). with_lines k (flat_map f (map g ys))) (sym (drop_more xs at d low))

-- the words of all options
pub dirs_noted : (paths : List (List ℕ)) (f : FileWords) (k l m n o : Kept) (a b d : ℕ) → k ≡ none
    → l ≡ with_lines k (dir_lines paths (codes "-I") MOST_WORDS f.dirs) → a ≡ MOST_WORDS - length f.dirs
    → m ≡ with_lines l (dir_lines paths (codes "-iquote") a f.quoted) → b ≡ a - length f.quoted
    → n ≡ with_lines m (dir_lines paths (codes "-isystem") b f.system) → d ≡ b - length f.system
    → o ≡ with_lines n (dir_lines paths (codes "-idirafter") d f.last) → o ≡ with_lines none (all_dir_lines paths f)
dirs_noted paths f k l m n o a b d e first_is a_is second_is b_is third_is d_is last =
    let first : List (List ℕ) = dir_lines paths (codes "-I") MOST_WORDS f.dirs in
    let second : List (List ℕ) = dir_lines paths (codes "-iquote") (MOST_WORDS - length f.dirs) f.quoted in
    let third : List (List ℕ) = dir_lines paths (codes "-isystem") (MOST_WORDS - length f.dirs - length f.quoted) f.system in
    let fourth : List (List ℕ) = dir_lines paths (codes "-idirafter") (MOST_WORDS - length f.dirs - length f.quoted - length f.system) f.last in
    rw (last, d_is, third_is, b_is, second_is, a_is, first_is, e)
    (sym (with_lines-append none first (second ++ (third ++ fourth)) ∙ with_lines-append (with_lines none first) second (third ++ fourth)
    ∙ with_lines-append (with_lines (with_lines none first) second) third fourth))

-- those of one more mark
pub strays_more : (layout : Layout) (option : List ℕ) (ms : List Mark) (at line next : ℕ) (m : Mark) (path : List ℕ) (k l : Kept) → at < length ms → m ≡ get_or ms at m → path ≡ m.path
    → l ≡ with_lines k (stray_line layout option line path) → next ≡ suc line
    → with_lines l (stray_lines layout option next (drop (at + 1) ms)) ≡ with_lines k (stray_lines layout option line (drop at ms))
strays_more layout option ms at line next m path k l low is of noted after =
    let rest : List Mark = drop (at + 1) ms in
    ap (λ (n : Kept). with_lines n (stray_lines layout option next rest)) noted
    ∙ ap (λ (n : ℕ). with_lines (with_lines k (stray_line layout option line path)) (stray_lines layout option n rest)) after
    ∙ sym (with_lines-append k (stray_line layout option line path) (stray_lines layout option (suc line) rest))
    ∙ ap (λ (p : List ℕ). with_lines k (stray_line layout option line p ++ stray_lines layout option (suc line) rest)) of
    ∙ ap (λ (n : Mark). with_lines k (stray_lines layout option line (n ∷ rest))) is
    ∙ ap (λ (ns : List Mark). with_lines k (stray_lines layout option line ns)) (sym (drop_more ms at m low))

-- those of one more thing with a mark
pub marked_more : {X : Type 0} (f : X → Mark) (layout : Layout) (option : List ℕ) (xs : List X) (at line next : ℕ) (x : X) (path : List ℕ) (k l : Kept) → at < length xs → x ≡ get_or xs at x
    → path ≡ (f x).path → l ≡ with_lines k (stray_line layout option line path) → next ≡ suc line
    → with_lines l (stray_lines layout option next (map f (drop (at + 1) xs))) ≡ with_lines k (stray_lines layout option line (map f (drop at xs)))
marked_more {X} f layout option xs at line next x path k l low is of noted after =
    let rest : List Mark = map f (drop (at + 1) xs) in
    ap (λ (n : Kept). with_lines n (stray_lines layout option next rest)) noted
    ∙ ap (λ (n : ℕ). with_lines (with_lines k (stray_line layout option line path)) (stray_lines layout option n rest)) after
    ∙ sym (with_lines-append k (stray_line layout option line path) (stray_lines layout option (suc line) rest))
    ∙ ap (λ (p : List ℕ). with_lines k (stray_line layout option line p ++ stray_lines layout option (suc line) rest)) of
    ∙ ap (λ (y : X). with_lines k (stray_lines layout option line (f y ∷ rest))) is
    ∙ ap (λ (ys : List X). with_lines k (stray_lines layout option line (map f ys))) (sym (drop_more xs at x low))

-- a line that is only counted may be any other one
pub counted_same : (text : List ℕ) (count : ℕ) (x y : List ℕ) → nat_lt count 10 ≡ false
    → (let k : Kept = record { text = text; count = count } in with_line k x ≡ with_line k y)
counted_same text count x y full = rw full refl

-- a byte as three digits in base 8
module _ (path : List ℕ) (at : ℕ) (low : at < length path) (b : Bool) (is : b ≡ begins_octal (take (length path - at) (drop at path))) (so_far : has_octal (drop at path) ≡ has_octal path) where
  octal_next : b || has_octal (drop (at + 1) path) ≡ has_octal path
  octal_next =
      ap (λ (c : Bool). c || has_octal (drop (at + 1) path)) (is ∙ ap begins_octal (take_rest path at))
      ∙ sym (step (drop at path) (drop (at + 1) path) (get_or path at 0) (drop_more path at 0 low)) ∙ so_far
    where
      step : (xs ys : List ℕ) (c : ℕ) → xs ≡ c ∷ ys → has_octal xs ≡ begins_octal xs || has_octal ys
      step xs ys c e = rw e refl

  pub octal_here : b ≡ true → true ≡ has_octal path
  octal_here does = ap (λ (c : Bool). c || has_octal (drop (at + 1) path)) (sym does) ∙ octal_next

  pub octal_later : b ≡ false → has_octal (drop (at + 1) path) ≡ has_octal path
  octal_later fails = ap (λ (c : Bool). c || has_octal (drop (at + 1) path)) (sym fails) ∙ octal_next
