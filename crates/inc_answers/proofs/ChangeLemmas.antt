-- How changes are found: the directives of one file after the other, in the order of the list.
use Rattle.std.proofs.Common.{◌≡◌, ℕ, zero, suc, ◌+◌, ◌-◌, ◌<◌, ◌≤◌, Bool, true, false, cond, ◌&&◌, ◌||◌, ◌==◌, List, [], ◌∷◌, ◌++◌, Some, length, take, drop, get_or, refl, sym, ap, ◌∙◌, subst, arith}
use Rattle.std.proofs.Math.Path.{fun_ext}
use Rattle.std.specs.Prelude.{slice_get, unwrap_or}
use Rattle.std.specs.Option.{option_map_or}
use Rattle.std.proofs.Math.Seq.{take-add, drop-cons, drop-nil}
use Rattle.std.proofs.lemmas.Bool.{cond-true, cond-false, eqb-true, eqb-false, ne_eqb, eq-eqb, or_left, or_right}
use Rattle.std.proofs.lemmas.List.{append_assoc, append-nil, take-append-drop, take_all}
use Rattle.std.proofs.lemmas.List.Folds.{list_any-append}
use Rattle.inc_text.specs.declared.languages.Language.{Language}
use Rattle.inc_directive.specs.BlankedSources.{blanked_source}
use Rattle.inc_directive.specs.Removal.{is_among}
use Rattle.inc_lookup.specs.declared.projects.DirectiveId.{DirectiveId}
use Rattle.inc_lookup.specs.DirectiveLists.{is_listed}
use Rattle.inc_lookup.specs.Projects.{File, Layout, Listing, layout_of, paths_of, path_at}
use Rattle.inc_lookup.proofs.GivenLemmas.{laid_count}
use Rattle.inc_answers.specs.Changes.{Change, AreRising, is_held, changes_from, changes, first_lines}
use Rattle.inc_answers.specs.ChangeSteps.{change_at}
use Rattle.inc_answers.specs.KeptFiles.{Kept, Fits, kept_at}

---- which directives are in a file

-- all are in files before this one
Below : ℕ → List DirectiveId → Type 0
Below file [] = Unit {0}
Below file (d ∷ ds) = (d.file < file) × Below file ds

below-append : (file : ℕ) (as' bs : List DirectiveId) → Below file as' → Below file bs → Below file (as' ++ bs)
unfolding Below
below-append file [] bs a b = b
below-append file (d ∷ as') bs a b = (a.0, below-append file as' bs a.1 b)

below-later : (file later : ℕ) (ds : List DirectiveId) → file ≤ later → Below file ds → Below later ds
unfolding Below
below-later file later [] le h = tt
below-later file later (d ∷ ds) le h = (omega (arith, h.0), below-later file later ds le h.1)

below-held : (file i : ℕ) (ds : List DirectiveId) → file ≤ i → Below file ds → is_held ds i ≡ false
unfolding Below
below-held file i [] le h = refl
below-held file i (d ∷ ds) le h = ap (λ (b : Bool). b || is_held ds i) (ne_eqb d.file i (λ same. omega (arith, h.0))) ∙ below-held file i ds le h.1

below-listed : (file i line : ℕ) (ds : List DirectiveId) → file ≤ i → Below file ds → is_listed ds i line ≡ false
unfolding Below
below-listed file i line [] le h = refl
below-listed file i line (d ∷ ds) le h =
    ap (λ (b : Bool). (b && (d.line == line)) || is_listed ds i line) (ne_eqb d.file i (λ same. omega (arith, h.0))) ∙ below-listed file i line ds le h.1

rising-lower : (file later : ℕ) (ds : List DirectiveId) → file ≤ later → AreRising later ds → AreRising file ds
rising-lower file later [] le h = tt
rising-lower file later (d ∷ ds) le h = (omega (arith, h.0), h.1)

rising-held : (file i : ℕ) (ds : List DirectiveId) → i < file → AreRising file ds → is_held ds i ≡ false
rising-held file i [] lt h = refl
rising-held file i (d ∷ ds) lt h =
    ap (λ (b : Bool). b || is_held ds i) (ne_eqb d.file i (λ same. omega (arith, h.0))) ∙ rising-held d.file i ds (omega (arith, h.0)) h.1

rising-listed : (file i line : ℕ) (ds : List DirectiveId) → i < file → AreRising file ds → is_listed ds i line ≡ false
rising-listed file i line [] lt h = refl
rising-listed file i line (d ∷ ds) lt h =
    ap (λ (b : Bool). (b && (d.line == line)) || is_listed ds i line) (ne_eqb d.file i (λ same. omega (arith, h.0)))
    ∙ rising-listed d.file i line ds (omega (arith, h.0)) h.1

---- the first directives, which are in one file

first_when : (b : Bool) (i line n : ℕ) (d : DirectiveId) (ds : List DirectiveId) → (d.file == i) ≡ b → i ≤ d.file → AreRising d.file ds
    → (d.file ≡ i → is_listed ds i n ≡ is_among (first_lines i ds) n)
    → is_listed (d ∷ ds) i n ≡ is_among (cond b (d.line ∷ first_lines i ds) []) n
first_when true i line n d ds is le h again =
    ap (λ (b : Bool). (b && (d.line == n)) || is_listed ds i n) is ∙ ap (λ (b : Bool). (d.line == n) || b) (again (eqb-true d.file i is))
first_when false i line n d ds is le h again =
    ap (λ (b : Bool). (b && (d.line == n)) || is_listed ds i n) is ∙ rising-listed d.file i n ds (let ne = eqb-false d.file i is in omega arith) h

-- their lines are those on which the file's directives are
first-listed : (i n : ℕ) (ds : List DirectiveId) → AreRising i ds → is_listed ds i n ≡ is_among (first_lines i ds) n
first-listed i n [] h = refl
first-listed i n (d ∷ ds) h =
    first_when (d.file == i) i d.line n d ds refl h.0 h.1 (λ same. first-listed i n ds (subst (λ k. AreRising k ds) same h.1))
    ∙ refl

-- those after them are in later files
rest_when : (b : Bool) (i : ℕ) (d : DirectiveId) (ds : List DirectiveId) → (d.file == i) ≡ b → i ≤ d.file → AreRising d.file ds
    → (d.file ≡ i → AreRising (i + 1) (drop (length (first_lines i ds)) ds))
    → AreRising (i + 1) (drop (length (cond b (d.line ∷ first_lines i ds) [])) (d ∷ ds))
rest_when true i d ds is le h again = again (eqb-true d.file i is)
rest_when false i d ds is le h again = (let ne = eqb-false d.file i is in omega arith, h)

rest-rising : (i : ℕ) (ds : List DirectiveId) → AreRising i ds → AreRising (i + 1) (drop (length (first_lines i ds)) ds)
rest-rising i [] h = tt
rest-rising i (d ∷ ds) h = rest_when (d.file == i) i d ds refl h.0 h.1 (λ same. rest-rising i ds (subst (λ k. AreRising k ds) same h.1))

front_when : (b : Bool) (i : ℕ) (d : DirectiveId) (ds : List DirectiveId) → (d.file == i) ≡ b
    → Below (i + 1) (take (length (first_lines i ds)) ds) → Below (i + 1) (take (length (cond b (d.line ∷ first_lines i ds) [])) (d ∷ ds))
unfolding Below
front_when true i d ds is again = (let same = eqb-true d.file i is in omega arith, again)
front_when false i d ds is again = tt

front-below : (i : ℕ) (ds : List DirectiveId) → Below (i + 1) (take (length (first_lines i ds)) ds)
unfolding Below
front-below i [] = tt
front-below i (d ∷ ds) = front_when (d.file == i) i d ds refl (front-below i ds)

first_long_when : (b : Bool) (i : ℕ) (d : DirectiveId) (ds : List DirectiveId) → length (first_lines i ds) ≤ length ds
    → length (cond b (d.line ∷ first_lines i ds) []) ≤ length (d ∷ ds)
first_long_when true i d ds le = omega arith
first_long_when false i d ds le = omega arith

pub first_long : (i : ℕ) (ds : List DirectiveId) → length (first_lines i ds) ≤ length ds
first_long i [] = omega arith
first_long i (d ∷ ds) = first_long_when (d.file == i) i d ds (first_long i ds)

-- the first of them is one
pub first_some : (d : DirectiveId) (ds : List DirectiveId) → 0 < length (first_lines d.file (d ∷ ds))
first_some d ds = rw (eq-eqb d.file d.file refl) (omega arith)

---- one file after the other

module _ (language : Language) (ds : List DirectiveId) where
  none-from : (i : ℕ) (fs : List File) → ((j : ℕ) → i ≤ j → is_held ds j ≡ false) → changes_from language ds i fs ≡ []
  none-from i [] never = refl
  none-from i (f ∷ fs) never = cond-false (is_held ds i) _ _ (never i (omega arith)) ∙ none-from (i + 1) fs (λ j le. never j (omega arith))

  skipped : (n i : ℕ) (fs : List File) → ((j : ℕ) → i ≤ j → j < i + n → is_held ds j ≡ false) → changes_from language ds i fs ≡ changes_from language ds (i + n) (drop n fs)
  skipped zero i fs never = let same : i + 0 ≡ i = omega arith in ap (λ k. changes_from language ds k fs) (sym same)
  skipped (suc n) i [] never = refl
  skipped (suc n) i (f ∷ fs) never =
      let same : i + 1 + n ≡ i + suc n = omega arith in
      cond-false (is_held ds i) _ _ (never i (omega arith) (omega arith))
      ∙ skipped n (i + 1) fs (λ j le lt. never j (omega arith) (omega arith))
      ∙ ap (λ k. changes_from language ds k (drop n fs)) same

drop-add : {X : Type 0} (n m : ℕ) (xs : List X) → drop (n + m) xs ≡ drop m (drop n xs)
drop-add zero m xs = let same : 0 + m ≡ m = omega arith in ap (λ k. drop k xs) same
drop-add {X = X} (suc n) m [] =
    let none : List X = [] in
    let same : suc n + m ≡ suc (n + m) = omega arith in ap (λ k. drop k none) same ∙ sym (drop-nil m)
drop-add (suc n) m (x ∷ xs) = let same : suc n + m ≡ suc (n + m) = omega arith in ap (λ k. drop k (x ∷ xs)) same ∙ drop-add n m xs

path_here : (files : List File) (i : ℕ) (d : File) → i < length files → unwrap_or (slice_get (paths_of files) i) [] ≡ (get_or files i d).path
path_here [] i d low = absurd (omega arith)
path_here (f ∷ fs) zero d low = refl
path_here (f ∷ fs) (suc i) d low = path_here fs i d (omega arith)

bytes_here : (files : List File) (i : ℕ) (d : File) → i < length files → option_map_or (λ (f : File). f.bytes) (slice_get files i) [] ≡ (get_or files i d).bytes
bytes_here [] i d low = absurd (omega arith)
bytes_here (f ∷ fs) zero d low = refl
bytes_here (f ∷ fs) (suc i) d low = bytes_here fs i d (omega arith)

no_file : File
no_file = record { path = []; bytes = [] }

abbrev changed : (path before after : List ℕ) → Change
changed path before after = record { path = path; before = before; after = after }

same_change : (p q b c a d : List ℕ) → p ≡ q → b ≡ c → a ≡ d → changed p b a ≡ changed q c d
same_change p q b c a d path before after = ap (λ x. changed x b a) path ∙ ap (λ x. changed q x a) before ∙ ap (changed q c) after

module _ (layout : Layout) (kept : Kept) (language : Language) (ds : List DirectiveId) where
  -- the changes of the first directives, and of the files before a place
  pub record IsFound (at : ℕ) (found : List Change) : Type 0 where
    place : ℕ
    below : Below place (take at ds)
    rising : AreRising place (drop at ds)
    so_far : (listing : Listing) → layout_of listing ≡ layout → Fits kept listing → found ++ changes_from language ds place (drop place listing.files) ≡ changes language listing ds

  pub found_start : AreRising 0 ds → IsFound 0 []
  unfolding Below
  found_start rising = record { place = 0; below = tt; rising = rising; so_far = λ listing laid fits. refl }

  pub found_end : (at : ℕ) (found : List Change) → length ds ≤ at → IsFound at found
      → (listing : Listing) → layout_of listing ≡ layout → Fits kept listing → found ≡ changes language listing ds
  found_end at found past h listing laid fits =
      let all : Below h.place ds = subst (Below h.place) (take_all at ds past) h.below in
      let none = none-from language ds h.place (drop h.place listing.files) (λ j le. below-held h.place j ds le all) in
      sym (append-nil found) ∙ ap (λ cs. found ++ cs) (sym none) ∙ h.so_far listing laid fits

  module _ (at : ℕ) (found : List Change) (d : DirectiveId) (lines before : List ℕ) (h : IsFound at found) (low : at < length ds)
      (here : get_or ds at d ≡ d) (are : lines ≡ first_lines d.file (drop at ds)) (within : d.file < length layout.paths) (read : kept_at kept d.file ≡ Some before) where
    abbrev rest : List DirectiveId
    rest = drop at ds

    rest_is : rest ≡ d ∷ drop (suc at) ds
    rest_is = drop-cons ds at d low ∙ ap (λ x. x ∷ drop (suc at) ds) here

    rising_here : (h.place ≤ d.file) × AreRising d.file (drop (suc at) ds)
    rising_here = subst (AreRising h.place) rest_is h.rising

    rising_rest : AreRising d.file rest
    rising_rest = let all : AreRising d.file (d ∷ drop (suc at) ds) = (omega arith, rising_here.1) in subst (AreRising d.file) (sym rest_is) all

    both_held : (i : ℕ) → is_held ds i ≡ (is_held (take at ds) i || is_held rest i)
    both_held i = ap (λ es. is_held es i) (sym (take-append-drop at ds)) ∙ list_any-append (λ (e : DirectiveId). e.file == i) (take at ds) rest

    not_between : (i : ℕ) → h.place ≤ i → i < d.file → is_held ds i ≡ false
    not_between i le lt =
        both_held i ∙ ap (λ (b : Bool). b || is_held rest i) (below-held h.place i (take at ds) le h.below) ∙ rising-held d.file i rest lt rising_rest

    held_here : is_held ds d.file ≡ true
    held_here =
        both_held d.file
        ∙ or_right (is_held (take at ds) d.file) (is_held rest d.file)
        (ap (λ es. is_held es d.file) rest_is ∙ or_left (d.file == d.file) (is_held (drop (suc at) ds) d.file) (eq-eqb d.file d.file refl))

    listed_here : is_listed ds d.file ≡ is_among lines
    listed_here = fun_ext (λ n.
        ap (λ es. is_listed es d.file n) (sym (take-append-drop at ds))
        ∙ list_any-append (λ (e : DirectiveId). (e.file == d.file) && (e.line == n)) (take at ds) rest
        ∙ ap (λ (b : Bool). b || is_listed rest d.file n) (below-listed h.place d.file n (take at ds) rising_here.0 h.below)
        ∙ first-listed d.file n rest rising_rest
        ∙ ap (λ ns. is_among ns n) (sym are))

    step : (listing : Listing) → layout_of listing ≡ layout → Fits kept listing
        → changes_from language ds h.place (drop h.place listing.files) ≡ change_at layout language d.file lines before ∷ changes_from language ds (d.file + 1) (drop (d.file + 1) listing.files)
    step listing laid fits =
        let files : List File = listing.files in
        let n : ℕ = d.file - h.place in
        let place : h.place + n ≡ d.file = omega (arith, rising_here.0) in
        let next : suc d.file ≡ d.file + 1 = omega arith in
        let short : d.file < length files = omega (arith, within, laid_count layout listing laid) in
        let f : File = get_or files d.file no_file in
        let path : f.path ≡ path_at layout d.file = sym (path_here files d.file no_file short) ∙ ap (λ (l : Layout). path_at l d.file) laid in
        let bytes : f.bytes ≡ before = sym (bytes_here files d.file no_file short) ∙ fits d.file before read in
        let change = same_change f.path (path_at layout d.file) f.bytes before (blanked_source language (is_listed ds d.file) f.bytes) (blanked_source language (is_among lines) before) path bytes
        (ap (λ (t : ℕ → Bool). blanked_source language t f.bytes) listed_here ∙ ap (blanked_source language (is_among lines)) bytes) in
        skipped language ds n h.place (drop h.place files) (λ j le lt. not_between j le (omega arith))
        ∙ ap (λ xs. changes_from language ds (h.place + n) xs) (sym (drop-add h.place n files))
        ∙ ap (λ k. changes_from language ds k (drop k files)) place
        ∙ ap (λ xs. changes_from language ds d.file xs) (drop-cons files d.file no_file short)
        ∙ cond-true (is_held ds d.file) _ _ held_here
        ∙ ap (λ (c : Change). c ∷ changes_from language ds (d.file + 1) (drop (suc d.file) files)) change
        ∙ ap (λ k. change_at layout language d.file lines before ∷ changes_from language ds (d.file + 1) (drop k files)) next

    pub found_step : IsFound (at + length lines) (found ++ change_at layout language d.file lines before ∷ [])
    found_step = record {
      place = d.file + 1;
      below = subst (Below (d.file + 1)) (sym (take-add at (length lines) ds ∙ ap (λ k. take at ds ++ take k rest) (ap length are)))
          (below-append (d.file + 1) (take at ds) (take (length (first_lines d.file rest)) rest)
          (below-later h.place (d.file + 1) (take at ds) (omega (arith, rising_here.0)) h.below) (front-below d.file rest));
      rising = subst (AreRising (d.file + 1)) (sym (drop-add at (length lines) ds ∙ ap (λ k. drop k rest) (ap length are))) (rest-rising d.file rest rising_rest);
      so_far = λ listing laid fits.
          append_assoc found (change_at layout language d.file lines before ∷ []) (changes_from language ds (d.file + 1) (drop (d.file + 1) listing.files))
          ∙ ap (λ cs. found ++ cs) (sym (step listing laid fits))
          ∙ h.so_far listing laid fits;
    }
