-- Changed files in place of the old ones are the files of the project with their directives blanked.
use Rattle.std.proofs.Common.{◌≡◌, ◌≢◌, ℕ, suc, ◌+◌, ◌<◌, Bool, true, false, cond, ◌&&◌, ◌||◌, ◌==◌, List, [], ◌∷◌, ◌++◌, Result, Ok, Err, length, map, refl, sym, ap, ◌∙◌, subst, arith}
use Rattle.std.proofs.Math.Path.{fun_ext}
use Rattle.std.specs.Prelude.{bytes_eq, filter, slice_get, unwrap_or}
use Rattle.std.proofs.lemmas.Bool.{cond-false, or_parts}
use Rattle.std.proofs.lemmas.List.{append_assoc, length-map}
use Rattle.std.proofs.lemmas.Slice.Eq.{bytes_eq-Decides}
use Rattle.inc_text.specs.PhaseText.{phase_text}
use Rattle.inc_token.specs.Blanking.{blanked_from, line_range}
use Rattle.inc_token.specs.TokenLines.{TokenLine, token_lines}
use Rattle.inc_text.specs.declared.languages.Language.{Language}
use Rattle.inc_token.specs.declared.lines.LexFault.{LexFault}
use Rattle.inc_directive.specs.BlankedSources.{blanked_by, blanked_source}
use Rattle.inc_directive.specs.LineKinds.{line_kind}
use Rattle.inc_directive.specs.Removal.{is_include, is_removed}
use Rattle.inc_lookup.specs.declared.projects.DirectiveId.{DirectiveId}
use Rattle.inc_lookup.specs.DirectiveLists.{is_listed}
use Rattle.inc_lookup.specs.Projects.{File, Layout, Listing, layout_of, paths_of}
use Rattle.inc_check.specs.Certificates.{IsEachPathOnce}
use Rattle.inc_pp.specs.BlankedProjects.{blanked_files, blanked_listing}
use Rattle.inc_answers.specs.Changes.{Change, is_held, changes_from, changes, bytes_after, changed_listing}

---- a file that holds no directive of the list stays as it is

blanked-none : (i : ℕ) (bytes : List ℕ) → blanked_from i [] bytes ≡ bytes
blanked-none i [] = refl
blanked-none i (b ∷ bs) = ap (λ (l : List ℕ). b ∷ l) (blanked-none (i + 1) bs)

and-false : (b : Bool) → (b && false) ≡ false
and-false true = refl
and-false false = refl

none_pass : {X : Type 0} (test : X → Bool) → ((x : X) → test x ≡ false) → (xs : List X) → filter test xs ≡ []
none_pass test never [] = refl
none_pass test never (x ∷ xs) = cond-false (test x) (x ∷ filter test xs) (filter test xs) (never x) ∙ none_pass test never xs

never : ℕ → Bool
never n = false

nothing_blanked : (language : Language) (r : Result (List TokenLine) LexFault) (bytes : List ℕ) → blanked_by language never r bytes ≡ bytes
unfolding never
nothing_blanked language (Err fault) bytes = refl
nothing_blanked language (Ok ls) bytes =
    let none = none_pass (λ (l : TokenLine). is_removed language never l.tokens) (λ (l : TokenLine). and-false (is_include (line_kind language l.tokens))) ls in
    ap (λ (ks : List TokenLine). blanked_from 0 (map (λ (l : TokenLine). line_range l.tokens) ks) bytes) none ∙ blanked-none 0 bytes

not_listed : (ds : List DirectiveId) (i n : ℕ) → is_held ds i ≡ false → is_listed ds i n ≡ false
not_listed [] i n none = refl
not_listed (d ∷ ds) i n none =
    let parts = or_parts (d.file == i) (is_held ds i) none in
    ap (λ (b : Bool). (b && (d.line == n)) || is_listed ds i n) parts.0 ∙ not_listed ds i n parts.1

unheld_stays : (language : Language) (ds : List DirectiveId) (i : ℕ) (bytes : List ℕ) → is_held ds i ≡ false → blanked_source language (is_listed ds i) bytes ≡ bytes
unfolding never
unheld_stays language ds i bytes none =
    let no_line : is_listed ds i ≡ never = fun_ext (λ n. not_listed ds i n none) in
    ap (λ (t : ℕ → Bool). blanked_source language t bytes) no_line ∙ nothing_blanked language (token_lines language (phase_text language bytes)) bytes

---- no two files have one path

-- no file of the list has the path
IsNew : List ℕ → List File → Type 0
IsNew path [] = Unit {0}
IsNew path (f ∷ fs) = (path ≢ f.path) × IsNew path fs

AreApart : List File → Type 0
AreApart [] = Unit {0}
AreApart (f ∷ fs) = IsNew f.path fs × AreApart fs

path_in : List File → ℕ → List ℕ
path_in fs i = unwrap_or (slice_get (paths_of fs) i) []

new_from : (path : List ℕ) (fs : List File) → ((k : ℕ) → k < length fs → path ≡ path_in fs k → ⊥) → IsNew path fs
unfolding IsNew path_in
new_from path [] other = tt
new_from path (f ∷ fs) other = (λ same. other 0 (omega arith) same, new_from path fs (λ k low same. other (suc k) (omega arith) same))

apart_from : (fs : List File) → ((i j : ℕ) → i < length fs → j < length fs → path_in fs i ≡ path_in fs j → i ≡ j) → AreApart fs
unfolding IsNew AreApart path_in
apart_from [] once = tt
apart_from (f ∷ fs) once = (
  new_from f.path fs (λ k low same. (let e : 0 ≡ suc k = once 0 (suc k) (omega arith) (omega arith) same in omega arith)),
  apart_from fs (λ i j a b same. (let e : suc i ≡ suc j = once (suc i) (suc j) (omega arith) (omega arith) same in omega arith)),
)

laid_apart : (layout : Layout) (listing : Listing) → layout_of listing ≡ layout → IsEachPathOnce layout → AreApart listing.files
unfolding path_in
laid_apart layout listing laid once =
    let here : IsEachPathOnce (layout_of listing) = subst IsEachPathOnce (sym laid) once in
    let long : length (paths_of listing.files) ≡ length listing.files = length-map listing.files (λ (f : File). f.path) in
    apart_from listing.files (λ i j a b same. here i j (omega arith) (omega arith) same)

---- the files after the change

-- the changes are of none of these files
AreOfOthers : List Change → List File → Type 0
AreOfOthers [] fs = Unit {0}
AreOfOthers (c ∷ cs) fs = IsNew c.path fs × AreOfOthers cs fs

others_push : (cs : List Change) (c : Change) (f : File) (fs : List File) → AreOfOthers cs (f ∷ fs) → IsNew c.path fs → AreOfOthers (cs ++ c ∷ []) fs
unfolding IsNew AreOfOthers
others_push [] c f fs h new = (new, tt)
others_push (x ∷ cs) c f fs h new = (h.0.1, others_push cs c f fs h.1 new)

others_tail : (cs : List Change) (f : File) (fs : List File) → AreOfOthers cs (f ∷ fs) → AreOfOthers cs fs
unfolding IsNew AreOfOthers
others_tail [] f fs h = tt
others_tail (x ∷ cs) f fs h = (h.0.1, others_tail cs f fs h.1)

unlike : (a b : List ℕ) → a ≢ b → bytes_eq a b ≡ false
unlike a b ne = by_case (bytes_eq a b) refl
  where
    by_case : (x : Bool) → bytes_eq a b ≡ x → bytes_eq a b ≡ false
    by_case true is = absurd (ne ((bytes_eq-Decides a b).0 is))
    by_case false is = is

others_passed : (cs more : List Change) (f : File) (fs : List File) → AreOfOthers cs (f ∷ fs) → bytes_after (cs ++ more) f ≡ bytes_after more f
unfolding IsNew AreOfOthers
others_passed [] more f fs h = refl
others_passed (c ∷ cs) more f fs h = cond-false (bytes_eq c.path f.path) _ _ (unlike c.path f.path h.0.0) ∙ others_passed cs more f fs h.1

module _ (language : Language) (ds : List DirectiveId) where
  abbrev change_of : ℕ → File → Change
  change_of i f = record { path = f.path; before = f.bytes; after = blanked_source language (is_listed ds i) f.bytes }

  unchanged_when : (b : Bool) (i : ℕ) (f g : File) (rest : List Change) → bytes_eq g.path f.path ≡ false → bytes_after rest f ≡ f.bytes
      → bytes_after (cond b (change_of i g ∷ rest) rest) f ≡ f.bytes
  unchanged_when true i f g rest other again = cond-false (bytes_eq g.path f.path) _ _ other ∙ again
  unchanged_when false i f g rest other again = again

  unchanged : (i : ℕ) (f : File) (gs : List File) → IsNew f.path gs → bytes_after (changes_from language ds i gs) f ≡ f.bytes
  unfolding IsNew
  unchanged i f [] new = refl
  unchanged i f (g ∷ gs) new =
      unchanged_when (is_held ds i) i f g (changes_from language ds (i + 1) gs) (unlike g.path f.path (λ same. new.0 (sym same))) (unchanged (i + 1) f gs new.1)

  -- a file with its bytes after these changes
  abbrev with_change : List Change → File → File
  with_change cs f = record { path = f.path; bytes = bytes_after cs f }

  abbrev with_bytes : File → List ℕ → File
  with_bytes f bytes = record { path = f.path; bytes = bytes }

  one_file : (f : File) (a b : List ℕ) (as' bs : List File) → a ≡ b → as' ≡ bs → with_bytes f a ∷ as' ≡ with_bytes f b ∷ bs
  one_file f a b as' bs p q = ap (λ (x : List ℕ). with_bytes f x ∷ as') p ∙ ap (λ (l : List File). with_bytes f b ∷ l) q

  changed_when : (b : Bool) (i : ℕ) (f : File) (gs : List File) (cs rest : List Change) → is_held ds i ≡ b → AreOfOthers cs (f ∷ gs) → bytes_after rest f ≡ f.bytes
      → map (with_change ((cs ++ change_of i f ∷ []) ++ rest)) gs ≡ blanked_files language ds (i + 1) gs
      → map (with_change (cs ++ rest)) gs ≡ blanked_files language ds (i + 1) gs
      → map (with_change (cs ++ cond b (change_of i f ∷ rest) rest)) (f ∷ gs) ≡ blanked_files language ds i (f ∷ gs)
  changed_when true i f gs cs rest is others same held unheld =
      let all : List Change = cs ++ (change_of i f ∷ rest) in
      let here : bytes_after all f ≡ blanked_source language (is_listed ds i) f.bytes =
      others_passed cs (change_of i f ∷ rest) f gs others ∙ ap (λ (b : Bool). cond b (blanked_source language (is_listed ds i) f.bytes) (bytes_after rest f)) ((bytes_eq-Decides f.path f.path).1 refl) in
      one_file f (bytes_after all f) (blanked_source language (is_listed ds i) f.bytes) (map (with_change all) gs) (blanked_files language ds (i + 1) gs) here
      (ap (λ (cs : List Change). map (with_change cs) gs) (sym (append_assoc cs (change_of i f ∷ []) rest)) ∙ held)
  changed_when false i f gs cs rest is others same held unheld =
      let here : bytes_after (cs ++ rest) f ≡ blanked_source language (is_listed ds i) f.bytes =
      others_passed cs rest f gs others ∙ same ∙ sym (unheld_stays language ds i f.bytes is) in
      one_file f (bytes_after (cs ++ rest) f) (blanked_source language (is_listed ds i) f.bytes) (map (with_change (cs ++ rest)) gs) (blanked_files language ds (i + 1) gs) here unheld

  changed_files : (i : ℕ) (fs : List File) (cs : List Change) → AreApart fs → AreOfOthers cs fs → map (with_change (cs ++ changes_from language ds i fs)) fs ≡ blanked_files language ds i fs
  unfolding AreApart
  changed_files i [] cs apart others = refl
  changed_files i (f ∷ gs) cs apart others =
      changed_when (is_held ds i) i f gs cs (changes_from language ds (i + 1) gs) refl others (unchanged (i + 1) f gs apart.0)
      (changed_files (i + 1) gs (cs ++ change_of i f ∷ []) apart.1 (others_push cs (change_of i f) f gs others apart.0))
      (changed_files (i + 1) gs cs apart.1 (others_tail cs f gs others))

pub changed_is_blanked : (language : Language) (layout : Layout) (listing : Listing) (ds : List DirectiveId) → layout_of listing ≡ layout → IsEachPathOnce layout
    → changed_listing (changes language listing ds) listing ≡ blanked_listing language listing ds
unfolding AreOfOthers
changed_is_blanked language layout listing ds laid once =
    ap (λ (fs : List File). record listing { files = fs }) (changed_files language ds 0 listing.files [] (laid_apart layout listing laid once) tt)
