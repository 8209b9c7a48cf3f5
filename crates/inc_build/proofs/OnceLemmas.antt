-- No source and no include path is in a build twice.
use Rattle.std.proofs.Common.{◌≡◌, ◌⊎◌, ℕ, zero, suc, Bool, true, false, List, [], ◌∷◌, Some, length, option_map, slice_get, inl, inr, refl, sym, ap, ◌∙◌, arith, bytes_eq}
use Rattle.std.specs.Prelude.{◌||◌}
use Rattle.std.proofs.lemmas.Bool.{cases_Bool, true≢false}
use Rattle.std.proofs.lemmas.Option.{slice_get-map, slice_get_within}
use Rattle.std.proofs.lemmas.Slice.Eq.{bytes_eq-Decides}
use Rattle.inc_build.specs.Builds.{Build, added, build, is_named, none, text_of, with_entries, with_entry, with_name}
use Rattle.inc_build.specs.Configurations.{Row}
use Rattle.inc_build.specs.Entries.{Entry}
use Rattle.inc_build.specs.Uses.{rows_of, source_of}
use Rattle.inc_build.proofs.OnlyUses.{get_split, one_same}
use Rattle.inc_build.proofs.UseLemmas.{IsMade, made_on}

abbrev IsDistinct : List (List ℕ) → Type 0
IsDistinct ns = (i j : ℕ) (x : List ℕ) → slice_get ns i ≡ Some x → slice_get ns j ≡ Some x → i ≡ j

or_second : (a b : Bool) → b ≡ true → (a || b) ≡ true
or_second true b is = refl
or_second false b is = is

named_from : (t : List ℕ) (ns : List (List ℕ)) (i : ℕ) → slice_get ns i ≡ Some t → is_named t ns ≡ true
named_from t [] i is = let low = slice_get_within [] i t is in absurd (omega (arith, low))
named_from t (n ∷ ns) zero is =
    let same : bytes_eq t n ≡ true = (bytes_eq-Decides t n).1 (sym (one_same n t is)) in
    ap (λ b. b || is_named t ns) same
named_from t (n ∷ ns) (suc i) is = or_second (bytes_eq t n) (is_named t ns) (named_from t ns i is)

distinct_on : (t : List ℕ) (ns : List (List ℕ)) → IsDistinct ns → IsDistinct (with_name t ns)
distinct_on t ns once =
    elim (cases_Bool (is_named t ns)) [
      | inl there ↦ rw there once
      | inr absent ↦ rw absent (λ i j x first second. same i j x absent (get_split ns t i x first) (get_split ns t j x second))
    ]
  where
    same : (i j : ℕ) (x : List ℕ) → is_named t ns ≡ false → (slice_get ns i ≡ Some x) ⊎ ((i ≡ length ns) × (x ≡ t)) → (slice_get ns j ≡ Some x) ⊎ ((j ≡ length ns) × (x ≡ t)) → i ≡ j
    same i j x absent (inl a) (inl b) = once i j x a b
    same i j x absent (inr a) (inr b) = a.0 ∙ sym b.0
    same i j x absent (inl a) (inr b) = absurd (true≢false (sym (named_from t ns i (a ∙ ap Some b.1)) ∙ absent))
    same i j x absent (inr a) (inl b) = absurd (true≢false (sym (named_from t ns j (b ∙ ap Some a.1)) ∙ absent))

record IsOnce (b : Build) : Type 0 where
  is_made : IsMade b
  sources_once : IsDistinct b.sources
  texts_once : IsDistinct b.texts

once_on : (entry : ℕ) (path : List ℕ) (rows : List Row) (b : Build) → IsOnce b → IsOnce (added entry path rows b)
once_on entry path rows b once = record {
  is_made = made_on entry path rows b once.is_made;
  sources_once = distinct_on path b.sources once.sources_once;
  texts_once = distinct_on (text_of rows) b.texts once.texts_once;
}

all_once : (base : List ℕ) (n : ℕ) (es : List Entry) (b : Build) → IsOnce b → IsOnce (with_entries base n es b)
all_once base n [] b once = once
all_once base n (x ∷ xs) b once = all_once base (suc n) xs (with_entry base n x b) (once_on n (source_of base x) (rows_of base x) b once)

build_once : (base : List ℕ) (es : List Entry) → IsOnce (build base es)
build_once base es = all_once base 0 es none (record { is_made = record { texts_are = refl; uses_are = refl }; sources_once = nothing; texts_once = nothing })
  where
    nothing : IsDistinct []
    nothing i j x is also = let low = slice_get_within [] i x is in absurd (omega (arith, low))

pub source_once : (base : List ℕ) (es : List Entry) (i j : ℕ) (x : List ℕ) → slice_get (build base es).sources i ≡ Some x → slice_get (build base es).sources j ≡ Some x → i ≡ j
source_once base es i j x first second = (build_once base es).sources_once i j x first second

pub configuration_once : (base : List ℕ) (es : List Entry) (i j : ℕ) (x : List Row) → slice_get (build base es).configurations i ≡ Some x → slice_get (build base es).configurations j ≡ Some x → i ≡ j
configuration_once base es i j x first second =
    let once = build_once base es in
    let cs = (build base es).configurations in
    let text_at : (k : ℕ) → slice_get cs k ≡ Some x → slice_get (build base es).texts k ≡ Some (text_of x) =
    λ k is. ap (λ ts. slice_get ts k) once.is_made.texts_are ∙ slice_get-map text_of cs k ∙ ap (option_map text_of) is in
    once.texts_once i j (text_of x) (text_at i first) (text_at j second)
