-- Nothing but the entries is in a build, and nothing in it twice.
use Rattle.std.proofs.Common.{◌≡◌, ◌⊎◌, ℕ, zero, suc, ◌+◌, ◌<◌, ◌≤◌, List, [], ◌∷◌, ◌++◌, Option, Some, length, get_or, slice_get, inl, inr, refl, sym, ap, ◌∙◌, arith}
use Rattle.std.specs.Prelude.{unwrap_or}
use Rattle.std.specs.List.{IsAmong}
use Rattle.std.proofs.lemmas.Bool.{cases_Bool}
use Rattle.std.proofs.lemmas.Option.{slice_get_within}
use Rattle.std.proofs.lemmas.List.{length-append}
use Rattle.inc_build.specs.Builds.{Build, added, build, is_named, none, number, put_use, text_of, with_entries, with_entry, with_name, with_rows}
use Rattle.inc_build.specs.Configurations.{Row}
use Rattle.inc_build.specs.Entries.{Entry}
use Rattle.inc_build.specs.Uses.{Compiles, rows_of, source_of}
use Rattle.inc_build.specs.declared.builds.Use.{Use}
use Rattle.inc_build.proofs.UseLemmas.{IsMade, at_most, made_on, name_at, rows_at}

---- lists with one more

pub one_same : {A : Type 0} (x y : A) → Some x ≡ Some y → x ≡ y
one_same x y is = ap (λ (o : Option _). unwrap_or o x) is

-- what is in a list with one more
pub get_split : {A : Type 0} (xs : List A) (y : A) (k : ℕ) (x : A) → slice_get (xs ++ y ∷ []) k ≡ Some x → (slice_get xs k ≡ Some x) ⊎ ((k ≡ length xs) × (x ≡ y))
get_split [] y zero x is = inr (refl, sym (one_same y x is))
get_split [] y (suc k) x is = let low = slice_get_within (y ∷ []) (suc k) x is in absurd (omega (arith, low))
get_split (z ∷ zs) y zero x is = inl is
get_split (z ∷ zs) y (suc k) x is = further (get_split zs y k x is)
  where
    further : (slice_get zs k ≡ Some x) ⊎ ((k ≡ length zs) × (x ≡ y)) → (slice_get zs k ≡ Some x) ⊎ ((suc k ≡ suc (length zs)) × (x ≡ y))
    further (inl before) = inl before
    further (inr last) = inr (ap suc last.0, last.1)

before_last : {A : Type 0} (xs : List A) (y : A) (k : ℕ) (x : A) → k < length xs → (slice_get xs k ≡ Some x) ⊎ ((k ≡ length xs) × (x ≡ y)) → slice_get xs k ≡ Some x
before_last xs y k x low (inl before) = before
before_last xs y k x low (inr last) = let at = last.0 in absurd (omega (arith, low, at))

name_back : (t : List ℕ) (ns : List (List ℕ)) (k : ℕ) (x : List ℕ) → k < length ns → slice_get (with_name t ns) k ≡ Some x → slice_get ns k ≡ Some x
name_back t ns k x low is =
    elim (cases_Bool (is_named t ns)) [
      | inl there ↦ rw there at is
      | inr absent ↦ before_last ns t k x low (get_split ns t k x (rw absent at is))
    ]

rows_back : (rows : List Row) (texts : List (List ℕ)) (cs : List (List Row)) (k : ℕ) (x : List Row) → k < length cs → slice_get (with_rows rows texts cs) k ≡ Some x → slice_get cs k ≡ Some x
rows_back rows texts cs k x low is =
    elim (cases_Bool (is_named (text_of rows) texts)) [
      | inl there ↦ rw there at is
      | inr absent ↦ before_last cs rows k x low (get_split cs rows k x (rw absent at is))
    ]

rows_grow : (rows : List Row) (texts : List (List ℕ)) (cs : List (List Row)) → length cs ≤ length (with_rows rows texts cs)
rows_grow rows texts cs =
    elim (cases_Bool (is_named (text_of rows) texts)) [
      | inl there ↦ rw there (omega arith)
      | inr absent ↦ rw absent (simp length-append (omega arith))
    ]

---- the entries of a source

among_split : (us : List Use) (u v : Use) → IsAmong (us ++ u ∷ []) v → IsAmong us v ⊎ (v ≡ u)
among_split [] u v (zero, (low, is)) = inr is
among_split [] u v (suc i, (low, is)) = absurd (omega (arith, low))
among_split (w ∷ ws) u v (zero, (low, is)) = inl (0, (omega arith, is))
among_split (w ∷ ws) u v (suc i, (low, is)) = further (among_split ws u v (i, (omega (arith, low), is)))
  where
    further : IsAmong ws v ⊎ (v ≡ u) → IsAmong (w ∷ ws) v ⊎ (v ≡ u)
    further (inl (j, (lower, there))) = inl (suc j, (omega (arith, lower), there))
    further (inr last) = inr last

among_within : (uss : List (List Use)) (s : ℕ) (v : Use) → IsAmong (get_or uss s []) v → s < length uss
among_within [] s v (i, (low, is)) = absurd (omega (arith, low))
among_within (us ∷ more) zero v among = omega arith
among_within (us ∷ more) (suc s) v among = let rest = among_within more s v among in omega (arith, rest)

at_place : (n : ℕ) (us : List Use) (u v : Use) → IsAmong us v ⊎ (v ≡ u) → IsAmong us v ⊎ ((n ≡ n) × (v ≡ u))
at_place n us u v (inl among) = inl among
at_place n us u v (inr last) = inr (refl, last)

used_split : (n s : ℕ) (u v : Use) (uss : List (List Use)) → n ≤ length uss → IsAmong (get_or (put_use n u uss) s []) v → IsAmong (get_or uss s []) v ⊎ ((s ≡ n) × (v ≡ u))
used_split zero zero u v [] high among = at_place zero [] u v (among_split [] u v among)
used_split zero (suc s) u v [] high among = inl among
used_split (suc n) s u v [] high among = absurd (omega (arith, high))
used_split zero zero u v (us ∷ more) high among = at_place zero us u v (among_split us u v among)
used_split zero (suc s) u v (us ∷ more) high among = inl among
used_split (suc n) zero u v (us ∷ more) high among = inl among
used_split (suc n) (suc s) u v (us ∷ more) high among = further (used_split n s u v more (omega (arith, high)) among)
  where
    further : IsAmong (get_or more s []) v ⊎ ((s ≡ n) × (v ≡ u)) → IsAmong (get_or more s []) v ⊎ ((suc s ≡ suc n) × (v ≡ u))
    further (inl among) = inl among
    further (inr is) = inr (ap suc is.0, is.1)

---- builds

-- each include path that is named is there
record IsSound (b : Build) : Type 0 where
  is_made : IsMade b
  is_within : (s : ℕ) (v : Use) → IsAmong (get_or b.uses s []) v → v.configuration < length b.configurations

abbrev use_of : ℕ → (path : List ℕ) → List Row → Build → Use
use_of entry path rows b = record { entry = entry; configuration = number (text_of rows) b.texts }

uses_high : (path : List ℕ) (b : Build) → IsMade b → number path b.sources ≤ length b.uses
uses_high path b made = rw made.uses_are (at_most path b.sources)

sound_on : (entry : ℕ) (path : List ℕ) (rows : List Row) (b : Build) → IsSound b → IsSound (added entry path rows b)
sound_on entry path rows b sound = record {
  is_made = made_on entry path rows b sound.is_made;
  is_within = λ s v among. within v (used_split (number path b.sources) s (use_of entry path rows b) v b.uses (uses_high path b sound.is_made) among);
}
  where
    within : {s : ℕ} (v : Use) → IsAmong (get_or b.uses s []) v ⊎ ((s ≡ number path b.sources) × (v ≡ use_of entry path rows b)) → v.configuration < length (with_rows rows b.texts b.configurations)
    within {s} v (inl old) = let low = sound.is_within s v old in let more = rows_grow rows b.texts b.configurations in omega (arith, low, more)
    within {s} v (inr new) = rw (new.1) (slice_get_within (with_rows rows b.texts b.configurations) (number (text_of rows) b.texts) rows (rows_at rows b.texts b.configurations sound.is_made.texts_are))

-- what a build says after an entry it said before, or it is of that entry
back : (entry : ℕ) (path : List ℕ) (rows : List Row) (b : Build) (i : ℕ) (p : List ℕ) (r : List Row) → IsSound b → Compiles (added entry path rows b) i p r → Compiles b i p r ⊎ ((i ≡ entry) × (p ≡ path) × (r ≡ rows))
back entry path rows b i p r sound c = by (used_split (number path b.sources) c.source (use_of entry path rows b) (record { entry = i; configuration = c.configuration }) b.uses (uses_high path b sound.is_made) c.is_use)
  where
    by : IsAmong (get_or b.uses c.source []) (record { entry = i; configuration = c.configuration }) ⊎ ((c.source ≡ number path b.sources) × (record { entry = i; configuration = c.configuration } ≡ use_of entry path rows b)) → Compiles b i p r ⊎ ((i ≡ entry) × (p ≡ path) × (r ≡ rows))
    by (inl old) =
        let short = among_within b.uses c.source _ old in
        let same = sound.is_made.uses_are in
        inl (record {
          source = c.source;
          configuration = c.configuration;
          is_source = name_back path b.sources c.source p (omega (arith, short, same)) c.is_source;
          is_configuration = rows_back rows b.texts b.configurations c.configuration r (sound.is_within c.source _ old) c.is_configuration;
          is_use = old;
        })
    by (inr new) =
        let number_is : c.configuration ≡ number (text_of rows) b.texts = ap (λ (u : Use). u.configuration) new.1 in
        inr (
          ap (λ (u : Use). u.entry) new.1,
          one_same p path (sym c.is_source ∙ ap (slice_get (with_name path b.sources)) new.0 ∙ name_at path b.sources),
          one_same r rows (sym c.is_configuration ∙ ap (slice_get (with_rows rows b.texts b.configurations)) number_is ∙ rows_at rows b.texts b.configurations sound.is_made.texts_are),
        )

abbrev IsOf : (base : List ℕ) (n : ℕ) (es : List Entry) (i : ℕ) (p : List ℕ) (r : List Row) → Type 0
IsOf base n es i p r = (j : ℕ) × (e : Entry) × (i ≡ n + j) × (slice_get es j ≡ Some e) × (p ≡ source_of base e) × (r ≡ rows_of base e)

each_is_of : (base : List ℕ) (n : ℕ) (es : List Entry) (b : Build) (i : ℕ) (p : List ℕ) (r : List Row) → IsSound b → Compiles (with_entries base n es b) i p r → Compiles b i p r ⊎ IsOf base n es i p r
each_is_of base n [] b i p r sound c = inl c
each_is_of base n (x ∷ xs) b i p r sound c =
    later (each_is_of base (suc n) xs (with_entry base n x b) i p r (sound_on n (source_of base x) (rows_of base x) b sound) c)
  where
    now : Compiles b i p r ⊎ ((i ≡ n) × (p ≡ source_of base x) × (r ≡ rows_of base x)) → Compiles b i p r ⊎ IsOf base n (x ∷ xs) i p r
    now (inl before) = inl before
    now (inr here) = let at = here.0 in let sum : i ≡ n + 0 = omega (arith, at) in inr (0, x, sum, refl, here.1, here.2)

    later : Compiles (with_entry base n x b) i p r ⊎ IsOf base (suc n) xs i p r → Compiles b i p r ⊎ IsOf base n (x ∷ xs) i p r
    later (inl before) = now (back n (source_of base x) (rows_of base x) b i p r sound before)
    later (inr (j, e, at, is, path, rows)) = let sum : i ≡ n + suc j = omega (arith, at) in inr (suc j, e, sum, is, path, rows)

pub only_entries : (base : List ℕ) (es : List Entry) (i : ℕ) (p : List ℕ) (r : List Row) → Compiles (build base es) i p r → (e : Entry) × (slice_get es i ≡ Some e) × (p ≡ source_of base e) × (r ≡ rows_of base e)
only_entries base es i p r c = of (each_is_of base 0 es none i p r (record { is_made = record { texts_are = refl; uses_are = refl }; is_within = nothing }) c)
  where
    nothing : (s : ℕ) (v : Use) → IsAmong (get_or {A = List Use} [] s []) v → v.configuration < 0
    nothing s v (k, (low, is)) = absurd (omega (arith, low))

    of : Compiles none i p r ⊎ IsOf base 0 es i p r → (e : Entry) × (slice_get es i ≡ Some e) × (p ≡ source_of base e) × (r ≡ rows_of base e)
    of (inl c) = let low = slice_get_within [] c.source p c.is_source in absurd (omega (arith, low))
    of (inr (j, e, at, is, path, rows)) = let same : i ≡ j = omega (arith, at) in (e, ap (slice_get es) same ∙ is, path, rows)
