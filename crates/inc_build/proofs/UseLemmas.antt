-- Each entry is in the build.
use Rattle.std.proofs.Common.{◌≡◌, ℕ, zero, suc, ◌+◌, ◌<◌, ◌≤◌, Bool, true, false, List, [], ◌∷◌, ◌++◌, Option, Some, None, length, get_or, map, option_map, slice_get, inl, inr, refl, sym, ap, ◌∙◌, arith, bytes_eq}
use Rattle.std.specs.Prelude.{cond, not, unwrap_or}
use Rattle.std.specs.List.{IsAmong}
use Rattle.std.proofs.lemmas.Bool.{cases_Bool, false≢true, or_parts}
use Rattle.std.proofs.lemmas.Option.{slice_get-map, slice_get_within}
use Rattle.std.proofs.lemmas.Slice.Eq.{bytes_eq-Decides}
use Rattle.std.proofs.lemmas.List.{map-append, length-append, length-map}
use Rattle.std.proofs.Math.Seq.{get_or-append_seam}
use Rattle.std.proofs.Math.ListN.{get_or-append}
use Rattle.inc_build.specs.Builds.{Build, added, build, is_named, none, number, put_use, text_of, with_entries, with_entry, with_name, with_rows}
use Rattle.inc_build.specs.Configurations.{Row}
use Rattle.inc_build.specs.Entries.{Entry}
use Rattle.inc_build.specs.Uses.{Compiles, rows_of, source_of}
use Rattle.inc_build.specs.declared.builds.Use.{Use}
use Rattle.inc_build.proofs.BuildLemmas.{put_last}
use Rattle.inc_build.proofs.TextLemmas.{same_rows}

---- one text in a list of texts

number_yes : (t n : List ℕ) (ns : List (List ℕ)) → bytes_eq t n ≡ true → number t (n ∷ ns) ≡ 0
number_yes t n ns there = ap (λ b. cond (not b) (1 + number t ns) 0) there

number_no : (t n : List ℕ) (ns : List (List ℕ)) → bytes_eq t n ≡ false → number t (n ∷ ns) ≡ suc (number t ns)
number_no t n ns absent =
    let sum : 1 + number t ns ≡ suc (number t ns) = omega arith in
    ap (λ b. cond (not b) (1 + number t ns) 0) absent ∙ sum

number_in : (t : List ℕ) (ns : List (List ℕ)) → is_named t ns ≡ true → slice_get ns (number t ns) ≡ Some t
number_in t [] named = absurd (false≢true named)
number_in t (n ∷ ns) named =
    elim (cases_Bool (bytes_eq t n)) [
      | inl there ↦ rw (number_yes t n ns there) (ap Some (sym ((bytes_eq-Decides t n).0 there)))
      | inr absent ↦ rw (number_no t n ns absent) (number_in t ns (rw absent at named))
    ]

number_out : (t : List ℕ) (ns : List (List ℕ)) → is_named t ns ≡ false → number t ns ≡ length ns
number_out t [] named = refl
number_out t (n ∷ ns) named =
    let parts = or_parts (bytes_eq t n) (is_named t ns) named in
    number_no t n ns parts.0 ∙ ap suc (number_out t ns parts.1)

get_kept : {A : Type 0} (xs ys : List A) (k : ℕ) (x : A) → slice_get xs k ≡ Some x → slice_get (xs ++ ys) k ≡ Some x
get_kept [] ys k x is = let low = slice_get_within [] k x is in absurd (omega (arith, low))
get_kept (z ∷ zs) ys zero x is = is
get_kept (z ∷ zs) ys (suc k) x is = get_kept zs ys k x is

get_last : {A : Type 0} (xs : List A) (x : A) → slice_get (xs ++ x ∷ []) (length xs) ≡ Some x
get_last [] x = refl
get_last (z ∷ zs) x = get_last zs x

-- where a name is
pub name_at : (t : List ℕ) (ns : List (List ℕ)) → slice_get (with_name t ns) (number t ns) ≡ Some t
name_at t ns =
    elim (cases_Bool (is_named t ns)) [
      | inl there ↦ rw there (number_in t ns there)
      | inr absent ↦ rw (absent, number_out t ns absent) (get_last ns t)
    ]

name_kept : (t : List ℕ) (ns : List (List ℕ)) (k : ℕ) (x : List ℕ) → slice_get ns k ≡ Some x → slice_get (with_name t ns) k ≡ Some x
name_kept t ns k x is =
    elim (cases_Bool (is_named t ns)) [
      | inl there ↦ rw there is
      | inr absent ↦ rw absent (get_kept ns (t ∷ []) k x is)
    ]

---- include paths by their texts

some_same : (o : Option (List Row)) (rows : List Row) → option_map text_of o ≡ Some (text_of rows) → o ≡ Some rows
some_same None rows is = let bad : false ≡ true = ap (λ (o : Option (List ℕ)). is_there o) is in absurd (false≢true bad)
  where
    is_there : Option (List ℕ) → Bool
    is_there None = false
    is_there (Some x) = true
some_same (Some c) rows is = ap Some (same_rows c rows (ap (λ (o : Option (List ℕ)). unwrap_or o []) is))

pub rows_at : (rows : List Row) (texts : List (List ℕ)) (cs : List (List Row)) → texts ≡ map text_of cs → slice_get (with_rows rows texts cs) (number (text_of rows) texts) ≡ Some rows
rows_at rows texts cs made =
    elim (cases_Bool (is_named (text_of rows) texts)) [
      | inl there ↦
          let k = number (text_of rows) texts in
          let found : slice_get (map text_of cs) k ≡ Some (text_of rows) = ap (λ ts. slice_get ts k) (sym made) ∙ number_in (text_of rows) texts there in
          rw there (some_same (slice_get cs k) rows (sym (slice_get-map text_of cs k) ∙ found))
      | inr absent ↦
          let len : number (text_of rows) texts ≡ length cs = number_out (text_of rows) texts absent ∙ ap length made ∙ length-map cs text_of in
          rw (absent, len) (get_last cs rows)
    ]

rows_kept : (rows : List Row) (texts : List (List ℕ)) (cs : List (List Row)) (k : ℕ) (x : List Row) → slice_get cs k ≡ Some x → slice_get (with_rows rows texts cs) k ≡ Some x
rows_kept rows texts cs k x is =
    elim (cases_Bool (is_named (text_of rows) texts)) [
      | inl there ↦ rw there is
      | inr absent ↦ rw absent (get_kept cs (rows ∷ []) k x is)
    ]

texts_made : (rows : List Row) (texts : List (List ℕ)) (cs : List (List Row)) → texts ≡ map text_of cs → with_name (text_of rows) texts ≡ map text_of (with_rows rows texts cs)
texts_made rows texts cs made =
    elim (cases_Bool (is_named (text_of rows) texts)) [
      | inl there ↦ rw there made
      | inr absent ↦ rw absent (ap (λ ts. ts ++ text_of rows ∷ []) made ∙ sym (map-append text_of cs (rows ∷ [])))
    ]

---- the entries of a source

among_last : (us : List Use) (u : Use) → IsAmong (us ++ u ∷ []) u
among_last us u = (length us, (simp length-append (omega arith), sym (get_or-append_seam us u [] u)))

among_more : (us : List Use) (u v : Use) → IsAmong us v → IsAmong (us ++ u ∷ []) v
among_more us u v (i, (low, is)) = (i, (simp length-append (omega (arith, low)), is ∙ sym (get_or-append us (u ∷ []) v i low)))

put_has : (n : ℕ) (u : Use) (uss : List (List Use)) → n ≤ length uss → IsAmong (get_or (put_use n u uss) n []) u
put_has zero u [] high = (0, (omega arith, refl))
put_has (suc n) u [] high = absurd (omega (arith, high))
put_has zero u (us ∷ more) high = among_last us u
put_has (suc n) u (us ∷ more) high = put_has n u more (omega (arith, high))

put_kept : (n s : ℕ) (u v : Use) (uss : List (List Use)) → IsAmong (get_or uss s []) v → IsAmong (get_or (put_use n u uss) s []) v
put_kept n s u v [] (i, (low, is)) = absurd (omega (arith, low))
put_kept zero zero u v (us ∷ more) among = among_more us u v among
put_kept zero (suc s) u v (us ∷ more) among = among
put_kept (suc n) zero u v (us ∷ more) among = among
put_kept (suc n) (suc s) u v (us ∷ more) among = put_kept n s u v more among

put_length : (n : ℕ) (u : Use) (uss : List (List Use)) → n < length uss → length (put_use n u uss) ≡ length uss
put_length n u [] low = absurd (omega (arith, low))
put_length zero u (us ∷ more) low = refl
put_length (suc n) u (us ∷ more) low = ap suc (put_length n u more (omega (arith, low)))

uses_made : (t : List ℕ) (ns : List (List ℕ)) (u : Use) (uss : List (List Use)) → length uss ≡ length ns → length (put_use (number t ns) u uss) ≡ length (with_name t ns)
uses_made t ns u uss made =
    elim (cases_Bool (is_named t ns)) [
      | inl there ↦
          let low = slice_get_within ns (number t ns) t (number_in t ns there) in
          rw there (put_length (number t ns) u uss (omega (arith, low, made)) ∙ made)
      | inr absent ↦
          let len = number_out t ns absent in
          let last = put_last uss (number t ns) u (omega (arith, len, made)) in
          rw (absent, last) (simp length-append (omega (arith, made)))
    ]

pub at_most : (t : List ℕ) (ns : List (List ℕ)) → number t ns ≤ length ns
at_most t ns =
    elim (cases_Bool (is_named t ns)) [
      | inl there ↦ let low = slice_get_within ns (number t ns) t (number_in t ns there) in omega (arith, low)
      | inr absent ↦ let len = number_out t ns absent in omega (arith, len)
    ]

---- builds

pub record IsMade (b : Build) : Type 0 where
  pub texts_are : b.texts ≡ map text_of b.configurations
  pub uses_are : length b.uses ≡ length b.sources

pub made_on : (entry : ℕ) (path : List ℕ) (rows : List Row) (b : Build) → IsMade b → IsMade (added entry path rows b)
made_on entry path rows b made = record {
  texts_are = texts_made rows b.texts b.configurations made.texts_are;
  uses_are = uses_made path b.sources _ b.uses made.uses_are;
}

is_added : (entry : ℕ) (path : List ℕ) (rows : List Row) (b : Build) → IsMade b → Compiles (added entry path rows b) entry path rows
is_added entry path rows b made = record {
  source = number path b.sources;
  configuration = number (text_of rows) b.texts;
  is_source = name_at path b.sources;
  is_configuration = rows_at rows b.texts b.configurations made.texts_are;
  is_use = put_has (number path b.sources) _ b.uses (rw made.uses_are (at_most path b.sources));
}

is_kept : (entry : ℕ) (path : List ℕ) (rows : List Row) (b : Build) (e : ℕ) (p : List ℕ) (r : List Row) → Compiles b e p r → Compiles (added entry path rows b) e p r
is_kept entry path rows b e p r c = record {
  source = c.source;
  configuration = c.configuration;
  is_source = name_kept path b.sources c.source p c.is_source;
  is_configuration = rows_kept rows b.texts b.configurations c.configuration r c.is_configuration;
  is_use = put_kept (number path b.sources) c.source _ _ b.uses c.is_use;
}

all_kept : (base : List ℕ) (n : ℕ) (es : List Entry) (b : Build) (e : ℕ) (p : List ℕ) (r : List Row) → Compiles b e p r → Compiles (with_entries base n es b) e p r
all_kept base n [] b e p r c = c
all_kept base n (x ∷ xs) b e p r c =
    all_kept base (suc n) xs (with_entry base n x b) e p r (is_kept n (source_of base x) (rows_of base x) b e p r c)

each_from : (base : List ℕ) (n : ℕ) (es : List Entry) (b : Build) (i : ℕ) (e : Entry) → IsMade b → slice_get es i ≡ Some e → Compiles (with_entries base n es b) (n + i) (source_of base e) (rows_of base e)
each_from base n [] b i e made is = let low = slice_get_within [] i e is in absurd (omega (arith, low))
each_from base n (x ∷ xs) b zero e made is =
    let here : n + 0 ≡ n = omega arith in
    let first : x ≡ e = ap (λ (o : Option Entry). unwrap_or o x) is in
    rw (here, sym first) (all_kept base (suc n) xs (with_entry base n x b) n (source_of base x) (rows_of base x) (is_added n (source_of base x) (rows_of base x) b made))
each_from base n (x ∷ xs) b (suc i) e made is =
    let on : n + suc i ≡ suc n + i = omega arith in
    rw on (each_from base (suc n) xs (with_entry base n x b) i e (made_on n (source_of base x) (rows_of base x) b made) is)

pub each_compiles : (base : List ℕ) (es : List Entry) (i : ℕ) (e : Entry) → slice_get es i ≡ Some e → Compiles (build base es) i (source_of base e) (rows_of base e)
each_compiles base es i e is =
    let at : 0 + i ≡ i = omega arith in
    rw at at (each_from base 0 es none i e (record { texts_are = refl; uses_are = refl }) is)
