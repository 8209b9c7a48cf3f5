-- The directives of a file by their lines, which rise.
use Rattle.std.proofs.Common.{◌≡◌, ◌⊎◌, set, ℕ, zero, suc, ◌<◌, ◌≤◌, List, [], ◌∷◌, Option, Some, None, Result, Ok, Err, IfOk, length, map, get_or, inl, inr, refl, sym, ap, subst, ◌∙◌, arith}
use Rattle.std.specs.Prelude.{replicate, slice_get}
use Rattle.std.specs.Option.{option_map_or}
use Rattle.std.specs.List.Sorted.{IsNonDecreasingBy, IsPartitionPoint, IsStrictlyIncreasing}
use Rattle.std.proofs.lemmas.Bool.{cases_eq, eq-eqb, ne_eqb}
use Rattle.std.proofs.lemmas.List.{get_or-map, length-map}
use Rattle.std.proofs.lemmas.Option.{slice_get-get_or, slice_get_past}
use Rattle.std.proofs.lemmas.List.Kept.{AllPairs-from_increasing, IsNonDecreasingBy-filter}
use Rattle.inc_directive.specs.FileDirectives.{Directive}
use Rattle.inc_directive.specs.LineKinds.{LineKind, Text}
use Rattle.inc_directive.specs.FileDirectives.{directives_in}
use Rattle.inc_directive.specs.Parts.{FilePart, inclusions_in, is_inclusion, lines_of_parts}
use Rattle.inc_text.specs.declared.languages.Language.{Language}
use Rattle.inc_lookup.specs.declared.projects.DirectiveId.{DirectiveId}
use Rattle.inc_answers.specs.DirectiveNames.{file_inclusions, kept_kind, kind_at, kind_in}
use Rattle.inc_answers.specs.KeptFiles.{Kept, kept_at}
use Rattle.inc_answers.specs.NameTables.{AreNames, known_at, seen_kept, seen_named}
use Rattle.inc_answers.specs.declared.directive_names.NamedLine.{NamedLine}

---- the directive on a line

-- those on later lines are not asked for
none_later : (xs : List NamedLine) (n : ℕ) → ((i : ℕ) (x : NamedLine) → i < length xs → n < (get_or xs i x).line) → kind_in (map seen_named xs) n ≡ Text
none_later [] n later = refl
none_later (x ∷ xs) n later =
    let above : n < x.line = later 0 x (omega arith) in
    rw (ne_eqb x.line n (omega arith)) (none_later xs n (λ i y low. later (suc i) y (omega arith)))

abbrev pub at_place : Option NamedLine → ℕ → LineKind
at_place (Some x) n = kind_in (seen_named x ∷ []) n
at_place None n = Text

-- the first that is on no line before it
pub kind_at_point : (xs : List NamedLine) (n k : ℕ) → IsNonDecreasingBy (λ (x : NamedLine). x.line) xs
    → IsPartitionPoint (λ (x : NamedLine). x.line < n) (λ (x : NamedLine). n ≤ x.line) xs k → kind_in (map seen_named xs) n ≡ at_place (slice_get xs k) n
kind_at_point [] n zero rise point = refl
kind_at_point [] n (suc k) rise point = refl
kind_at_point (x ∷ xs) n zero rise point =
    elim (cases_eq x.line n) [
      | inl same ↦ rw (eq-eqb x.line n same) refl
      | inr other ↦
          let from : n ≤ x.line = point.1 0 x (omega arith) (omega arith) in
          rw (ne_eqb x.line n other)
          (none_later xs n (λ i y low. let over : x.line ≤ (get_or xs i y).line = rise 0 (suc i) y (omega arith) (omega arith) in omega (arith, from, over, other)))
    ]
kind_at_point (x ∷ xs) n (suc k) rise point =
    let below : x.line < n = point.0 0 x (omega arith) (omega arith) in
    rw (ne_eqb x.line n (omega (arith, below)))
    (kind_at_point xs n k (λ i j d le within. rise (suc i) (suc j) d (omega (arith, le)) (omega (arith, within)))
    (λ i d low high. point.0 (suc i) d (omega (arith, low)) (omega (arith, high)), λ i d low high. point.1 (suc i) d (omega (arith, low)) (omega (arith, high))))

---- lines rise

abbrev pub line_of : Directive → ℕ
line_of d = d.line

pub rise_by : (ds : List Directive) → IsStrictlyIncreasing (map line_of ds) → IsNonDecreasingBy line_of ds
rise_by ds h i j d le within =
    elim (cases_eq i j) [
      | inl same ↦ omega (arith, ap (λ k. line_of (get_or ds k d)) same)
      | inr apart ↦
          let long = length-map ds line_of in
          let less : get_or (map line_of ds) i 0 < get_or (map line_of ds) j 0 = AllPairs-from_increasing (map line_of ds) h i j 0 (omega (arith, le, apart)) (omega (arith, within, long)) in
          omega (arith, less, get_or-map line_of ds i d 0 (omega (arith, le, within)), get_or-map line_of ds j d 0 within)
    ]

-- lines that stand for directives whose lines rise
pub lines_rise : (xs : List NamedLine) (ds : List Directive) → map seen_named xs ≡ ds → IsNonDecreasingBy line_of ds → IsNonDecreasingBy (λ (x : NamedLine). x.line) xs
lines_rise xs ds is rise i j d le within =
    let long : length xs ≡ length ds = sym (length-map xs seen_named) ∙ ap (λ (ns : List Directive). length ns) is in
    let line_at : (k : ℕ) → k < length xs → (get_or xs k d).line ≡ line_of (get_or ds k (seen_named d)) =
    λ k low. ap line_of (sym (get_or-map seen_named xs k d (seen_named d) low) ∙ ap (λ (ns : List Directive). get_or ns k (seen_named d)) is) in
    let over = rise i j (seen_named d) le (omega (arith, within, long)) in
    omega (arith, over, line_at i (omega (arith, le, within)), line_at j within)

-- so do those of a file that include
pub inclusions_rise : (ps : List FilePart) → IsStrictlyIncreasing (map line_of (directives_in (lines_of_parts ps))) → IsNonDecreasingBy line_of (inclusions_in ps)
inclusions_rise ps h = IsNonDecreasingBy-filter line_of is_inclusion (directives_in (lines_of_parts ps)) (rise_by (directives_in (lines_of_parts ps)) h)

---- what is known of files

pub none_known : (language : Language) (kept : Kept) (n : ℕ) → AreNames language kept (replicate n None)
none_known language kept zero file ds bytes is there = cc
none_known language kept (suc n) zero ds bytes is there = cc
none_known language kept (suc n) (suc file) ds bytes is there =
    let nothing = none_at n file ds is in absurd nothing
  where
    none_at : (n file : ℕ) (ds : List Directive) → known_at (replicate n None) file ≡ Some ds → ⊥
    none_at zero file ds is = cc
    none_at (suc n) zero ds is = cc
    none_at (suc n) (suc file) ds is = none_at n file ds is

known_set : (files : List (Option (List Directive))) (place file : ℕ) (v : Option (List Directive)) (ds : List Directive) → known_at (set files place v) file ≡ Some ds
    → ((file ≡ place) × (v ≡ Some ds)) ⊎ (known_at files file ≡ Some ds)
known_set [] place file v ds h = inr h
known_set (f ∷ fs) zero zero v ds h = inl (refl, h)
known_set (f ∷ fs) zero (suc file) v ds h = inr h
known_set (f ∷ fs) (suc place) zero v ds h = inr h
known_set (f ∷ fs) (suc place) (suc file) v ds h =
    elim (known_set fs place file v ds h) [ inl here ↦ inl (ap suc here.0, here.1) | inr there ↦ inr there ]

same_directives : (a b : List Directive) → Some a ≡ Some b → a ≡ b
same_directives a b is = cc

same_bytes : (a b : List ℕ) → Some a ≡ Some b → a ≡ b
same_bytes a b is = cc

-- those of one file more
pub one_known : (language : Language) (kept : Kept) (files : List (Option (List Directive))) (place : ℕ) (ds : List Directive) (bytes : List ℕ)
    → kept_at kept place ≡ Some bytes → ds ≡ file_inclusions language bytes → AreNames language kept files → AreNames language kept (set files place (Some ds))
one_known language kept files place ds bytes here are all file others given is there =
    elim (known_set files place file (Some ds) others is) [
      | inl own ↦
          sym (same_directives ds others own.1) ∙ are
          ∙ ap (file_inclusions language) (same_bytes bytes given (sym here ∙ ap (kept_at kept) (sym own.0) ∙ there))
      | inr old ↦ all file others given old there
    ]

-- what a directive is by what is kept of its file
pub kind_kept : (language : Language) (kept : Kept) (d : DirectiveId) (ds : List Directive) (bytes : List ℕ) → kept_at kept d.file ≡ Some bytes
    → ds ≡ file_inclusions language bytes → kind_in ds d.line ≡ kept_kind language kept d
kind_kept language kept d ds bytes here are =
    ap (λ (xs : List Directive). kind_in xs d.line) are ∙ ap (λ (o : Option (List ℕ)). option_map_or (λ b. kind_at language b d.line) o Text) (sym here)

-- what the search finds at its place
pub found_kind : (xs lines lent : List NamedLine) (view : List Directive) (n k : ℕ) (x : NamedLine) (kind : LineKind) → view ≡ map seen_named xs → lines ≡ xs → lent ≡ xs
    → IsNonDecreasingBy (λ (y : NamedLine). y.line) xs
    → IsPartitionPoint (λ (y : NamedLine). y.line < n) (λ (y : NamedLine). n ≤ y.line) lines k → k < length lent → x ≡ get_or lent k x
    → kind ≡ kind_in (seen_named x ∷ []) n → kind ≡ kind_in view n
found_kind xs lines lent view n k x kind is one two rise point low at named =
    named ∙ ap (λ (o : Option NamedLine). at_place o n) (ap (λ (y : NamedLine). Some y) at ∙ sym (slice_get-get_or lent k x low))
    ∙ ap (λ (ys : List NamedLine). at_place (slice_get ys k) n) two
    ∙ sym (kind_at_point xs n k rise (subst (λ (ys : List NamedLine). IsPartitionPoint (λ (y : NamedLine). y.line < n) (λ (y : NamedLine). n ≤ y.line) ys k) one point))
    ∙ ap (λ (xs : List Directive). kind_in xs n) (sym is)

pub no_kind : (xs lines lent : List NamedLine) (view : List Directive) (n k : ℕ) → view ≡ map seen_named xs → lines ≡ xs → lent ≡ xs
    → IsNonDecreasingBy (λ (y : NamedLine). y.line) xs
    → IsPartitionPoint (λ (y : NamedLine). y.line < n) (λ (y : NamedLine). n ≤ y.line) lines k → length lent ≤ k → Text ≡ kind_in view n
no_kind xs lines lent view n k is one two rise point past =
    ap (λ (o : Option NamedLine). at_place o n) (sym (slice_get_past lent k past))
    ∙ ap (λ (ys : List NamedLine). at_place (slice_get ys k) n) two
    ∙ sym (kind_at_point xs n k rise (subst (λ (ys : List NamedLine). IsPartitionPoint (λ (y : NamedLine). y.line < n) (λ (y : NamedLine). n ≤ y.line) ys k) one point))
    ∙ ap (λ (xs : List Directive). kind_in xs n) (sym is)

-- what it is by what is known of its file
pub kind_known : (language : Language) (kept : Kept) (files lent : List (Option (List Directive))) (place : ℕ) (d : DirectiveId) (ds : List Directive) (bytes : List ℕ)
    → AreNames language kept files → lent ≡ files → place ≡ d.file → Some bytes ≡ kept_at kept d.file → Some ds ≡ known_at lent place
    → kind_in ds d.line ≡ kept_kind language kept d
kind_known language kept files lent place d ds bytes are same at there known =
    kind_kept language kept d ds bytes (sym there)
    (are d.file ds bytes (ap (λ (fs : List (Option (List Directive))). known_at fs d.file) (sym same) ∙ ap (known_at lent) (sym at) ∙ sym known) (sym there))

-- a line that is kept by itself
pub line_if : {E : Type 0} (r : Result NamedLine E) (d : Directive) (kind : LineKind) → IfOk r (λ n. seen_named n ≡ d) → d.kind ≡ kind → IfOk r (λ n. seen_kept n ≡ kind)
line_if (Ok n) d kind is same = ap (λ (x : Directive). x.kind) is ∙ same
line_if (Err fault) d kind is same = tt
