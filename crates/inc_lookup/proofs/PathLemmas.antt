-- Paths, their parts, and the last / of a text.
use Rattle.std.proofs.Common.{◌≡◌, ℕ, ◌+◌, ◌-◌, ◌<◌, ◌≤◌, Bool, true, false, List, [], ◌∷◌, ◌++◌, Option, Some, None, length, take, drop, get_or, inl, inr, refl, sym, ap, ◌∙◌, arith}
use Rattle.std.proofs.lemmas.Bool.{and_parts, and_from, or_parts, false≢true, true≢false, not_from_false, cases_Bool, eqb-true, eq-eqb, not-true, false_from_ne_true}
use Rattle.std.specs.Prelude.{◌==◌, option_map, option_and_then, MatchOption, min}
use Rattle.std.specs.List.{list_all, list_any, onto_first, join_with_byte}
use Rattle.std.proofs.lemmas.List.{get_or_default, drop_more, take-append-drop, drop-drop, get_or-drop, get_or-take, length-take, length-drop, length-append, drop-append-le, drop_at, nil_from_length, append_assoc}
use Rattle.memchr.specs.Find.{IsFirstByte, Nowhere, Passes, is_byte}
use Rattle.std.proofs.lemmas.List.Folds.{list_any_none, list_all-append}
use Rattle.std.proofs.lemmas.List.Splits.{slice_split-cons_yes, slice_split-cons_no}
use Rattle.inc_lookup.specs.Paths.{components, without_last, with_component, with_components}
use Rattle.inc_lookup.specs.PathParts.{is_name, Shows, ShowsAfter}
use Rattle.std.specs.Prelude.{◌≡◌, ℕ, ◌==◌, ◌≤◌, Bool, true, false, List, [], ◌∷◌, Option, length, drop, take, MatchOption}
use Rattle.std.specs.List.{list_all, list_any, join_with_byte}
use Rattle.inc_text.specs.Ascii.{slash}
use Rattle.inc_lookup.specs.Paths.{with_components, components}

-- with parts after the root at the beginning, the text now shows parts that the rest of the path continues as the whole does
abbrev pub Continues : ℕ → List ℕ → List ℕ → List ℕ → List ℕ → Type 0
Continues root path begun rest now =
    (parts : List (List ℕ)) → Shows root parts begun →
    (front : List (List ℕ)) × Shows root front now × (take root now ≡ take root begun) × (with_components parts (components path) ≡ with_components front (components rest))

abbrev pub has_slash : List ℕ → Bool
has_slash text = list_any (λ x. x == 47) text

onto_first-append : (b : ℕ) (p : List ℕ) (ps qs : List (List ℕ)) → onto_first b (p ∷ ps) ++ qs ≡ onto_first b ((p ∷ ps) ++ qs)
onto_first-append b p ps qs = refl

-- a text has at least one part
pub components-cons : (xs : List ℕ) → (p : List ℕ) × (ps : List (List ℕ)) × (components xs ≡ p ∷ ps)
components-cons [] = ([], [], refl)
components-cons (x ∷ xs) =
    let rest = components-cons xs in
    elim (cases_Bool (x == 47)) [
      | inl is ↦ ([], components xs, slice_split-cons_yes (λ b. b == 47) x xs is)
      | inr isnt ↦ (x ∷ rest.0, rest.1, slice_split-cons_no (λ b. b == 47) x xs isnt ∙ ap (onto_first x) rest.2)
    ]

-- the parts of two texts with a / between them
pub components-slash : (xs ys : List ℕ) → components (xs ++ 47 ∷ ys) ≡ components xs ++ components ys
components-slash [] ys = refl
components-slash (x ∷ xs) ys =
    let rest = components-slash xs ys in
    let parts = components-cons xs in
    elim (cases_Bool (x == 47)) [
      | inl is ↦ rw (slice_split-cons_yes (λ b. b == 47) x (xs ++ 47 ∷ ys) is, slice_split-cons_yes (λ b. b == 47) x xs is) (ap (λ (l : List (List ℕ)). [] ∷ l) rest)
      | inr isnt ↦ rw (slice_split-cons_no (λ b. b == 47) x (xs ++ 47 ∷ ys) isnt, slice_split-cons_no (λ b. b == 47) x xs isnt, rest, parts.2) refl
    ]

-- a text without / is one part
pub components_one : (xs : List ℕ) → has_slash xs ≡ false → components xs ≡ xs ∷ []
components_one [] h = refl
components_one (x ∷ xs) h =
    let parts = or_parts (x == 47) (has_slash xs) h in
    slice_split-cons_no (λ b. b == 47) x xs parts.0 ∙ ap (onto_first x) (components_one xs parts.1)

-- a name has no /
name-no_slash : (p : List ℕ) → is_name p ≡ true → has_slash p ≡ false
name-no_slash [] h = refl
name-no_slash (b ∷ bs) h = not-true _ h

-- names joined, and taken apart again
pub components-join : (p : List ℕ) (ps : List (List ℕ)) → list_all is_name (p ∷ ps) ≡ true → components (join_with_byte 47 (p ∷ ps)) ≡ p ∷ ps
components-join p [] h = components_one p (name-no_slash p (and_parts _ _ h).0)
components-join p (q ∷ ps) h =
    let parts = and_parts (is_name p) (list_all is_name (q ∷ ps)) h in
    components-slash p (join_with_byte 47 (q ∷ ps)) ∙ rw (components_one p (name-no_slash p parts.0), components-join q ps parts.1) refl

-- the parts without the last, where it is apart
pub without_last-push : (parts : List (List ℕ)) (c : List ℕ) → without_last (parts ++ c ∷ []) ≡ Some parts
without_last-push [] c = refl
without_last-push (p ∷ []) c = refl
without_last-push (p ∷ q ∷ ps) c = ap (option_map (λ (front : List (List ℕ)). p ∷ front)) (without_last-push (q ∷ ps) c)

-- a text without / at any place has none
pub has_slash_none : (xs : List ℕ) → ((k : ℕ) → k < length xs → get_or xs k 0 ≡ 47 → ⊥) → has_slash xs ≡ false
has_slash_none xs h =
    list_any_none (λ x. x == 47) xs (λ k d high. false_from_ne_true _ (λ is. h k high (get_or_default xs k 0 d high ∙ eqb-true _ _ is)))

-- what is before and after the last / of a text
pub last_slash : (T : List ℕ) (k : ℕ) → k < length T → Passes (is_byte 47) T k → Nowhere (Passes (is_byte 47) T) (k + 1) (length T) → (T ≡ take k T ++ 47 ∷ drop (k + 1) T) × (has_slash (drop (k + 1) T) ≡ false)
last_slash T k within here behind =
    let at : get_or T k 0 ≡ 47 = eqb-true _ _ here in (
      sym (take-append-drop k T) ∙ ap (λ (l : List ℕ). take k T ++ l) (drop_more T k 0 within ∙ ap (λ (b : ℕ). b ∷ drop (k + 1) T) at),
      has_slash_none (drop (k + 1) T) (λ i low slash.
          let short : i < length T - (k + 1) = simp length-drop at low in
          behind (k + 1 + i) (omega arith) (omega arith) (eq-eqb _ _ (sym (get_or-drop (k + 1) T i 0) ∙ slash))),
    )

-- a text that shows parts, cut at its last /
pub without_last-cut : (T A B : List ℕ) (parts : List (List ℕ)) → T ≡ A ++ 47 ∷ B → has_slash B ≡ false → T ≡ join_with_byte 47 parts → list_all is_name parts ≡ true → (without_last parts ≡ Some (components A)) × (list_all is_name (components A) ≡ true)
without_last-cut T A B [] cut behind joined names =
    let none : 0 ≡ length A + length (47 ∷ B) = simp length-append at (ap length (sym joined ∙ cut)) in
    absurd (omega arith)
without_last-cut T A B (p ∷ ps) cut behind joined names =
    let apart : p ∷ ps ≡ components A ++ B ∷ [] =
    sym (components-join p ps names) ∙ ap components (sym joined ∙ cut) ∙ components-slash A B ∙ ap (λ (l : List (List ℕ)). components A ++ l) (components_one B behind) in
    let both = sym (list_all-append is_name (components A) (B ∷ [])) ∙ ap (list_all is_name) (sym apart) ∙ names in
    (ap without_last apart ∙ without_last-push (components A) B, (and_parts _ _ both).0)

-- names joined give the empty text only where there is none
pub join-nil : (parts : List (List ℕ)) → list_all is_name parts ≡ true → join_with_byte 47 parts ≡ [] → parts ≡ []
join-nil [] names e = refl
join-nil ([] ∷ ps) names e = absurd (false≢true names)
join-nil ((b ∷ bs) ∷ []) names e = cc
join-nil ((b ∷ bs) ∷ q ∷ ps) names e = cc

-- one more part at the end
join-push : (p : List ℕ) (ps : List (List ℕ)) (c : List ℕ) → join_with_byte 47 ((p ∷ ps) ++ c ∷ []) ≡ join_with_byte 47 (p ∷ ps) ++ 47 ∷ c
join-push p [] c = refl
join-push p (q ∷ ps) c =
    ap (λ (l : List ℕ). p ++ 47 ∷ l) (join-push q ps c) ∙ sym (append_assoc p (47 ∷ join_with_byte 47 (q ∷ ps)) (47 ∷ c))

-- a name after parts
pub Shows-push : (root : ℕ) (parts : List (List ℕ)) (text c : List ℕ) → Shows root parts text → is_name c ≡ true → root < length text → Shows root (parts ++ c ∷ []) (text ++ 47 ∷ [] ++ c)
Shows-push root [] text c shows name some =
    let none : length text - root ≡ 0 = simp length-drop at (ap length shows.joined) in
    absurd (omega arith)
Shows-push root (p ∷ ps) text c shows name some = record {
  within = simp (length-append, append_assoc) (omega arith);
  joined = rw (append_assoc text (47 ∷ []) c, drop-append-le root text (47 ∷ c) (omega arith), shows.joined) (sym (join-push p ps c));
  names = list_all-append is_name (p ∷ ps) (c ∷ []) ∙ and_from _ _ shows.names (and_from _ _ name refl);
}

-- the first name
pub Shows-first : (root : ℕ) (parts : List (List ℕ)) (text c : List ℕ) → Shows root parts text → is_name c ≡ true → length text ≤ root → Shows root (parts ++ c ∷ []) (text ++ c)
Shows-first root parts text c shows name short =
    let exact : length text ≡ root = omega (arith, shows.within) in
    let empty : drop root text ≡ [] = nil_from_length _ (simp length-drop (omega arith)) in
    rw (join-nil parts shows.names (sym shows.joined ∙ empty)) record {
      within = simp length-append (omega arith);
      joined = drop_at text c root exact;
      names = and_from _ _ name refl;
    }

-- a component without / that is not empty is a name
pub name-from : (c : List ℕ) → has_slash c ≡ false → (length c == 0) ≡ false → is_name c ≡ true
name-from [] bare some = absurd (true≢false some)
name-from (b ∷ bs) bare some = not_from_false _ bare

-- what is before and after the first / of a text
pub first_slash : (T : List ℕ) (k : ℕ) → k < length T → Passes (is_byte 47) T k → Nowhere (Passes (is_byte 47) T) 0 k → (T ≡ take k T ++ 47 ∷ drop (k + 1) T) × (has_slash (take k T) ≡ false)
first_slash T k within here before =
    let at : get_or T k 0 ≡ 47 = eqb-true _ _ here in (
      sym (take-append-drop k T) ∙ ap (λ (l : List ℕ). take k T ++ l) (drop_more T k 0 within ∙ ap (λ (b : ℕ). b ∷ drop (k + 1) T) at),
      has_slash_none (take k T) (λ i low slash.
          let short : i < min k (length T) = simp length-take at low in
          before i (omega arith) (omega arith) (eq-eqb _ _ (sym (get_or-take k T i 0 (omega arith)) ∙ slash))),
    )

-- what a step gives, by what it is told of
pub continued : (root : ℕ) (begun old new : List ℕ) (o : Option (List (List ℕ))) → MatchOption o (true ≡ false) (λ ps. (true ≡ true) × Shows root ps new × (take root new ≡ take root old)) → take root old ≡ take root begun → (front : List (List ℕ)) × (o ≡ Some front) × Shows root front new × (take root new ≡ take root begun)
continued root begun old new None told kept = absurd (true≢false told)
continued root begun old new (Some ps) told kept = (ps, refl, told.1, told.2 ∙ kept)

-- one component more of the path
pub Continues-more : (root : ℕ) (path begun rest A B old new : List ℕ) → Continues root path begun rest old → rest ≡ A ++ 47 ∷ B → has_slash A ≡ false → ((ps : List (List ℕ)) → Shows root ps old → ShowsAfter root (with_component ps A) old true new) → Continues root path begun B new
Continues-more root path begun rest A B old new so_far cut bare step = λ parts shows.
    let now = so_far parts shows in
    let next = continued root begun old new (with_component now.0 A) (step now.0 now.1) now.2 in
    let first : components rest ≡ A ∷ components B = ap components cut ∙ components-slash A B ∙ ap (λ (l : List (List ℕ)). l ++ components B) (components_one A bare) in (
      next.0,
      next.2,
      next.3,
      now.3 ∙ ap (with_components now.0) first ∙ ap (option_and_then (λ (front : List (List ℕ)). with_components front (components B))) next.1,
    )

pub refused : (o : Option (List (List ℕ))) (root : ℕ) (old new : List ℕ) → MatchOption o (false ≡ false) (λ ps. (false ≡ true) × Shows root ps new × (take root new ≡ take root old)) → o ≡ None
refused None root old new told = refl
refused (Some ps) root old new told = absurd (false≢true told.0)

-- a component with which the path climbs
pub Continues-climbs : (root : ℕ) (path begun rest A B old new : List ℕ) → Continues root path begun rest old → rest ≡ A ++ 47 ∷ B → has_slash A ≡ false → ((ps : List (List ℕ)) → Shows root ps old → ShowsAfter root (with_component ps A) old false new) → (parts : List (List ℕ)) → Shows root parts begun → ShowsAfter root (with_components parts (components path)) begun false new
Continues-climbs root path begun rest A B old new so_far cut bare step parts shows =
    let now = so_far parts shows in
    let none = refused (with_component now.0 A) root old new (step now.0 now.1) in
    let first : components rest ≡ A ∷ components B = ap components cut ∙ components-slash A B ∙ ap (λ (l : List (List ℕ)). l ++ components B) (components_one A bare) in
    rw (now.3 ∙ ap (with_components now.0) first ∙ ap (option_and_then (λ (front : List (List ℕ)). with_components front (components B))) none) refl

only : (o : Option (List (List ℕ))) → option_and_then (λ (front : List (List ℕ)). with_components front []) o ≡ o
only None = refl
only (Some ps) = refl

pub after_last : (root : ℕ) (begun old new : List ℕ) (fits : Bool) (o : Option (List (List ℕ))) → MatchOption o (fits ≡ false) (λ ps. (fits ≡ true) × Shows root ps new × (take root new ≡ take root old)) → take root old ≡ take root begun → ShowsAfter root o begun fits new
after_last root begun old new fits None told kept = told
after_last root begun old new fits (Some ps) told kept = (told.0, told.1, told.2 ∙ kept)

-- the last component
pub Continues-last : (root : ℕ) (path begun A old new : List ℕ) (fits : Bool) → Continues root path begun A old → has_slash A ≡ false → ((ps : List (List ℕ)) → Shows root ps old → ShowsAfter root (with_component ps A) old fits new) → (parts : List (List ℕ)) → Shows root parts begun → ShowsAfter root (with_components parts (components path)) begun fits new
Continues-last root path begun A old new fits so_far bare step parts shows =
    let now = so_far parts shows in
    rw (now.3 ∙ ap (with_components now.0) (components_one A bare) ∙ only (with_component now.0 A))
    (after_last root begun old new fits (with_component now.0 A) (step now.0 now.1) now.2)

-- the rest of a path at its first /
pub cut_first : (path : List ℕ) (at slash : ℕ) → IsFirstByte (is_byte 47) (drop at path) (Some slash) → (drop at path ≡ take slash (drop at path) ++ 47 ∷ drop (at + (slash + 1)) path) × (has_slash (take slash (drop at path)) ≡ false) × (at + (slash + 1) ≤ length path)
cut_first path at slash found =
    let cut = first_slash (drop at path) slash found.0.high found.1 found.0.before in
    let short : slash < length path - at = simp length-drop at found.0.high in
    (rw (drop-drop (slash + 1) at path) at cut.0, cut.1, omega arith)

-- the rest of a path without /
pub cut_none : (path : List ℕ) (at : ℕ) → IsFirstByte (is_byte 47) (drop at path) None → has_slash (drop at path) ≡ false
cut_none path at none = has_slash_none (drop at path) (λ k low slash. none k (omega arith) low (eq-eqb _ _ slash))

pub cut_taken : (at slash : ℕ) → at + slash - at ≡ slash
cut_taken at slash = omega arith

-- the components of a path at its first /
pub components-cut : (path A B : List ℕ) → path ≡ A ++ 47 ∷ B → has_slash A ≡ false → components path ≡ A ∷ components B
components-cut path A B cut bare = ap components cut ∙ components-slash A B ∙ ap (λ (l : List (List ℕ)). l ++ components B) (components_one A bare)
