-- Paths, their parts, and the last / of a text.
use Rattle.std.proofs.Common.{◌≡◌, ℕ, ◌+◌, ◌-◌, ◌<◌, ◌≤◌, Bool, true, false, List, [], ◌∷◌, ◌++◌, Some, None, length, take, drop, get_or, inl, inr, refl, sym, ap, ◌∙◌, arith}
use Rattle.std.proofs.lemmas.Bool.{and_parts, and_from, or_parts, eqb-true, eq-eqb, not-true, not_from_false, false_from_ne_true, cases_Bool, true≢false}
use Rattle.std.specs.Prelude.{◌==◌, bytes_eq, codes, min}
use Rattle.std.specs.List.{list_all, list_any, onto_first, join_with_byte}
use Rattle.std.proofs.lemmas.List.{append-nil, append_assoc, get_or_default, drop_more, take-append-drop, drop-drop, get_or-drop, get_or-take, length-take, length-drop, length-append}
use Rattle.memchr.specs.Find.{IsFirstByte, IsLastByte, Nowhere, Passes, is_byte}
use Rattle.std.proofs.lemmas.List.Folds.{list_any_none, list_all-append}
use Rattle.std.proofs.lemmas.List.Splits.{join_with_byte-slice_split, slice_split-cons_yes, slice_split-cons_no}
use Rattle.inc_build.specs.Paths.{components, joined, without_last, with_component, with_components}
use Rattle.inc_build.specs.PathTexts.{Shows, is_part}

abbrev pub has_slash : List ℕ → Bool
has_slash text = list_any (λ x. x == 47) text

---- texts and their parts

-- a text has at least one part
pub components-cons : (xs : List ℕ) → (p : List ℕ) × (ps : List (List ℕ)) × (components xs ≡ p ∷ ps)
components-cons [] = ([], [], refl)
components-cons (x ∷ xs) =
    let rest = components-cons xs in
    elim (cases_Bool (x == 47)) [
      | inl is ↦ ([], components xs, slice_split-cons_yes (λ b. b == 47) x xs is)
      | inr isnt ↦ (x ∷ rest.0, rest.1, slice_split-cons_no (λ b. b == 47) x xs isnt ∙ ap (onto_first x) rest.2)
    ]

-- the parts of two texts with a / between them
pub components-slash : (xs ys : List ℕ) → components (xs ++ 47 ∷ ys) ≡ components xs ++ components ys
components-slash [] ys = refl
components-slash (x ∷ xs) ys =
    let rest = components-slash xs ys in
    let parts = components-cons xs in
    elim (cases_Bool (x == 47)) [
      | inl is ↦ rw (slice_split-cons_yes (λ b. b == 47) x (xs ++ 47 ∷ ys) is, slice_split-cons_yes (λ b. b == 47) x xs is) (ap (λ (l : List (List ℕ)). [] ∷ l) rest)
      | inr isnt ↦ rw (slice_split-cons_no (λ b. b == 47) x (xs ++ 47 ∷ ys) isnt, slice_split-cons_no (λ b. b == 47) x xs isnt, rest, parts.2) refl
    ]

-- a text without / is one part
pub components_one : (xs : List ℕ) → has_slash xs ≡ false → components xs ≡ xs ∷ []
components_one [] h = refl
components_one (x ∷ xs) h =
    let parts = or_parts (x == 47) (has_slash xs) h in
    slice_split-cons_no (λ b. b == 47) x xs parts.0 ∙ ap (onto_first x) (components_one xs parts.1)

-- a text without / at any place has none
pub has_slash_none : (xs : List ℕ) → ((k : ℕ) → k < length xs → get_or xs k 0 ≡ 47 → ⊥) → has_slash xs ≡ false
has_slash_none xs h =
    list_any_none (λ x. x == 47) xs (λ k d high. false_from_ne_true _ (λ is. h k high (get_or_default xs k 0 d high ∙ eqb-true _ _ is)))

-- what is before and after the last / of a text
pub last_slash : (T : List ℕ) (k : ℕ) → k < length T → Passes (is_byte 47) T k → Nowhere (Passes (is_byte 47) T) (k + 1) (length T) → (T ≡ take k T ++ 47 ∷ drop (k + 1) T) × (has_slash (drop (k + 1) T) ≡ false)
last_slash T k within here behind =
    let at : get_or T k 0 ≡ 47 = eqb-true _ _ here in (
      sym (take-append-drop k T) ∙ ap (λ (l : List ℕ). take k T ++ l) (drop_more T k 0 within ∙ ap (λ (b : ℕ). b ∷ drop (k + 1) T) at),
      has_slash_none (drop (k + 1) T) (λ i low slash.
          let short : i < length T - (k + 1) = simp length-drop at low in
          behind (k + 1 + i) (omega arith) (omega arith) (eq-eqb _ _ (sym (get_or-drop (k + 1) T i 0) ∙ slash))),
    )

-- what is before and after the first / of a text
pub first_slash : (T : List ℕ) (k : ℕ) → k < length T → Passes (is_byte 47) T k → Nowhere (Passes (is_byte 47) T) 0 k → (T ≡ take k T ++ 47 ∷ drop (k + 1) T) × (has_slash (take k T) ≡ false)
first_slash T k within here before =
    let at : get_or T k 0 ≡ 47 = eqb-true _ _ here in (
      sym (take-append-drop k T) ∙ ap (λ (l : List ℕ). take k T ++ l) (drop_more T k 0 within ∙ ap (λ (b : ℕ). b ∷ drop (k + 1) T) at),
      has_slash_none (take k T) (λ i low slash.
          let short : i < min k (length T) = simp length-take at low in
          before i (omega arith) (omega arith) (eq-eqb _ _ (sym (get_or-take k T i 0 (omega arith)) ∙ slash))),
    )

---- the text that parts make

-- names joined by / are those that have one before each, but for the first
join-joined : (p : List ℕ) (ps : List (List ℕ)) → join_with_byte 47 (p ∷ ps) ≡ p ++ joined ps
join-joined p [] = sym (append-nil p)
join-joined p (q ∷ ps) = ap (λ (l : List ℕ). p ++ 47 ∷ l) (join-joined q ps)

components-part : (p : List ℕ) (ps : List (List ℕ)) → list_all is_part (p ∷ ps) ≡ true → components (p ++ joined ps) ≡ p ∷ ps
components-part p [] h = rw (append-nil p) (components_one p (not-true _ (and_parts (is_part p) true h).0))
components-part p (q ∷ ps) h =
    let parts = and_parts (is_part p) (list_all is_part (q ∷ ps)) h in
    components-slash p (q ++ joined ps) ∙ rw (components_one p (not-true _ parts.0), components-part q ps parts.1) refl

joined-push : (parts : List (List ℕ)) (c : List ℕ) → joined (parts ++ c ∷ []) ≡ joined parts ++ 47 ∷ c
joined-push [] c = ap (λ (l : List ℕ). 47 ∷ l) (append-nil c)
joined-push (p ∷ ps) c = ap (λ (l : List ℕ). 47 ∷ p ++ l) (joined-push ps c) ∙ sym (append_assoc (47 ∷ p) (joined ps) (47 ∷ c))

-- one part more
pub Shows-push : (parts : List (List ℕ)) (text c : List ℕ) → has_slash c ≡ false → Shows parts text → Shows (parts ++ c ∷ []) (text ++ 47 ∷ c)
Shows-push parts text c bare shows = record {
  is_joined = rw shows.is_joined (sym (joined-push parts c));
  are_parts = list_all-append is_part parts (c ∷ []) ∙ and_from _ _ shows.are_parts (and_from _ _ (not_from_false _ bare) refl);
}

without_last-push : (parts : List (List ℕ)) (c : List ℕ) → without_last (parts ++ c ∷ []) ≡ parts
without_last-push [] c = refl
without_last-push (p ∷ []) c = refl
without_last-push (p ∷ q ∷ ps) c = ap (λ (front : List (List ℕ)). p ∷ front) (without_last-push (q ∷ ps) c)

without_last-parts : (parts : List (List ℕ)) → list_all is_part parts ≡ true → list_all is_part (without_last parts) ≡ true
without_last-parts [] h = refl
without_last-parts (p ∷ []) h = refl
without_last-parts (p ∷ q ∷ ps) h =
    let both = and_parts (is_part p) (list_all is_part (q ∷ ps)) h in
    and_from _ _ both.0 (without_last-parts (q ∷ ps) both.1)

-- a text that shows parts, cut at its last /
cut_last : (A B : List ℕ) (parts : List (List ℕ)) → A ++ 47 ∷ B ≡ joined parts → has_slash B ≡ false → list_all is_part parts ≡ true → A ≡ joined (without_last parts)
cut_last A B [] cut bare parts =
    let none : length A + length (47 ∷ B) ≡ 0 = simp length-append at (ap length cut) in
    absurd (omega arith)
cut_last A B (p ∷ ps) cut bare parts =
    let apart : [] ∷ p ∷ ps ≡ components A ++ B ∷ [] =
    sym (components-part [] (p ∷ ps) parts) ∙ ap components (sym cut) ∙ components-slash A B ∙ ap (λ (l : List (List ℕ)). components A ++ l) (components_one B bare) in
    let front : [] ∷ without_last (p ∷ ps) ≡ components A = ap without_last apart ∙ without_last-push (components A) B in
    sym (join_with_byte-slice_split 47 A) ∙ ap (join_with_byte 47) (sym front) ∙ join-joined [] (without_last (p ∷ ps))

pub Shows-cut : (parts : List (List ℕ)) (text : List ℕ) (slash : ℕ) → IsLastByte (is_byte 47) text (Some slash) → Shows parts text → Shows (without_last parts) (take slash text)
Shows-cut parts text slash last shows =
    let cut = last_slash text slash last.0.high last.1 last.0.after in
    record {
      is_joined = cut_last (take slash text) (drop (slash + 1) text) parts (sym cut.0 ∙ shows.is_joined) cut.1 shows.are_parts;
      are_parts = without_last-parts parts shows.are_parts;
    }

-- a text without / shows no parts
pub Shows-none : (parts : List (List ℕ)) (text : List ℕ) → IsLastByte (is_byte 47) text None → Shows parts text → Shows (without_last parts) text
Shows-none [] text none shows = shows
Shows-none (p ∷ ps) [] none shows =
    let short : 0 ≡ length (joined (p ∷ ps)) = ap length shows.is_joined in
    absurd (omega arith)
Shows-none (p ∷ ps) (b ∷ bs) none shows = absurd (none 0 (omega arith) (omega arith) (eq-eqb _ _ (ap (λ (l : List ℕ). get_or l 0 0) shows.is_joined)))

-- a component that is neither empty nor . nor .. stays
pub with_component-name : (parts : List (List ℕ)) (c : List ℕ) → (length c == 0) ≡ false → bytes_eq c (codes ".") ≡ false → bytes_eq c (codes "..") ≡ false → with_component parts c ≡ parts ++ c ∷ []
with_component-name parts [] some dot dots = absurd (true≢false some)
with_component-name parts (b ∷ bs) some dot dots = rw (dot, dots) refl

---- a path, component by component

-- with parts at the beginning, the text now shows parts that the rest of the path continues as the whole does
abbrev pub Continues : (path begun rest now : List ℕ) → Type 0
Continues path begun rest now =
    (parts : List (List ℕ)) → Shows parts begun →
    (front : List (List ℕ)) × Shows front now × (with_components parts (components path) ≡ with_components front (components rest))

-- one component more
pub Continues-more : (path begun rest A B old new : List ℕ) → Continues path begun rest old → rest ≡ A ++ 47 ∷ B → has_slash A ≡ false → ((ps : List (List ℕ)) → Shows ps old → Shows (with_component ps A) new) → Continues path begun B new
Continues-more path begun rest A B old new so_far cut bare step = λ parts shows.
    let now = so_far parts shows in
    let first : components rest ≡ A ∷ components B = ap components cut ∙ components-slash A B ∙ ap (λ (l : List (List ℕ)). l ++ components B) (components_one A bare) in
    (with_component now.0 A, step now.0 now.1, now.2 ∙ ap (with_components now.0) first)

-- the last one
pub Continues-last : (path begun A old new : List ℕ) → Continues path begun A old → has_slash A ≡ false → ((ps : List (List ℕ)) → Shows ps old → Shows (with_component ps A) new) → (parts : List (List ℕ)) → Shows parts begun → Shows (with_components parts (components path)) new
Continues-last path begun A old new so_far bare step parts shows =
    let now = so_far parts shows in
    rw (now.2 ∙ ap (with_components now.0) (components_one A bare)) (step now.0 now.1)

-- the rest of a path at its first /
pub cut_first : (path : List ℕ) (at slash : ℕ) → IsFirstByte (is_byte 47) (drop at path) (Some slash) → (drop at path ≡ take slash (drop at path) ++ 47 ∷ drop (at + (slash + 1)) path) × (has_slash (take slash (drop at path)) ≡ false) × (at + (slash + 1) ≤ length path)
cut_first path at slash found =
    let cut = first_slash (drop at path) slash found.0.high found.1 found.0.before in
    let short : slash < length path - at = simp length-drop at found.0.high in
    (rw (drop-drop (slash + 1) at path) at cut.0, cut.1, omega arith)

-- the rest of a path without /
pub cut_none : (path : List ℕ) (at : ℕ) → IsFirstByte (is_byte 47) (drop at path) None → has_slash (drop at path) ≡ false
cut_none path at none = has_slash_none (drop at path) (λ k low slash. none k (omega arith) low (eq-eqb _ _ slash))

pub cut_taken : (at slash : ℕ) → at + slash - at ≡ slash
cut_taken at slash = omega arith
