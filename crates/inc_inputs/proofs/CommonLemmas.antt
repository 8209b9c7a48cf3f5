-- The front that two paths have in common, byte by byte.
use Rattle.std.proofs.Common.{◌≡◌, ℕ, zero, suc, ◌+◌, ◌<◌, ◌≤◌, get_or, Bool, true, false, List, [], ◌∷◌, length, take, drop, inl, inr, refl, sym, ap, subst, ◌∙◌, arith, bytes_eq}
use Rattle.std.specs.Prelude.{◌==◌, ◌&&◌, if◌then◌else◌, option_map, slice_get, unwrap_or}
use Rattle.std.specs.List.{join_with_byte, onto_first}
use Rattle.std.proofs.lemmas.Bool.{cases_Bool, eqb-true, eq-eqb, false_from_ne_true, true≢false}
use Rattle.std.proofs.lemmas.List.{drop_all, drop_more}
use Rattle.std.proofs.lemmas.List.Splits.{slice_split-cons_yes, slice_split-cons_no}
use Rattle.inc_build.specs.Paths.{components}
use Rattle.inc_build.proofs.PathLemmas.{components-cons}
use Rattle.inc_inputs.specs.BuildPaths.{common_components}

abbrev pub both : (a b : List ℕ) → List (List ℕ)
both a b = common_components (components a) (components b)

-- where the last component ends that both have, from a place on
abbrev pub shared : (at end : ℕ) → (a b : List ℕ) → ℕ
shared at end [] [] = at
shared at end [] (y ∷ ys) = if y == 47 then at else end
shared at end (x ∷ xs) [] = if x == 47 then at else end
shared at end (x ∷ xs) (y ∷ ys) = if x == y then shared (suc at) (if x == 47 then at else end) xs ys else end

-- the same by these components
abbrev ending : (at end : ℕ) → List (List ℕ) → ℕ
ending at end [] = end
ending at end (c ∷ cs) = at + length (join_with_byte 47 (c ∷ cs))

abbrev IsFront : (at end : ℕ) (a : List ℕ) (found : ℕ) → List (List ℕ) → Type 0
IsFront at end a found cs = (found ≡ ending at end cs) × (take (length (join_with_byte 47 cs)) a ≡ join_with_byte 47 cs)

slash_first : (x : ℕ) (xs : List ℕ) → (x == 47) ≡ true → components (x ∷ xs) ≡ [] ∷ components xs
slash_first x xs is = slice_split-cons_yes (λ b. b == 47) x xs is

other_first : (x : ℕ) (xs p : List ℕ) (ps : List (List ℕ)) → (x == 47) ≡ false → components xs ≡ p ∷ ps → components (x ∷ xs) ≡ (x ∷ p) ∷ ps
other_first x xs p ps not parts = slice_split-cons_no (λ b. b == 47) x xs not ∙ ap (onto_first x) parts

join-onto : (x : ℕ) (c : List ℕ) (cs : List (List ℕ)) → join_with_byte 47 ((x ∷ c) ∷ cs) ≡ x ∷ join_with_byte 47 (c ∷ cs)
join-onto x c [] = refl
join-onto x c (d ∷ ds) = refl

both_of : (a b : List ℕ) (ps qs : List (List ℕ)) → components a ≡ ps → components b ≡ qs → both a b ≡ common_components ps qs
both_of a b ps qs one two = ap (λ l. common_components l (components b)) one ∙ ap (common_components ps) two

none_common : (ps : List (List ℕ)) → common_components ps [] ≡ []
none_common [] = refl
none_common (p ∷ ps) = refl

---- where one of them ends

left_end : (at end y : ℕ) (ys : List ℕ) → IsFront at end [] (shared at end [] (y ∷ ys)) (both [] (y ∷ ys))
left_end at end y ys =
    let parts = components-cons ys in
    elim (cases_Bool (y == 47)) [
      | inl is ↦ rw (both_of [] (y ∷ ys) ([] ∷ []) ([] ∷ components ys) refl (slash_first y ys is), is) (omega arith, refl)
      | inr isnt ↦ rw (both_of [] (y ∷ ys) ([] ∷ []) ((y ∷ parts.0) ∷ parts.1) refl (other_first y ys parts.0 parts.1 isnt parts.2), isnt) (refl, refl)
    ]

right_end : (at end x : ℕ) (xs : List ℕ) → IsFront at end (x ∷ xs) (shared at end (x ∷ xs) []) (both (x ∷ xs) [])
right_end at end x xs =
    let parts = components-cons xs in
    elim (cases_Bool (x == 47)) [
      | inl is ↦ rw (both_of (x ∷ xs) [] ([] ∷ components xs) ([] ∷ []) (slash_first x xs is) refl ∙ ap (λ l. [] ∷ l) (none_common (components xs)), is) (omega arith, refl)
      | inr isnt ↦ rw (both_of (x ∷ xs) [] ((x ∷ parts.0) ∷ parts.1) ([] ∷ []) (other_first x xs parts.0 parts.1 isnt parts.2) refl, isnt) (refl, refl)
    ]

---- two bytes

apart : (x y : ℕ) (xs ys : List ℕ) → (x == y) ≡ false → both (x ∷ xs) (y ∷ ys) ≡ []
apart x y xs ys other =
    let parts = components-cons xs in
    let parts-2 = components-cons ys in
    elim (cases_Bool (x == 47)) [
      | inl is ↦ elim (cases_Bool (y == 47)) [
        | inl is-2 ↦ absurd (true≢false (sym (eq-eqb x y (eqb-true x 47 is ∙ sym (eqb-true y 47 is-2))) ∙ other))
        | inr isnt-2 ↦ both_of (x ∷ xs) (y ∷ ys) _ _ (slash_first x xs is) (other_first y ys parts-2.0 parts-2.1 isnt-2 parts-2.2)
      ]
      | inr isnt ↦ elim (cases_Bool (y == 47)) [
        | inl is-2 ↦ both_of (x ∷ xs) (y ∷ ys) _ _ (other_first x xs parts.0 parts.1 isnt parts.2) (slash_first y ys is-2)
        | inr isnt-2 ↦ both_of (x ∷ xs) (y ∷ ys) _ _ (other_first x xs parts.0 parts.1 isnt parts.2) (other_first y ys parts-2.0 parts-2.1 isnt-2 parts-2.2) ∙ rw other refl
      ]
    ]

slash_more : (at end x : ℕ) (xs : List ℕ) (found : ℕ) (cs : List (List ℕ)) → (x == 47) ≡ true → IsFront (suc at) at xs found cs
    → IsFront at end (x ∷ xs) found ([] ∷ cs)
slash_more at end x xs found [] is front = (front.0 ∙ sym (omega arith), refl)
slash_more at end x xs found (c ∷ cs) is front = (front.0 ∙ omega arith, ap (λ l. x ∷ l) front.1 ∙ ap (λ b. b ∷ join_with_byte 47 (c ∷ cs)) (eqb-true x 47 is))

other_more : (at end x : ℕ) (xs p q : List ℕ) (found : ℕ) (ps qs : List (List ℕ)) → IsFront (suc at) end xs found (common_components (p ∷ ps) (q ∷ qs))
    → IsFront at end (x ∷ xs) found (common_components ((x ∷ p) ∷ ps) ((x ∷ q) ∷ qs))
other_more at end x xs p q found ps qs front =
    elim (cases_Bool (bytes_eq p q)) [
      | inl is ↦ rw (eq-eqb x x refl, is) (longer (subst (λ b. IsFront (suc at) end xs found (if b then p ∷ common_components ps qs else [])) is front))
      | inr isnt ↦ rw (eq-eqb x x refl, isnt) ((subst (λ b. IsFront (suc at) end xs found (if b then p ∷ common_components ps qs else [])) isnt front).0, refl)
    ]
  where
    longer : IsFront (suc at) end xs found (p ∷ common_components ps qs) → IsFront at end (x ∷ xs) found ((x ∷ p) ∷ common_components ps qs)
    longer front = rw (join-onto x p (common_components ps qs)) (front.0 ∙ omega arith, ap (λ l. x ∷ l) front.1)

same_more : (at end x : ℕ) (xs ys : List ℕ) → IsFront (suc at) at xs (shared (suc at) at xs ys) (both xs ys)
    → IsFront (suc at) end xs (shared (suc at) end xs ys) (both xs ys)
    → IsFront at end (x ∷ xs) (shared (suc at) (if x == 47 then at else end) xs ys) (both (x ∷ xs) (x ∷ ys))
same_more at end x xs ys slash other =
    let parts = components-cons xs in
    let parts-2 = components-cons ys in
    elim (cases_Bool (x == 47)) [
      | inl is ↦ rw (both_of (x ∷ xs) (x ∷ ys) ([] ∷ components xs) ([] ∷ components ys) (slash_first x xs is) (slash_first x ys is), is)
          (slash_more at end x xs (shared (suc at) at xs ys) (both xs ys) is slash)
      | inr isnt ↦ rw (both_of (x ∷ xs) (x ∷ ys) ((x ∷ parts.0) ∷ parts.1) ((x ∷ parts-2.0) ∷ parts-2.1) (other_first x xs parts.0 parts.1 isnt parts.2) (other_first x ys parts-2.0 parts-2.1 isnt parts-2.2), isnt)
          (other_more at end x xs parts.0 parts-2.0 (shared (suc at) end xs ys) parts.1 parts-2.1
          (subst (λ cs. IsFront (suc at) end xs (shared (suc at) end xs ys) cs) (both_of xs ys _ _ parts.2 parts-2.2) other))
    ]

pub front_of : (at end : ℕ) (a b : List ℕ) → IsFront at end a (shared at end a b) (both a b)
front_of at end [] [] = (omega arith, refl)
front_of at end [] (y ∷ ys) = left_end at end y ys
front_of at end (x ∷ xs) [] = right_end at end x xs
front_of at end (x ∷ xs) (y ∷ ys) =
    elim (cases_Bool (x == y)) [
      | inr other ↦ rw (other, apart x y xs ys other) (refl, refl)
      | inl same ↦ rw same (subst (λ z. IsFront at end (x ∷ xs) (shared (suc at) (if x == 47 then at else end) xs ys) (both (x ∷ xs) (z ∷ ys))) (eqb-true x y same)
          (same_more at end x xs ys (front_of (suc at) at xs ys) (front_of (suc at) end xs ys)))
    ]

-- the walk from the begin on
pub common_front : (a b : List ℕ) → take (shared 0 0 a b) a ≡ join_with_byte 47 (both a b)
common_front a b = whole (both a b) (front_of 0 0 a b)
  where
    whole : (cs : List (List ℕ)) → IsFront 0 0 a (shared 0 0 a b) cs → take (shared 0 0 a b) a ≡ join_with_byte 47 cs
    whole [] front = ap (λ n. take n a) front.0
    whole (c ∷ cs) front =
        let same : shared 0 0 a b ≡ length (join_with_byte 47 (c ∷ cs)) = omega (arith, front.0) in
        ap (λ n. take n a) same ∙ front.1

---- where the walk goes on, and where it stops

abbrev is_end : List ℕ → Bool
is_end [] = true
is_end (x ∷ xs) = x == 47

abbrev pub ends_at : (path : List ℕ) → ℕ → Bool
ends_at path at = unwrap_or (option_map (λ b. b == 47) (slice_get path at)) true

end_there : (path : List ℕ) (at : ℕ) → ends_at path at ≡ is_end (drop at path)
end_there [] zero = refl
end_there [] (suc at) = refl
end_there (x ∷ xs) zero = refl
end_there (x ∷ xs) (suc at) = end_there xs at

abbrev goes_on : (a b : List ℕ) → Bool
goes_on (x ∷ xs) (y ∷ ys) = x == y
goes_on _ _ = false

stop_at : (at end : ℕ) (a b : List ℕ) → goes_on a b ≡ false → shared at end a b ≡ (if is_end a && is_end b then at else end)
stop_at at end [] [] other = refl
stop_at at end [] (y ∷ ys) other = refl
stop_at at end (x ∷ xs) [] other = elim (cases_Bool (x == 47)) [ inl is ↦ rw is refl | inr isnt ↦ rw isnt refl ]
stop_at at end (x ∷ xs) (y ∷ ys) other =
    elim (cases_Bool (x == 47)) [
      | inr isnt ↦ rw (other, isnt) refl
      | inl is ↦ elim (cases_Bool (y == 47)) [
        | inr isnt ↦ rw (other, is, isnt) refl
        | inl is-2 ↦ absurd (true≢false (sym (eq-eqb x y (eqb-true x 47 is ∙ sym (eqb-true y 47 is-2))) ∙ other))
      ]
    ]

module _ (a b : List ℕ) (at end : ℕ) where
  abbrev pub Stops : Type 0
  Stops = goes_on (drop at a) (drop at b) ≡ false

  pub stops_first : length a ≤ at → Stops
  stops_first far = rw (drop_all at a far) refl

  pub stops_second : at < length a → length b ≤ at → Stops
  stops_second low far = rw (drop_more a at 0 low, drop_all at b far) refl

  pub stops_apart : at < length a → at < length b → (get_or a at 0 ≡ get_or b at 0 → ⊥) → Stops
  stops_apart low low-2 other = rw (drop_more a at 0 low, drop_more b at 0 low-2) (false_from_ne_true (get_or a at 0 == get_or b at 0) (λ is. other (eqb-true _ _ is)))

  pub stopped : Stops → shared at end (drop at a) (drop at b) ≡ shared 0 0 a b
      → take (if ends_at a at && ends_at b at then at else end) a ≡ join_with_byte 47 (both a b)
  stopped stops so_far =
      ap (λ n. take n a) (ap (λ e. if e && ends_at b at then at else end) (end_there a at) ∙ ap (λ e. if is_end (drop at a) && e then at else end) (end_there b at)
      ∙ sym (stop_at at end (drop at a) (drop at b) stops) ∙ so_far) ∙ common_front a b

  pub one_more : (later : ℕ) → at < length a → at < length b → get_or a at 0 ≡ get_or b at 0 → later ≡ (if get_or a at 0 == 47 then at else end)
      → shared at end (drop at a) (drop at b) ≡ shared 0 0 a b → shared (at + 1) later (drop (at + 1) a) (drop (at + 1) b) ≡ shared 0 0 a b
  one_more later low low-2 same is so_far =
      let next : at + 1 ≡ suc at = omega arith in
      ap (λ n. shared n later (drop (at + 1) a) (drop (at + 1) b)) next
      ∙ ap (λ e. shared (suc at) e (drop (at + 1) a) (drop (at + 1) b)) is
      ∙ sym (ap (λ (c : Bool). if c then shared (suc at) (if get_or a at 0 == 47 then at else end) (drop (at + 1) a) (drop (at + 1) b) else end) (eq-eqb (get_or a at 0) (get_or b at 0) same))
      ∙ sym (ap (λ (l : List ℕ). shared at end l (get_or b at 0 ∷ drop (at + 1) b)) (drop_more a at 0 low)) ∙ sym (ap (shared at end (drop at a)) (drop_more b at 0 low-2)) ∙ so_far
