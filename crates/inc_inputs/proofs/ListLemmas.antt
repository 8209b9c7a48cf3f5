-- Lists of files, a path at a time.
use Rattle.std.proofs.Common.{◌≡◌, ◌≢◌, ℕ, suc, ◌+◌, ◌-◌, ◌<◌, ◌≤◌, Bool, true, false, not, cond, List, [], ◌∷◌, ◌++◌, Some, None, length, take, drop, get_or, refl, ap, ◌∙◌, arith}
use Rattle.std.specs.Prelude.{◌==◌, nat_lt, position}
use Rattle.std.specs.List.{slice_split, position_or_len}
use Rattle.std.proofs.lemmas.Bool.{ltb-true, ltb-false, eq-eqb, ne_eqb}
use Rattle.std.proofs.lemmas.List.Splits.{slice_split_first, slice_split_none, length-slice_split}
use Rattle.std.proofs.lemmas.List.Sums.{prefix_len_passes}
use Rattle.inc_inputs.specs.declared.file_lists.PathEnd.{PathEnd}
use Rattle.inc_inputs.specs.Lists.{end_byte, list_paths, path_on, paths_on, piece_of, without_return}

module _ (ends : ℕ → Bool) where
  place_found : (b : Bool) (m n : ℕ) → cond b (Some m) None ≡ Some n → (b ≡ true) × (m ≡ n)
  place_found true m n found = (refl, cc)
  place_found false m n found = cc

  place_missing : (b : Bool) (m : ℕ) → cond b (Some m) None ≡ None → b ≡ false
  place_missing true m missing = cc
  place_missing false m missing = refl

  not_passed : (b : Bool) → not b ≡ true → b ≡ false
  not_passed true e = cc
  not_passed false e = refl

  -- the piece up to the first end
  pub split_at : (list : List ℕ) (n : ℕ) → position ends list ≡ Some n
      → (slice_split ends list ≡ take n list ∷ slice_split ends (drop (n + 1) list)) × (n < length list)
  split_at list n found =
      let place = place_found (nat_lt (position_or_len ends list) (length list)) (position_or_len ends list) n found in
      let low : position_or_len ends list < length list = ltb-true _ _ place.0 in
      let all : slice_split ends list ≡ take (position_or_len ends list) list ∷ slice_split ends (drop (position_or_len ends list + 1) list) = slice_split_first ends list 0 low in
      (rw place.1 at all, rw (← place.1) low)

  -- no end is left
  pub split_none : (list : List ℕ) → position ends list ≡ None → slice_split ends list ≡ list ∷ []
  split_none list missing =
      let high : length list ≤ position_or_len ends list = ltb-false _ _ (place_missing _ _ missing) in
      slice_split_none ends list (λ k d low. not_passed _ (prefix_len_passes (λ b. not (ends b)) list k d (omega (arith, low, high))))

-- something is after each end
pub pieces_left : (ends : ℕ → Bool) (list : List ℕ) → 0 < length (slice_split ends list)
pieces_left ends list = rw (length-slice_split ends list) (omega arith)

module _ (end : PathEnd) where
  abbrev pub ends : ℕ → Bool
  ends b = b == end_byte end

  -- a piece and what is after it
  paths_on-more : (piece : List ℕ) (pieces : List (List ℕ)) → 0 < length pieces → paths_on end (piece ∷ pieces) ≡ path_on (piece_of end piece) ++ paths_on end pieces
  paths_on-more piece [] some = absurd (omega (arith, some))
  paths_on-more piece (next ∷ pieces) some = refl

  -- the path up to the first end
  pub first_piece : (list : List ℕ) (n : ℕ) → position ends list ≡ Some n → (list_paths end list ≡ path_on (piece_of end (take n list)) ++ list_paths end (drop (n + 1) list)) × (n < length list)
  first_piece list n found =
      let split = split_at ends list n found in (
        ap (paths_on end) split.0 ∙ paths_on-more (take n list) (slice_split ends (drop (n + 1) list)) (pieces_left ends (drop (n + 1) list)),
        split.1,
      )

  -- no end is left
  pub last_piece : (list : List ℕ) → position ends list ≡ None → list_paths end list ≡ path_on list
  last_piece list missing = ap (paths_on end) (split_none ends list missing)

-- the CR at the end
pub return_dropped : (line : List ℕ) → 0 < length line → get_or line (length line - 1) 0 ≡ 13 → take (length line - 1) line ≡ without_return line
return_dropped [] some is = absurd (omega (arith, some))
return_dropped (b ∷ []) some is = rw (eq-eqb b 13 is) refl
return_dropped (b ∷ c ∷ bs) some is =
    let one : suc (suc (length bs)) - 1 ≡ suc (suc (length bs) - 1) = omega arith in
    rw one (ap (λ l. b ∷ l) (return_dropped (c ∷ bs) (omega arith) (rw one at is)))

-- no CR at the end
pub no_return : (line : List ℕ) → (0 < length line → get_or line (length line - 1) 0 ≢ 13) → line ≡ without_return line
no_return [] other = refl
no_return (b ∷ []) other = rw (ne_eqb b 13 (other (omega arith))) refl
no_return (b ∷ c ∷ bs) other =
    let one : suc (suc (length bs)) - 1 ≡ suc (suc (length bs) - 1) = omega arith in
    ap (λ l. b ∷ l) (no_return (c ∷ bs) (λ some. rw one at other (omega arith)))
