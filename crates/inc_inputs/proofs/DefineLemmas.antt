-- The words of a list of definitions, a line at a time.
use Rattle.std.proofs.Common.{◌≡◌, true≢false, true, false, ℕ, ◌+◌, ◌-◌, ◌<◌, ◌≤◌, Bool, List, [], ◌∷◌, ◌++◌, Option, Some, None, Result, Ok, Err, length, take, drop, refl, sym, ap, ◌∙◌, arith}
use Rattle.std.specs.Prelude.{◌==◌, position}
use Rattle.std.specs.List.{slice_split}
use Rattle.std.proofs.lemmas.List.{append_assoc, append-nil, take_rest, drop-drop, drop_all, length-drop}
use Rattle.inc_inputs.specs.Defines.{IsTaken, with_words, line_words, last_words, words_from}
use Rattle.inc_inputs.specs.Lists.{without_return}
use Rattle.inc_inputs.proofs.ListLemmas.{split_at, split_none, pieces_left}

abbrev pub ends : ℕ → Bool
ends b = b == 10

-- the words of a line
abbrev pub Reader : Type 0
Reader = List ℕ → Option (List (List ℕ))

-- the words of what follows a place
abbrev pub words_behind : Reader → ℕ → List ℕ → Result (List (List ℕ)) ℕ
words_behind of line text = words_from of line (slice_split ends text)

words_more : (of : Reader) (line : ℕ) (piece : List ℕ) (pieces : List (List ℕ)) → 0 < length pieces
    → words_from of line (piece ∷ pieces) ≡ line_words line (of (without_return piece)) (words_from of (line + 1) pieces)
words_more of line piece [] some = absurd (omega (arith, some))
words_more of line piece (next ∷ pieces) some = refl

with_both : (a b : List (List ℕ)) (r : Result (List (List ℕ)) ℕ) → with_words a (with_words b r) ≡ with_words (a ++ b) r
with_both a b (Ok more) = ap (λ (ws : List (List ℕ)). Ok ws) (sym (append_assoc a b more))
with_both a b (Err line) = refl

module _ (of : Reader) (all : Result (List (List ℕ)) ℕ) (done : List (List ℕ)) (line : ℕ) (text : List ℕ) (so_far : all ≡ with_words done (words_behind of line text)) where
  -- a line with its LF
  module _ (n : ℕ) (found : position ends text ≡ Some n) where
    line_first : (o : Option (List (List ℕ))) → of (without_return (take n text)) ≡ o
        → all ≡ with_words done (line_words line o (words_behind of (line + 1) (drop (n + 1) text)))
    line_first o is =
        so_far ∙ ap (with_words done)
        (ap (words_from of line) (split_at ends text n found).0
        ∙ words_more of line (take n text) (slice_split ends (drop (n + 1) text)) (pieces_left ends (drop (n + 1) text))
        ∙ ap (λ (x : Option (List (List ℕ))). line_words line x (words_behind of (line + 1) (drop (n + 1) text))) is)

    pub line_low : n < length text
    line_low = (split_at ends text n found).1

    pub line_bad : of (without_return (take n text)) ≡ None → all ≡ Err line
    line_bad is = line_first None is

    pub line_done : (d new : List (List ℕ)) → of (without_return (take n text)) ≡ Some d → new ≡ done ++ d
        → all ≡ with_words new (words_behind of (line + 1) (drop (n + 1) text))
    line_done d new is now =
        line_first (Some d) is ∙ with_both done d (words_behind of (line + 1) (drop (n + 1) text))
        ∙ ap (λ (ws : List (List ℕ)). with_words ws (words_behind of (line + 1) (drop (n + 1) text))) (sym now)

  -- what follows the last LF
  module _ (missing : position ends text ≡ None) where
    last_first : all ≡ with_words done (last_words of line text)
    last_first = so_far ∙ ap (λ (ls : List (List ℕ)). with_words done (words_from of line ls)) (split_none ends text missing)

    pub last_none : text ≡ [] → all ≡ Ok done
    last_none empty = last_first ∙ ap (λ (t : List ℕ). with_words done (last_words of line t)) empty ∙ ap (λ (ws : List (List ℕ)). Ok ws) (append-nil done)

    last_is : (t : List ℕ) → 0 < length t → (o : Option (List (List ℕ))) → of t ≡ o → last_words of line t ≡ line_words line o (Ok [])
    last_is [] some o is = absurd (omega (arith, some))
    last_is (b ∷ bs) some o is = ap (λ (x : Option (List (List ℕ))). line_words line x (Ok [])) is

    pub last_bad : 0 < length text → of text ≡ None → all ≡ Err line
    last_bad some is = last_first ∙ ap (with_words done) (last_is text some None is)

    pub last_done : (d new : List (List ℕ)) → 0 < length text → of text ≡ Some d → new ≡ done ++ d → all ≡ Ok new
    last_done d new some is now =
        last_first ∙ ap (with_words done) (last_is text some (Some d) is) ∙ ap (λ (ws : List (List ℕ)). Ok ws) (ap (λ (ws : List (List ℕ)). done ++ ws) (append-nil d) ∙ sym now)

---- the same at a place of the list

taken : (at n : ℕ) → at + n - at ≡ n
taken at n = omega arith

module _ (of : Reader) (all : Result (List (List ℕ)) ℕ) (done : List (List ℕ)) (line at : ℕ) (text : List ℕ) (so_far : all ≡ with_words done (words_behind of line (drop at text))) where
  module _ (n : ℕ) (found : Some n ≡ position ends (take (length text - at) (drop at text))) (piece : List ℕ) (is : piece ≡ without_return (take (at + n - at) (drop at text))) where
    found_at : position ends (drop at text) ≡ Some n
    found_at = sym (rw take_rest at found)

    piece_is : piece ≡ without_return (take n (drop at text))
    piece_is = is ∙ ap (λ (k : ℕ). without_return (take k (drop at text))) (taken at n)

    pub place_low : at + (n + 1) ≤ length text
    place_low =
        let left : n < length (drop at text) = line_low of all done line (drop at text) so_far n found_at in
        let low : n < length text - at = rw length-drop at left in
        omega (arith, low)

    pub place_bad : None ≡ of piece → all ≡ Err line
    place_bad none = line_bad of all done line (drop at text) so_far n found_at (sym (ap of piece_is) ∙ sym none)

    pub place_done : (d new : List (List ℕ)) → Some d ≡ of piece → new ≡ done ++ d
        → all ≡ with_words new (words_behind of (line + 1) (drop (at + (n + 1)) text))
    place_done d new some now =
        line_done of all done line (drop at text) so_far n found_at d new (sym (ap of piece_is) ∙ sym some) now
        ∙ ap (λ (t : List ℕ). with_words new (words_behind of (line + 1) t)) (drop-drop (n + 1) at text)

  module _ (missing : None ≡ position ends (take (length text - at) (drop at text))) where
    missing_at : position ends (drop at text) ≡ None
    missing_at = sym (rw take_rest at missing)

    some_left : at < length text → 0 < length (drop at text)
    some_left low = rw length-drop (omega (arith, low))

    pub end_none : length text ≤ at → all ≡ Ok done
    end_none high =
        last_none of all done line (drop at text) so_far missing_at (drop_all at text (omega (arith, high)))

    pub end_bad : at < length text → None ≡ of (take (length text - at) (drop at text)) → all ≡ Err line
    end_bad low none = last_bad of all done line (drop at text) so_far missing_at (some_left low) (sym (rw take_rest at none))

    pub end_done : (d new : List (List ℕ)) → at < length text → Some d ≡ of (take (length text - at) (drop at text)) → new ≡ done ++ d → all ≡ Ok new
    end_done d new low some now = last_done of all done line (drop at text) so_far missing_at d new (some_left low) (sym (rw take_rest at some)) now

---- a line that is taken, or not

-- the words of a line that is taken
pub taken_words : (o : Option (List (List ℕ))) (old : List (List ℕ)) (t : Bool) (new : List (List ℕ)) → IsTaken o old t new → t ≡ true
    → (d : List (List ℕ)) × (o ≡ Some d) × (new ≡ old ++ d)
taken_words None old t new told is = absurd (true≢false (sym is ∙ told))
taken_words (Some d) old t new told is = (d, refl, told.1)

-- a line that is not has none
pub not_taken : (o : Option (List (List ℕ))) (old : List (List ℕ)) (t : Bool) (new : List (List ℕ)) → IsTaken o old t new → t ≡ false → o ≡ None
not_taken None old t new told is = refl
not_taken (Some d) old t new told is = absurd (true≢false (sym told.0 ∙ is))
