-- A text of JSON about a graph that is made piece by piece.
use Rattle.std.proofs.Common.{◌≡◌, ◌∙◌, ℕ, ◌+◌, ◌<◌, ◌≤◌, List, [], ◌∷◌, ◌++◌, Result, Ok, Err, OnOk, ap, codes, drop, get_or, length, map, refl, subst, sym}
use Rattle.std.proofs.Math.ListN.{drop_of_length-le}
use Rattle.std.proofs.lemmas.List.{append-nil, append_assoc, drop_more}
use Rattle.inc_answers.specs.JsonAnswers.{About, JsonOut, about_of, puts}
use Rattle.inc_answers.specs.JsonTexts.{comma_at, items_text, list_of}
use Rattle.inc_answers.proofs.JoinedTexts.{items_done, items_from, items_later, items_next}

---- a piece more

pub puts_both : (j : JsonOut) (a b : List ℕ) → puts (puts j a) b ≡ puts j (a ++ b)
puts_both j a b = ap (λ (t : List ℕ). record j { text = t }) (append_assoc j.text a b)

pub puts_none : (j : JsonOut) → puts j [] ≡ j
puts_none j = ap (λ (t : List ℕ). record j { text = t }) (append-nil j.text)

pub puts_then : (old mid new : JsonOut) (a b : List ℕ) → mid ≡ puts old a → new ≡ puts mid b → new ≡ puts old (a ++ b)
puts_then old mid new a b first second = second ∙ ap (λ (j : JsonOut). puts j b) first ∙ puts_both old a b

-- the same where the second piece depends on what the text is about
pub puts_about : (f : About → List ℕ) (old mid new : JsonOut) (a : List ℕ) → mid ≡ puts old a → new ≡ puts mid (f (about_of mid)) → new ≡ puts old (a ++ f (about_of old))
puts_about f old mid new a first second = puts_then old mid new a (f (about_of old)) first (second ∙ ap (λ (j : JsonOut). puts mid (f (about_of j))) first)

-- the same where the second piece may fail
pub ends_then : {T E : Type 0} (r : Result T E) (old mid new : JsonOut) (a b : List ℕ) → mid ≡ puts old a → OnOk r (new ≡ puts mid b) → OnOk r (new ≡ puts old (a ++ b))
ends_then (Ok x) old mid new a b first second = puts_then old mid new a b first second
ends_then (Err e) old mid new a b first second = tt

pub ends_about : {T E : Type 0} (r : Result T E) (f : About → List ℕ) (old mid new : JsonOut) (a : List ℕ) → mid ≡ puts old a → OnOk r (new ≡ puts mid (f (about_of mid)))
    → OnOk r (new ≡ puts old (a ++ f (about_of old)))
ends_about (Ok x) f old mid new a first second = puts_about f old mid new a first second
ends_about (Err e) f old mid new a first second = tt

---- lists

module _ {X : Type 0} (f : About → X → List ℕ) where
  -- behind what is there the items that are left make this text
  abbrev pub Makes : (now : JsonOut) → (place : ℕ) → (left : List X) → (end : JsonOut) → Type 0
  Makes now place left end = puts now (items_from place (map (f (about_of now)) left)) ≡ end

  -- the text with these items behind its start
  abbrev pub with_items : (start : JsonOut) → List X → JsonOut
  with_items start xs = puts start (items_text (map (f (about_of start)) xs))

  -- one item more
  pub item_put : (now comma new end : JsonOut) (place : ℕ) (x : X) (xs : List X) → comma ≡ puts now (comma_at place) → new ≡ puts comma (f (about_of comma) x)
      → Makes now place (x ∷ xs) end → Makes new 1 xs end
  item_put now comma new end place x xs first second so_far =
      let item : List ℕ = f (about_of now) x in
      let rest : List ℕ = items_from 1 (map (f (about_of now)) xs) in
      let added : new ≡ puts now (comma_at place ++ item) = puts_about (λ a. f a x) now comma new (comma_at place) first second in
      ap (λ (j : JsonOut). puts j (items_from 1 (map (f (about_of j)) xs))) added
      ∙ puts_both now (comma_at place ++ item) rest
      ∙ ap (puts now) (sym (items_next place item (map (f (about_of now)) xs)))
      ∙ so_far

  -- the one at a place
  pub item_at : (now comma new end : JsonOut) (place : ℕ) (x : X) (xs : List X) → place < length xs → x ≡ get_or xs place x → comma ≡ puts now (comma_at place)
      → new ≡ puts comma (f (about_of comma) x) → Makes now place (drop place xs) end → Makes new (place + 1) (drop (place + 1) xs) end
  item_at now comma new end place x xs low at first second so_far =
      let rest : List X = drop (place + 1) xs in
      let here : drop place xs ≡ x ∷ rest = drop_more xs place x low ∙ ap (λ (y : X). y ∷ rest) (sym at) in
      ap (puts new) (sym (items_later place (place + 1) (map (f (about_of new)) rest) refl))
      ∙ item_put now comma new end place x rest first second (subst (λ (ys : List X). Makes now place ys end) here so_far)

  -- once none is left the list is closed
  pub list_closed : {T E : Type 0} (r : Result T E) (old start now new : JsonOut) (place : ℕ) (xs left : List X) → start ≡ puts old (codes "[") → left ≡ []
      → Makes now place left (with_items start xs) → OnOk r (new ≡ puts now (codes "]")) → OnOk r (new ≡ puts old (list_of (map (f (about_of old)) xs)))
  list_closed r old start now new place xs left begun none made closed =
      ends_then r old now new (codes "[" ++ items_text (map (f (about_of old)) xs)) (codes "]")
      (sym (puts_none now) ∙ ap (puts now) (sym (items_done place)) ∙ ap (λ (ys : List X). puts now (items_from place (map (f (about_of now)) ys))) (sym none) ∙ made
      ∙ ap (λ (j : JsonOut). puts j (items_text (map (f (about_of j)) xs))) begun ∙ puts_both old (codes "[") (items_text (map (f (about_of old)) xs)))
      closed

  -- the same of a list that is gone through by its places
  pub list_ended : {T E : Type 0} (r : Result T E) (old start now new : JsonOut) (place : ℕ) (xs : List X) → start ≡ puts old (codes "[") → length xs ≤ place
      → Makes now place (drop place xs) (with_items start xs) → OnOk r (new ≡ puts now (codes "]")) → OnOk r (new ≡ puts old (list_of (map (f (about_of old)) xs)))
  list_ended r old start now new place xs begun past made closed = list_closed r old start now new place xs (drop place xs) begun (drop_of_length-le xs past) made closed
