-- Rows that are changed in place, value by value.
use Rattle.std.proofs.Common.{◌≡◌, ℕ, ◌+◌, ◌<◌, ◌≤◌, Bool, true, false, ◌||◌, List, [], ◌∷◌, inl, inr, length, drop, get_or, set, refl, sym, ap, ◌∙◌, arith, get_or-set_same, get_or-set_other, length-set, subst, ◌++◌, ◌⊎◌, map, replicate, take}
use Rattle.std.specs.Prelude.{◌&&◌, ◌==◌}
use Rattle.std.proofs.Math.Bool.{or-false}
use Rattle.std.proofs.lemmas.Bool.{cases_eq}
use Rattle.std.proofs.Math.ListN.{get_or-append}
use Rattle.std.proofs.Math.Seq.{get_or-append_seam}
use Rattle.std.proofs.lemmas.List.{drop_more, drop_all, get_or-replicate, length-append, length-drop, length-replicate, take_at}
use Rattle.inc_text.specs.Ascii.{slash}
use Rattle.inc_globs.specs.Globs.{Piece, stands_for, one, many, below, fits, fits_piece, Directories}
use Rattle.inc_globs.specs.Rows.{IsRow}
use Rattle.inc_globs.specs.Views.{seen_piece}
use Rattle.inc_globs.specs.declared.globs.Piece.{Piece as PieceValue}
use Rattle.inc_globs.proofs.PieceLemmas.{front_is}

-- the values from one place up to another are those of a function of the rest there, and the others are as they were
pub record IsFilled (f : List ℕ → Bool) (text : List ℕ) (low high : ℕ) (old now : List Bool) : Type 0 where
  pub sized : length now ≡ length old
  pub within : (k : ℕ) → low ≤ k → k < high → get_or now k false ≡ f (drop k text)
  pub before : (k : ℕ) → k < low → get_or now k false ≡ get_or old k false
  pub behind : (k : ℕ) → high ≤ k → get_or now k false ≡ get_or old k false

pub filled_none : (f : List ℕ → Bool) (text : List ℕ) (i : ℕ) (old : List Bool) → IsFilled f text i i old old
filled_none f text i old = record {
  sized = refl;
  within = λ k low high. absurd (omega (arith, low, high));
  before = λ k low. refl;
  behind = λ k high. refl;
}

-- one value is that of the function
pub filled_one : (f : List ℕ → Bool) (text : List ℕ) (i : ℕ) (old : List Bool) → get_or old i false ≡ f (drop i text) → IsFilled f text i (i + 1) old old
filled_one f text i old is = record {
  sized = refl;
  within = λ k low high. let same : k ≡ i = omega (arith, low, high) in rw same is;
  before = λ k low. refl;
  behind = λ k high. refl;
}

-- one value more behind those that are filled
pub filled_up : (f : List ℕ → Bool) (text : List ℕ) (low high : ℕ) (old now : List Bool) (v : Bool) → low ≤ high → high < length now → v ≡ f (drop high text)
    → IsFilled f text low high old now → IsFilled f text low (high + 1) old (set now high v)
filled_up f text low high old now v order inside is so_far = record {
  sized = length-set now high v ∙ so_far.sized;
  within = λ k from to. elim (cases_eq k high) [
    | inl same ↦ rw same (get_or-set_same now high v false inside ∙ is)
    | inr other ↦ get_or-set_other now high k v false other ∙ so_far.within k from (omega (arith, to, other))
  ];
  before = λ k from. get_or-set_other now high k v false (λ e. omega (arith, e, from, order)) ∙ so_far.before k from;
  behind = λ k to. get_or-set_other now high k v false (λ e. omega (arith, e, to)) ∙ so_far.behind k (omega (arith, to));
}

-- one value more before them
pub filled_down : (f : List ℕ → Bool) (text : List ℕ) (low high : ℕ) (old now : List Bool) (v : Bool) → low < high → low < length now → v ≡ f (drop low text)
    → IsFilled f text (low + 1) high old now → IsFilled f text low high old (set now low v)
filled_down f text low high old now v order inside is so_far = record {
  sized = length-set now low v ∙ so_far.sized;
  within = λ k from to. elim (cases_eq k low) [
    | inl same ↦ rw same (get_or-set_same now low v false inside ∙ is)
    | inr other ↦ get_or-set_other now low k v false other ∙ so_far.within k (omega (arith, from, other)) to
  ];
  before = λ k from. get_or-set_other now low k v false (λ e. omega (arith, e, from)) ∙ so_far.before k (omega (arith, from));
  behind = λ k to. get_or-set_other now low k v false (λ e. omega (arith, e, to, order)) ∙ so_far.behind k to;
}

-- all values are filled
pub filled_row : (f : List ℕ → Bool) (text : List ℕ) (low : ℕ) (old now : List Bool) → length old ≡ length text + 1 → low ≡ 0 → IsFilled f text low (length text + 1) old now → IsRow f text now
filled_row f text low old now sized begin filled = record {
  sized = filled.sized ∙ sized;
  values = λ j within. filled.within j (omega (arith, begin)) (omega (arith, within));
}

-- what a value is made of
module _ (rest : List ℕ → Bool) (text : List ℕ) (at : ℕ) (inside : at < length text) where
  here : drop at text ≡ get_or text at 0 ∷ drop (at + 1) text
  here = drop_more text at 0 inside

  pub one_at : (p : Piece) → one p rest (drop at text) ≡ (stands_for p (get_or text at 0) && rest (drop (at + 1) text))
  one_at p = ap (one p rest) here

  pub many_at : (p : Piece) → many p rest (drop at text) ≡ (rest (drop at text) || (stands_for p (get_or text at 0) && many p rest (drop (at + 1) text)))
  many_at p = ap (many p rest) here ∙ ap (λ r. rest r || (stands_for p (get_or text at 0) && many p rest (drop (at + 1) text))) (sym here)

  pub below_at : below rest (drop at text) ≡ (((get_or text at 0 == slash) && rest (drop (at + 1) text)) || below rest (drop (at + 1) text))
  below_at = ap (below rest) here

-- at the end of the text
module _ (rest : List ℕ → Bool) (text : List ℕ) where
  pub one_end : (p : Piece) → one p rest (drop (length text) text) ≡ false
  one_end p = ap (one p rest) (drop_all (length text) text (omega arith))

  pub many_end : (p : Piece) → many p rest (drop (length text) text) ≡ rest (drop (length text) text)
  many_end p = let end = drop_all (length text) text (omega arith) in ap (many p rest) end ∙ sym (ap rest end)

  pub below_end : below rest (drop (length text) text) ≡ false
  below_end = ap (below rest) (drop_all (length text) text (omega arith))

---- one turn of each loop

pub one_more : (p : Piece) (rest : List ℕ → Bool) (path : List ℕ) (i : ℕ) (old now : List Bool) (fit : Bool) → i < length path → IsRow rest path old → fit ≡ stands_for p (get_or path i 0)
    → IsFilled (one p rest) path 0 i old now → IsFilled (one p rest) path 0 (i + 1) old (set now i (fit && get_or now (i + 1) false))
one_more p rest path i old now fit inside row is so_far =
    let sized = row.sized in
    let room : i < length now = omega (arith, inside, so_far.sized, sized) in
    let behind : get_or now (i + 1) false ≡ rest (drop (i + 1) path) = so_far.behind (i + 1) (omega arith) ∙ row.values (i + 1) (omega (arith, inside)) in
    let value : (fit && get_or now (i + 1) false) ≡ one p rest (drop i path) = ap (λ b. b && get_or now (i + 1) false) is ∙ ap (λ b. stands_for p (get_or path i 0) && b) behind ∙ sym (one_at rest path i inside p) in
    filled_up (one p rest) path 0 i old now (fit && get_or now (i + 1) false) (omega arith) room value so_far

pub one_last : (p : Piece) (rest : List ℕ → Bool) (path : List ℕ) (i : ℕ) (old now : List Bool) → i ≡ length path → IsRow rest path old
    → IsFilled (one p rest) path 0 i old now → IsRow (one p rest) path (set now (length path) false)
one_last p rest path i old now end row so_far =
    let sized = row.sized in
    let room : length path < length now = omega (arith, so_far.sized, sized) in
    let filled : IsFilled (one p rest) path 0 (length path) old now = subst (λ n. IsFilled (one p rest) path 0 n old now) end so_far in
    filled_row (one p rest) path 0 old (set now (length path) false) sized refl (filled_up (one p rest) path 0 (length path) old now false (omega arith) room (sym (one_end rest path p)) filled)

pub many_first : (p : Piece) (rest : List ℕ → Bool) (path : List ℕ) (row : List Bool) → IsRow rest path row → IsFilled (many p rest) path (length path) (length path + 1) row row
many_first p rest path row is = filled_one (many p rest) path (length path) row (is.values (length path) (omega arith) ∙ sym (many_end rest path p))

pub many_more : (p : Piece) (rest : List ℕ → Bool) (path : List ℕ) (i next : ℕ) (old now : List Bool) (fit : Bool) → i < length path → next ≡ i + 1 → IsRow rest path old → fit ≡ stands_for p (get_or path i 0)
    → IsFilled (many p rest) path next (length path + 1) old now
    → IsFilled (many p rest) path i (length path + 1) old (set now i (get_or now i false || (fit && get_or now (i + 1) false)))
many_more p rest path i next old now fit inside after row is so_far =
    let sized = row.sized in
    let filled : IsFilled (many p rest) path (i + 1) (length path + 1) old now = subst (λ n. IsFilled (many p rest) path n (length path + 1) old now) after so_far in
    let room : i < length now = omega (arith, inside, filled.sized, sized) in
    let here : get_or now i false ≡ rest (drop i path) = filled.before i (omega arith) ∙ row.values i (omega (arith, inside)) in
    let behind : get_or now (i + 1) false ≡ many p rest (drop (i + 1) path) = filled.within (i + 1) (omega arith) (omega (arith, inside)) in
    let value : (get_or now i false || (fit && get_or now (i + 1) false)) ≡ many p rest (drop i path) =
    ap (λ b. b || (fit && get_or now (i + 1) false)) here ∙ ap (λ b. rest (drop i path) || (b && get_or now (i + 1) false)) is
    ∙ ap (λ b. rest (drop i path) || (stands_for p (get_or path i 0) && b)) behind ∙ sym (many_at rest path i inside p) in
    filled_down (many p rest) path i (length path + 1) old now _ (omega (arith, inside)) room value filled

-- the values from here on are new, and what the next one is made of
pub record IsTurn (rest : List ℕ → Bool) (path : List ℕ) (at : ℕ) (behind deeper : Bool) (old now : List Bool) : Type 0 where
  pub filled : IsFilled (fits_piece Directories rest) path at (length path + 1) old now
  pub behind_is : behind ≡ rest (drop at path)
  pub deeper_is : deeper ≡ below rest (drop at path)

pub directories_first : (rest : List ℕ → Bool) (path : List ℕ) (row : List Bool) → IsRow rest path row → IsTurn rest path (length path) (get_or row (length path) false) false row row
directories_first rest path row is =
    let here = is.values (length path) (omega arith) in
    let none = below_end rest path in record {
      filled = filled_one (fits_piece Directories rest) path (length path) row (here ∙ sym (or-false (rest (drop (length path) path))) ∙ ap (λ b. rest (drop (length path) path) || b) (sym none));
      behind_is = here;
      deeper_is = sym none;
    }

pub directories_more : (rest : List ℕ → Bool) (path : List ℕ) (i next : ℕ) (behind deeper : Bool) (old now : List Bool) → i < length path → next ≡ i + 1 → IsRow rest path old
    → IsTurn rest path next behind deeper old now
    → IsTurn rest path i (get_or now i false) (((get_or path i 0 == slash) && behind) || deeper) old
    (set now i (get_or now i false || (((get_or path i 0 == slash) && behind) || deeper)))
directories_more rest path i next behind deeper old now inside after row turn =
    let sized = row.sized in
    let t : IsTurn rest path (i + 1) behind deeper old now = subst (λ n. IsTurn rest path n behind deeper old now) after turn in
    let room : i < length now = omega (arith, inside, t.filled.sized, sized) in
    let here : get_or now i false ≡ rest (drop i path) = t.filled.before i (omega arith) ∙ row.values i (omega (arith, inside)) in
    let down : (((get_or path i 0 == slash) && behind) || deeper) ≡ below rest (drop i path) =
    ap (λ b. ((get_or path i 0 == slash) && b) || deeper) t.behind_is
    ∙ ap (λ b. ((get_or path i 0 == slash) && rest (drop (i + 1) path)) || b) t.deeper_is ∙ sym (below_at rest path i inside) in
    let value : (get_or now i false || (((get_or path i 0 == slash) && behind) || deeper)) ≡ fits_piece Directories rest (drop i path) =
    ap (λ b. b || (((get_or path i 0 == slash) && behind) || deeper)) here ∙ ap (λ b. rest (drop i path) || b) down in
    record {
      filled = filled_down (fits_piece Directories rest) path i (length path + 1) old now _ (omega (arith, inside)) room value t.filled;
      behind_is = here;
      deeper_is = down;
    }

---- a whole row

-- no piece fits the empty text alone
pub row_of_none : (path : List ℕ) (row : List Bool) → row ≡ replicate (length path) false ++ true ∷ [] → IsRow (fits []) path row
row_of_none path row is = record {
  sized = ap length is ∙ length-append (replicate (length path) false) (true ∷ []) ∙ ap (λ n. n + 1) (length-replicate (length path) false);
  values = λ j low. ap (λ r. get_or r j false) is ∙ value j (cases_eq j (length path)) low;
}
  where
    none : List Bool
    none = replicate (length path) false

    many_none : length none ≡ length path
    many_none = length-replicate (length path) false

    empty : (rest : List ℕ) → length rest ≡ 0 → fits [] rest ≡ true
    empty [] e = refl
    empty (b ∷ bs) e = absurd (omega (arith, e))

    some : (rest : List ℕ) → 0 < length rest → fits [] rest ≡ false
    some [] e = absurd (omega (arith, e))
    some (b ∷ bs) e = refl

    value : (j : ℕ) → (j ≡ length path) ⊎ (j ≡ length path → ⊥) → j ≤ length path → get_or (none ++ true ∷ []) j false ≡ fits [] (drop j path)
    value j (inl end) low =
        let seam = get_or-append_seam none true [] false in
        ap (λ k. get_or (none ++ true ∷ []) k false) (end ∙ sym many_none) ∙ seam ∙ sym (empty (drop j path) (omega (arith, length-drop j path, end)))
    value j (inr before) low =
        let less : j < length path = omega (arith, low, before) in
        get_or-append none (true ∷ []) false j (omega (arith, less, many_none)) ∙ get_or-replicate (length path) j false false less
        ∙ sym (some (drop j path) (omega (arith, length-drop j path, less)))

-- a row that was written back whole
pub row_back : (f : List ℕ → Bool) (path : List ℕ) (now old : List Bool) (n : ℕ) → length now ≡ n → IsRow f path now → IsRow f path (take n (now ++ drop (length now) old))
row_back f path now old n sized is = subst (IsRow f path) (sym (take_at now (drop (length now) old) n sized)) is

-- the piece before a rest
pub row_on : (vs : List PieceValue) (i next : ℕ) (v : PieceValue) (path : List ℕ) (now : List Bool) → i < length vs → get_or vs i v ≡ v → next ≡ i + 1
    → IsRow (fits_piece (seen_piece v) (fits (drop next (map seen_piece vs)))) path now → IsRow (fits (drop i (map seen_piece vs))) path now
row_on vs i next v path now low is after row = record { sized = row.sized; values = λ j within. row.values j within ∙ here j }
  where
    here : (j : ℕ) → fits_piece (seen_piece v) (fits (drop next (map seen_piece vs))) (drop j path) ≡ fits (drop i (map seen_piece vs)) (drop j path)
    here j =
        ap (λ n. fits_piece (seen_piece v) (fits (drop n (map seen_piece vs))) (drop j path)) after
        ∙ sym (ap (λ ps. fits ps (drop j path)) (front_is vs i v low is))

---- a piece by its kind

pub by_one : (p : Piece) → ((rest : List ℕ → Bool) (text : List ℕ) → fits_piece p rest text ≡ one p rest text) → (rest : List ℕ → Bool) (path : List ℕ) (now : List Bool)
    → IsRow (one p rest) path now → IsRow (fits_piece p rest) path now
by_one p same rest path now row = record { sized = row.sized; values = λ j within. row.values j within ∙ sym (same rest (drop j path)) }

pub by_many : (p : Piece) → ((rest : List ℕ → Bool) (text : List ℕ) → fits_piece p rest text ≡ many p rest text) → (rest : List ℕ → Bool) (path : List ℕ) (now : List Bool)
    → IsRow (many p rest) path now → IsRow (fits_piece p rest) path now
by_many p same rest path now row = record { sized = row.sized; values = λ j within. row.values j within ∙ sym (same rest (drop j path)) }
