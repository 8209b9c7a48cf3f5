-- Definitions that are equal where their names are, as the entries that they make.
use Rattle.std.proofs.Common.{◌≡◌, ℕ, zero, suc, ◌+◌, ◌||◌, ◌++◌, Bool, true, false, cond, List, [], ◌∷◌, Option, Some, None, is_some, length, slice_get, slice_set, take, position, bytes_eq, refl, sym, ap, ◌∙◌, subst, arith, get_or, nat_lt, IsPermutation, if◌then◌else◌, ◌-◌}
use Rattle.std.specs.Cmp.Lexicographic.{nat_list_eq_equiv}
use Rattle.std.specs.List.{AllByRecursion, Contains, find, list_any, position_or_len, swap_remove}
use Rattle.std.specs.Option.{option_map_or, option_or}
use Rattle.std.specs.Ordering.{on}
use Rattle.std.proofs.lemmas.Bool.{ltb-false}
use Rattle.std.proofs.lemmas.List.{get_or_default, length-map, length_push}
use Rattle.std.proofs.lemmas.List.Folds.{find-append, find_at}
use Rattle.std.proofs.lemmas.List.Quantifiers.{position-Some}
use Rattle.std.proofs.lemmas.List.Sorted.{Contains-permutation, IsPermutation-swap_remove, IsPermutation-sym}
use Rattle.std.proofs.lemmas.Map.Keys.{IsDistinct-head, IsDistinct-tail, IsDistinct-IsPermutation}
use Rattle.std.proofs.lemmas.Option.{slice_get-get_or, slice_get_past}
use Rattle.std.proofs.lemmas.Slice.Eq.{bytes_eq-Decides}
use Rattle.indexmap.specs.IndexMap.{swap_remove_by}
use Rattle.indexmap.specs.IndexSet.{insert_key, replace_key, swap_key}
use Rattle.inc_macro.specs.Macros.{Definition}
use Rattle.inc_macro.specs.Tables.{AreApart, entries_of, found}

-- the definition that a name finds
pub found-find : (name : List ℕ) (ds : List Definition) → found (entries_of ds) name ≡ find (λ (d : Definition). bytes_eq name d.name) ds
found-find name [] = refl
found-find name (d ∷ ds) = ap (cond (bytes_eq name d.name) (Some d)) (found-find name ds)

-- whether a name finds one
pub found-any : (name : List ℕ) (ds : List Definition) → is_some (found (entries_of ds) name) ≡ list_any (λ (d : Definition). bytes_eq name d.name) ds
found-any name [] = refl
found-any name (d ∷ ds) = by (bytes_eq name d.name) _ _ (found-any name ds)
  where
    by : (b : Bool) (o : Option Definition) (any : Bool) → is_some o ≡ any → is_some (cond b (Some d) o) ≡ (b || any)
    by true o any e = refl
    by false o any e = e

-- a definition that has a name is found by it
pub found-at : (name : List ℕ) (ds : List Definition) (i : ℕ) (d : Definition) → AreApart ds → slice_get ds i ≡ Some d → bytes_eq d.name name ≡ true
    → found (entries_of ds) name ≡ Some d
found-at name [] i d apart at is = cc
found-at name (e ∷ ds) zero d apart at is =
    let same : e ≡ d = cc in
    ap (λ (x : Definition). cond (bytes_eq name x.name) (Some x) (found (entries_of ds) name)) same
    ∙ ap (λ b. cond b (Some d) (found (entries_of ds) name)) (nat_list_eq_equiv.symm name d.name ∙ is)
found-at name (e ∷ ds) (suc i) d apart at is =
    let other : bytes_eq name e.name ≡ false =
    nat_list_eq_equiv.symm name e.name ∙ ap (bytes_eq e.name) (sym ((bytes_eq-Decides d.name name).0 is)) ∙ passed ds i (IsDistinct-head _ e ds apart) at in
    ap (λ b. cond b (Some e) (found (entries_of ds) name)) other ∙ found-at name ds i d (IsDistinct-tail _ e ds apart) at is
  where
    passed : (xs : List Definition) (k : ℕ) → AllByRecursion (λ (x : Definition). bytes_eq e.name x.name ≡ false) xs → slice_get xs k ≡ Some d → bytes_eq e.name d.name ≡ false
    passed [] k all at' = cc
    passed (x ∷ xs) zero all at' = let same : x ≡ d = cc in subst (λ (y : Definition). bytes_eq e.name y.name ≡ false) same all.0
    passed (x ∷ xs) (suc k) all at' = passed xs k all.1 at'

---- one more

-- a definition whose name finds none goes last
pub inserted : (ds new : List Definition) (d : Definition) → found (entries_of ds) d.name ≡ None → new ≡ insert_key (on (λ (x : Definition). x.name) bytes_eq) ds d → new ≡ ds ++ d ∷ []
inserted ds new d none is = is ∙ ap (λ b. if b then ds else ds ++ d ∷ []) (sym (found-any d.name ds) ∙ ap is_some none)

-- what names find then
pub found-more : (ds new : List Definition) (d : Definition) → found (entries_of ds) d.name ≡ None → new ≡ ds ++ d ∷ []
    → (name : List ℕ) → found (entries_of new) name ≡ cond (bytes_eq d.name name) (Some d) (found (entries_of ds) name)
found-more ds new d none is name =
    ap (λ xs. found (entries_of xs) name) is ∙ found-find name (ds ++ d ∷ []) ∙ find-append (λ (x : Definition). bytes_eq name x.name) ds (d ∷ [])
    ∙ ap (λ o. option_or o (cond (bytes_eq name d.name) (Some d) None)) (sym (found-find name ds))
    ∙ by (found (entries_of ds) name) (bytes_eq name d.name) (λ same. ap (found (entries_of ds)) ((bytes_eq-Decides name d.name).0 same) ∙ none)
    ∙ ap (λ b. cond b (Some d) (found (entries_of ds) name)) (nat_list_eq_equiv.symm name d.name)
  where
    by : (o : Option Definition) (b : Bool) → (b ≡ true → o ≡ None) → option_or o (cond b (Some d) None) ≡ cond b (Some d) o
    by None true h = refl
    by None false h = refl
    by (Some e) true h = let no' : Some e ≡ None = h refl in cc
    by (Some e) false h = refl

pub length-entries : (ds : List Definition) → length (entries_of ds) ≡ length ds
length-entries ds = length-map ds (λ (d : Definition). (d.name, d))

pub length-more : (ds new : List Definition) (d : Definition) → new ≡ ds ++ d ∷ [] → length (entries_of new) ≡ length (entries_of ds) + 1
length-more ds new d is = let more = ap length is ∙ length_push ds d in omega (arith, more, length-entries ds, length-entries new)

---- another in the place of one

-- what names find once a definition has taken the place of the one with its name
pub found-other : (ds : List Definition) (d : Definition) → list_any (λ (x : Definition). bytes_eq d.name x.name) ds ≡ true
    → (name : List ℕ) → found (entries_of (swap_key (λ (x : Definition). bytes_eq d.name x.name) ds d)) name ≡ cond (bytes_eq d.name name) (Some d) (found (entries_of ds) name)
found-other [] d some name = cc
found-other (x ∷ xs) d some name = by (bytes_eq d.name x.name) (bytes_eq d.name name) refl refl some (λ any. found-other xs d any name)
  where
    rest : List Definition
    rest = swap_key (λ (y : Definition). bytes_eq d.name y.name) xs d

    after : Bool → List Definition
    after b = cond b (d ∷ xs) (x ∷ rest)

    by : (here same : Bool) → bytes_eq d.name x.name ≡ here → bytes_eq d.name name ≡ same
        → (here || list_any (λ (y : Definition). bytes_eq d.name y.name) xs) ≡ true
        → (list_any (λ (y : Definition). bytes_eq d.name y.name) xs ≡ true
        → found (entries_of rest) name ≡ cond (bytes_eq d.name name) (Some d) (found (entries_of xs) name))
        → found (entries_of (after here)) name ≡ cond same (Some d) (found (entries_of (x ∷ xs)) name)
    by true true e f any later = ap (λ b. cond b (Some d) (found (entries_of xs) name)) (nat_list_eq_equiv.symm name d.name ∙ f)
    by true false e f any later =
        let other : bytes_eq name d.name ≡ false = nat_list_eq_equiv.symm name d.name ∙ f in
        ap (λ b. cond b (Some d) (found (entries_of xs) name)) other
        ∙ sym (ap (λ b. cond b (Some x) (found (entries_of xs) name)) (ap (bytes_eq name) (sym ((bytes_eq-Decides d.name x.name).0 e)) ∙ other))
    by false true e f any later =
        let other : bytes_eq name x.name ≡ false = ap (λ n. bytes_eq n x.name) (sym ((bytes_eq-Decides d.name name).0 f)) ∙ e in
        ap (λ b. cond b (Some x) (found (entries_of rest) name)) other ∙ later any ∙ ap (λ b. cond b (Some d) (found (entries_of xs) name)) f
    by false false e f any later =
        ap (cond (bytes_eq name x.name) (Some x)) (later any ∙ ap (λ b. cond b (Some d) (found (entries_of xs) name)) f)

length-other : (test : Definition → Bool) (ds : List Definition) (d : Definition) → length (swap_key test ds d) ≡ length ds
length-other test [] d = refl
length-other test (x ∷ xs) d = by (test x) (length-other test xs d)
  where
    by : (b : Bool) → length (swap_key test xs d) ≡ length xs → length (cond b (d ∷ xs) (x ∷ swap_key test xs d)) ≡ suc (length xs)
    by true later = refl
    by false later = ap suc later

-- the definitions after one is put in the place of the one that its name finds
module _ (ds new : List Definition) (d : Definition) (some : is_some (found (entries_of ds) d.name) ≡ true)
    (is : new ≡ replace_key (on (λ (x : Definition). x.name) bytes_eq) ds d) where
  there : list_any (λ (x : Definition). bytes_eq d.name x.name) ds ≡ true
  there = sym (found-any d.name ds) ∙ some

  swapped : new ≡ swap_key (λ (x : Definition). bytes_eq d.name x.name) ds d
  swapped = is ∙ ap (λ b. if b then swap_key (λ (x : Definition). bytes_eq d.name x.name) ds d else ds ++ d ∷ []) there

  pub found-exchanged : (name : List ℕ) → found (entries_of new) name ≡ cond (bytes_eq d.name name) (Some d) (found (entries_of ds) name)
  found-exchanged name = ap (λ xs. found (entries_of xs) name) swapped ∙ found-other ds d there name

  pub length-exchanged : length (entries_of new) ≡ length (entries_of ds)
  length-exchanged = length-entries new ∙ ap length swapped ∙ length-other (λ (x : Definition). bytes_eq d.name x.name) ds d ∙ sym (length-entries ds)

---- one less

-- what a name finds is a definition with that name
pub found-in : (name : List ℕ) (ds : List Definition) (d : Definition) → found (entries_of ds) name ≡ Some d → Contains ds d × (bytes_eq d.name name ≡ true)
found-in name [] d is = cc
found-in name (e ∷ ds) d is = by (bytes_eq name e.name) refl (found-in name ds d) is
  where
    by : (b : Bool) → bytes_eq name e.name ≡ b → (found (entries_of ds) name ≡ Some d → Contains ds d × (bytes_eq d.name name ≡ true)) → cond b (Some e) (found (entries_of ds) name) ≡ Some d → Contains (e ∷ ds) d × (bytes_eq d.name name ≡ true)
    by true own later at =
        let same : e ≡ d = cc in
        ((0, omega arith, same), nat_list_eq_equiv.symm d.name name ∙ ap (λ (x : Definition). bytes_eq name x.name) (sym same) ∙ own)
    by false own later at = let r = later at in ((suc r.0.0, omega (arith, r.0.1), r.0.2), r.1)

member-found : (name : List ℕ) (ds : List Definition) (d : Definition) → AreApart ds → Contains ds d → bytes_eq d.name name ≡ true → found (entries_of ds) name ≡ Some d
member-found name ds d apart at own = found-at name ds at.0 d apart (slice_get-get_or ds at.0 d at.1 ∙ ap (λ (x : Definition). Some x) at.2) own

-- the order of definitions says nothing
same-found : (name : List ℕ) (xs ys : List Definition) → IsPermutation xs ys → AreApart xs → AreApart ys → found (entries_of ys) name ≡ found (entries_of xs) name
same-found name xs ys moved apart apart' = by (found (entries_of xs) name) (found (entries_of ys) name) refl refl
  where
    by : (o p : Option Definition) → found (entries_of xs) name ≡ o → found (entries_of ys) name ≡ p → found (entries_of ys) name ≡ found (entries_of xs) name
    by (Some d) p is is' = let here = found-in name xs d is in member-found name ys d apart' (Contains-permutation xs ys d moved here.0) here.1 ∙ sym is
    by None None is is' = is' ∙ sym is
    by None (Some d) is is' =
        let here = found-in name ys d is' in
        let other : None ≡ Some d = sym is ∙ member-found name xs d apart (Contains-permutation ys xs d (IsPermutation-sym xs ys moved) here.0) here.1 in
        cc

none-found : (name : List ℕ) (ds : List Definition) → AllByRecursion (λ (d : Definition). bytes_eq name d.name ≡ false) ds → found (entries_of ds) name ≡ None
none-found name [] all = refl
none-found name (d ∷ ds) all = ap (λ b. cond b (Some d) (found (entries_of ds) name)) all.0 ∙ none-found name ds all.1

-- without the first of them
found-rest : (name own : List ℕ) (d : Definition) (ds : List Definition) (o : Option Definition) → d.name ≡ own → AllByRecursion (λ (e : Definition). bytes_eq d.name e.name ≡ false) ds
    → found (entries_of (d ∷ ds)) name ≡ o → found (entries_of ds) name ≡ cond (bytes_eq own name) None o
found-rest name own d ds o is apart finds = by (bytes_eq own name) refl
  where
    by : (b : Bool) → bytes_eq own name ≡ b → found (entries_of ds) name ≡ cond b None o
    by true same =
        let named : d.name ≡ name = is ∙ (bytes_eq-Decides own name).0 same in
        none-found name ds (subst (λ n. AllByRecursion (λ (e : Definition). bytes_eq n e.name ≡ false) ds) named apart)
    by false other =
        let differs : bytes_eq name d.name ≡ false = ap (bytes_eq name) is ∙ nat_list_eq_equiv.symm name own ∙ other in
        sym (ap (λ b. cond b (Some d) (found (entries_of ds) name)) differs) ∙ finds

not-found : (name : List ℕ) (ds : List Definition) → position (λ (d : Definition). bytes_eq name d.name) ds ≡ None → found (entries_of ds) name ≡ None
not-found name ds none = by (nat_lt at (length ds)) refl none
  where
    at : ℕ
    at = position_or_len (λ (d : Definition). bytes_eq name d.name) ds

    by : (b : Bool) → nat_lt at (length ds) ≡ b → cond b (Some at) None ≡ None → found (entries_of ds) name ≡ None
    by true low is = cc
    by false high is =
        found-find name ds ∙ find_at (λ (d : Definition). bytes_eq name d.name) ds ∙ slice_get_past ds at (ltb-false at (length ds) high)

-- what names find once the definition that has this name is gone, and the last one is in its place
pub found-less : (old new : List Definition) (own : List ℕ) → AreApart old → new ≡ swap_remove_by (λ (d : Definition). bytes_eq own d.name) old
    → (name : List ℕ) → found (entries_of new) name ≡ cond (bytes_eq own name) None (found (entries_of old) name)
found-less [] new own apart is =
    λ name. ap (λ xs. found (entries_of xs) name) is ∙ by (bytes_eq own name)
  where
    none : Option Definition
    none = None

    by : (b : Bool) → none ≡ cond b none none
    by true = refl
    by false = refl
found-less (x ∷ xs) new own apart is = by (position test (x ∷ xs)) refl is
  where
    test : Definition → Bool
    test d = bytes_eq own d.name

    by : (o : Option ℕ) → position test (x ∷ xs) ≡ o → new ≡ option_map_or (λ i. swap_remove (x ∷ xs) i x) o (x ∷ xs)
        → (name : List ℕ) → found (entries_of new) name ≡ cond (bytes_eq own name) None (found (entries_of (x ∷ xs)) name)
    by None at same name = ap (λ ds. found (entries_of ds) name) same ∙ absent (bytes_eq own name) refl
      where
        absent : (b : Bool) → bytes_eq own name ≡ b → found (entries_of (x ∷ xs)) name ≡ cond b None (found (entries_of (x ∷ xs)) name)
        absent true is' = ap (found (entries_of (x ∷ xs))) (sym ((bytes_eq-Decides own name).0 is')) ∙ not-found own (x ∷ xs) at
        absent false is' = refl
    by (Some i) at same name =
        let place = position-Some test (x ∷ xs) i x at in
        let d : Definition = get_or (x ∷ xs) i x in
        let rest : List Definition = swap_remove (x ∷ xs) i d in
        let last : swap_remove (x ∷ xs) i x ≡ rest =
        ap (λ (l : Definition). take (length (x ∷ xs) - 1) (slice_set (x ∷ xs) i l)) (get_or_default (x ∷ xs) (length (x ∷ xs) - 1) x d (omega arith)) in
        let moved : IsPermutation (x ∷ xs) (d ∷ rest) = IsPermutation-swap_remove (x ∷ xs) i d place.0 (get_or_default (x ∷ xs) i x d place.0) in
        let apart' : AreApart (d ∷ rest) =
        IsDistinct-IsPermutation (on (λ (e : Definition). e.name) bytes_eq) (λ e f. nat_list_eq_equiv.symm e.name f.name) (x ∷ xs) (d ∷ rest) moved apart in
        ap (λ ds. found (entries_of ds) name) (same ∙ last)
        ∙ found-rest name own d rest (found (entries_of (x ∷ xs)) name) (sym ((bytes_eq-Decides own d.name).0 place.1)) (IsDistinct-head _ d rest apart')
        (same-found name (x ∷ xs) (d ∷ rest) moved apart apart')
