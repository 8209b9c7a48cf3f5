-- A call and its arguments, token by token.
use Rattle.std.proofs.Common.{◌≡◌, ℕ, suc, ◌+◌, ◌-◌, ◌<◌, ◌≤◌, Bool, true, false, ◌&&◌, ◌==◌, if◌then◌else◌, List, [], ◌∷◌, ◌++◌, map, length, Option, Some, None, option_map, refl, sym, ap, ap₂, subst, ◌∙◌, arith, append_assoc, nat_lt, take, drop, drop-cons, get_or}
use Rattle.std.proofs.Math.Seq.{take-suc}
use Rattle.std.proofs.lemmas.List.{append-nil, map-append, length_push, length-drop, drop_all, get_or-drop, take_all}
use Rattle.inc_expand.specs.declared.carried.Carried.{Carried}
use Rattle.inc_expand.specs.Sets.{Sets}
use Rattle.inc_expand.specs.Expansion.{Carrier, Call, is_close, is_comma, depth_after, call_behind, onto_first, split_at_commas, unexpanded}
use Rattle.inc_expand.specs.Carriers.{carrier, carriers, AreKnown}
use Rattle.inc_expand.specs.Arguments.{ArgumentValue, argument_value, argument_values, AreKnownIn}

---- known sets

pub known-append : (n : ℕ) (ts us : List Carried) → AreKnown n ts → AreKnown n us → AreKnown n (ts ++ us)
known-append n [] us h k = k
known-append n (t ∷ ts) us h k = (h.0, known-append n ts us h.1 k)

pub known-push : (n : ℕ) (ts : List Carried) (t : Carried) → AreKnown n ts → t.set < n → AreKnown n (ts ++ t ∷ [])
known-push n ts t h k = known-append n ts (t ∷ []) h (k, tt)

---- the end of a call

-- tokens before what is inside
abbrev pub put_inside : List Carrier → Call → Call
put_inside front c = record c { inside = front ++ c.inside }

-- so far `inside` was passed of a call, and what is left is this list
pub record IsPassed (all inside list : List Carried) (deep : ℕ) : Type 0 where
  pub call : (s : Sets) → call_behind 0 (carriers s all) ≡ option_map (put_inside (carriers s inside)) (call_behind deep (carriers s list))
  pub known : (n : ℕ) → AreKnown n all → AreKnown n inside × AreKnown n list
  pub shallow : deep ≤ length inside

pub passed-none : (all : List Carried) → IsPassed all [] all 0
passed-none all = record { call = λ s. by (call_behind 0 (carriers s all)); known = λ n h. (tt, h); shallow = omega arith }
  where
    by : (o : Option Call) → o ≡ option_map (put_inside []) o
    by None = refl
    by (Some c) = refl

module _ (all inside list : List Carried) (t : Carried) (deep : ℕ) (p : IsPassed all inside (t ∷ list) deep) where
  inner : (s : Sets) → (is_close (carrier s t) && (deep == 0)) ≡ false →
      option_map (put_inside (carriers s inside)) (call_behind deep (carriers s (t ∷ list)))
      ≡ option_map (put_inside (carriers s (inside ++ t ∷ []))) (call_behind (depth_after deep (carrier s t)) (carriers s list))
  inner s e = by (is_close (carrier s t) && (deep == 0)) (call_behind (depth_after deep (carrier s t)) (carriers s list)) e
    where
      by : (b : Bool) (o : Option Call) → b ≡ false →
          option_map (put_inside (carriers s inside)) (if b then Some (record { inside = []; close = carrier s t; rest = carriers s list })
          else option_map (λ (c : Call). record c { inside = carrier s t ∷ c.inside }) o)
          ≡ option_map (put_inside (carriers s (inside ++ t ∷ []))) o
      by true o h = cc
      by false None h = refl
      by false (Some c) h =
          ap (λ (ts : List Carrier). Some (record c { inside = ts }))
          (sym (append_assoc (carriers s inside) (carrier s t ∷ []) c.inside) ∙ ap (λ ts. ts ++ c.inside) (sym (map-append (carrier s) inside (t ∷ []))))

  pub passed-more : ((s : Sets) → (is_close (carrier s t) && (deep == 0)) ≡ false) → (m : ℕ) → ((s : Sets) → m ≡ depth_after deep (carrier s t)) → m ≤ deep + 1 →
      IsPassed all (inside ++ t ∷ []) list m
  passed-more not_end m is more = record {
    call = λ s. p.call s ∙ inner s (not_end s) ∙ ap (λ d. option_map (put_inside (carriers s (inside ++ t ∷ []))) (call_behind d (carriers s list))) (sym (is s));
    known = λ n h. let k = p.known n h in (known-push n inside t k.0 k.1.0, k.1.1);
    shallow = omega (arith, length_push inside t, p.shallow, more);
  }

  pub passed-found : (s : Sets) → (is_close (carrier s t) && (deep == 0)) ≡ true →
      call_behind 0 (carriers s all) ≡ Some (record { inside = carriers s inside; close = carrier s t; rest = carriers s list })
  passed-found s e = p.call s ∙ by (is_close (carrier s t) && (deep == 0)) (call_behind (depth_after deep (carrier s t)) (carriers s list)) e
    where
      by : (b : Bool) (o : Option Call) → b ≡ true →
          option_map (put_inside (carriers s inside)) (if b then Some (record { inside = []; close = carrier s t; rest = carriers s list })
          else option_map (λ (c : Call). record c { inside = carrier s t ∷ c.inside }) o)
          ≡ Some (record { inside = carriers s inside; close = carrier s t; rest = carriers s list })
      by true o h = ap (λ (ts : List Carrier). Some (record { inside = ts; close = carrier s t; rest = carriers s list })) (append-nil (carriers s inside))
      by false o h = cc

---- the arguments of a call

pub known_in-push : (n : ℕ) (as' : List ArgumentValue) (a : ArgumentValue) → AreKnownIn n as' → AreKnown n a.written → AreKnown n a.expanded →
    AreKnownIn n (as' ++ a ∷ [])
known_in-push n [] a h k l = (k, (l, tt))
known_in-push n (b ∷ as') a h k l = (h.0, (h.1.0, known_in-push n as' a h.1.1 k l))

-- tokens before those of the first list
abbrev pub onto_head : List Carrier → List (List Carrier) → List (List Carrier)
onto_head front [] = front ∷ []
onto_head front (a ∷ as') = (front ++ a) ∷ as'

onto_head-none : (most deep : ℕ) (ts : List Carrier) → onto_head [] (split_at_commas most deep ts) ≡ split_at_commas most deep ts
onto_head-none most deep [] = refl
onto_head-none most deep (t ∷ ts) =
    by (is_comma t && ((deep == 0) && nat_lt 0 most))
    (split_at_commas (if is_comma t && ((deep == 0) && nat_lt 0 most) then most - 1 else most) (depth_after deep t) ts)
  where
    first : (as' : List (List Carrier)) → onto_head [] (onto_first t as') ≡ onto_first t as'
    first [] = refl
    first (a ∷ as') = refl

    by : (b : Bool) (as' : List (List Carrier)) → onto_head [] (if b then [] ∷ as' else onto_first t as') ≡ (if b then [] ∷ as' else onto_first t as')
    by true as' = refl
    by false as' = first as'

-- so far these arguments were split off, `written` is of the next one, and what is left is this list
pub record IsSplit (most : ℕ) (all : List Carried) (done : List ArgumentValue) (written : List Carried) (left deep : ℕ) (rest : List Carried) : Type 0 where
  pub lists : (s : Sets) → map unexpanded (split_at_commas most 0 (carriers s all))
      ≡ argument_values s done ++ map unexpanded (onto_head (carriers s written) (split_at_commas left deep (carriers s rest)))
  pub known : (n : ℕ) → AreKnown n all → AreKnownIn n done × (AreKnown n written × AreKnown n rest)

pub split-none : (most : ℕ) (all : List Carried) → IsSplit most all [] [] most 0 all
split-none most all = record {
  lists = λ s. ap (map unexpanded) (sym (onto_head-none most 0 (carriers s all)));
  known = λ n h. (tt, (tt, h));
}

module _ (most : ℕ) (all : List Carried) (done : List ArgumentValue) (written : List Carried) (left deep : ℕ) (t : Carried) (rest : List Carried)
    (p : IsSplit most all done written left deep (t ∷ rest)) where
  -- at a comma that splits
  pub split-next : (a : ArgumentValue) → a.written ≡ written → a.expanded ≡ [] → a.given ≡ true →
      ((s : Sets) → (is_comma (carrier s t) && ((deep == 0) && nat_lt 0 left)) ≡ true) → (m : ℕ) → ((s : Sets) → m ≡ depth_after deep (carrier s t)) →
      IsSplit most all (done ++ a ∷ []) [] (left - 1) m rest
  split-next a whole none given yes_ m is = record {
    lists = λ s. p.lists s ∙ ap (λ ls. argument_values s done ++ map unexpanded (onto_head (carriers s written) ls)) (at s)
        ∙ ap (λ ls. argument_values s done ++ map unexpanded ls) (ap (λ w. w ∷ others s) (append-nil (carriers s written)))
        ∙ ap (λ ls. argument_values s done ++ (unexpanded (carriers s written) ∷ map unexpanded ls)) (sym (onto_head-none (left - 1) m (carriers s rest)))
        ∙ sym (append_assoc (argument_values s done) (unexpanded (carriers s written) ∷ []) (map unexpanded (onto_head [] (others s))))
        ∙ ap (λ v. (argument_values s done ++ v ∷ []) ++ map unexpanded (onto_head [] (others s))) (value s)
        ∙ ap (λ vs. vs ++ map unexpanded (onto_head [] (others s))) (sym (map-append (argument_value s) done (a ∷ [])));
    known = λ n h. let k = p.known n h in
        (known_in-push n done a k.0 (subst (AreKnown n) (sym whole) k.1.0) (subst (AreKnown n) (sym none) tt), (tt, k.1.1.1));
  }
    where
      others : Sets → List (List Carrier)
      others s = split_at_commas (left - 1) m (carriers s rest)

      at : (s : Sets) → split_at_commas left deep (carriers s (t ∷ rest)) ≡ [] ∷ others s
      at s = by (is_comma (carrier s t) && ((deep == 0) && nat_lt 0 left)) (yes_ s) ∙ ap (λ d. [] ∷ split_at_commas (left - 1) d (carriers s rest)) (sym (is s))
        where
          by : (b : Bool) → b ≡ true →
              (let o = split_at_commas (if b then left - 1 else left) (depth_after deep (carrier s t)) (carriers s rest) in if b then [] ∷ o else onto_first (carrier s t) o)
              ≡ [] ∷ split_at_commas (left - 1) (depth_after deep (carrier s t)) (carriers s rest)
          by true e = refl
          by false e = cc

      value : (s : Sets) → unexpanded (carriers s written) ≡ argument_value s a
      value s =
          ap₂ (λ (w e : List Carrier). record { written = w; expanded = e; given = true }) (ap (carriers s) (sym whole)) (ap (carriers s) (sym none))
          ∙ ap (λ (g : Bool). record { written = carriers s a.written; expanded = carriers s a.expanded; given = g }) (sym given)

  -- at any other token
  pub split-more : ((s : Sets) → (is_comma (carrier s t) && ((deep == 0) && nat_lt 0 left)) ≡ false) → (m : ℕ) → ((s : Sets) → m ≡ depth_after deep (carrier s t)) →
      IsSplit most all done (written ++ t ∷ []) left m rest
  split-more no_ m is = record {
    lists = λ s. p.lists s ∙ ap (λ ls. argument_values s done ++ map unexpanded (onto_head (carriers s written) ls)) (at s)
        ∙ ap (λ ls. argument_values s done ++ map unexpanded ls) (onto s (split_at_commas left m (carriers s rest)));
    known = λ n h. let k = p.known n h in (k.0, (known-push n written t k.1.0 k.1.1.0, k.1.1.1));
  }
    where
      at : (s : Sets) → split_at_commas left deep (carriers s (t ∷ rest)) ≡ onto_first (carrier s t) (split_at_commas left m (carriers s rest))
      at s = by (is_comma (carrier s t) && ((deep == 0) && nat_lt 0 left)) (no_ s) ∙ ap (λ d. onto_first (carrier s t) (split_at_commas left d (carriers s rest))) (sym (is s))
        where
          by : (b : Bool) → b ≡ false →
              (let o = split_at_commas (if b then left - 1 else left) (depth_after deep (carrier s t)) (carriers s rest) in if b then [] ∷ o else onto_first (carrier s t) o)
              ≡ onto_first (carrier s t) (split_at_commas left (depth_after deep (carrier s t)) (carriers s rest))
          by false e = refl
          by true e = cc

      onto : (s : Sets) (ls : List (List Carrier)) → onto_head (carriers s written) (onto_first (carrier s t) ls) ≡ onto_head (carriers s (written ++ t ∷ [])) ls
      onto s [] = ap (λ w. w ∷ []) (sym (map-append (carrier s) written (t ∷ [])))
      onto s (l ∷ ls) = ap (λ w. w ∷ ls) (sym (append_assoc (carriers s written) (carrier s t ∷ []) l) ∙ ap (λ w. w ++ l) (sym (map-append (carrier s) written (t ∷ []))))

-- the last argument
module _ (most : ℕ) (all : List Carried) (done : List ArgumentValue) (written : List Carried) (left deep : ℕ)
    (p : IsSplit most all done written left deep []) (a : ArgumentValue) (whole : a.written ≡ written) (none : a.expanded ≡ []) (given : a.given ≡ true) where
  pub split-end : (s : Sets) → argument_values s (done ++ a ∷ []) ≡ map unexpanded (split_at_commas most 0 (carriers s all))
  split-end s =
      map-append (argument_value s) done (a ∷ [])
      ∙ ap (λ v. argument_values s done ++ v ∷ [])
      (ap (λ (g : Bool). record { written = carriers s a.written; expanded = carriers s a.expanded; given = g }) given
      ∙ ap₂ (λ (w e : List Carrier). record { written = w; expanded = e; given = true }) (ap (carriers s) whole ∙ sym (append-nil (carriers s written))) (ap (carriers s) none))
      ∙ sym (p.lists s)

  pub split-known : (n : ℕ) → AreKnown n all → AreKnownIn n (done ++ a ∷ [])
  split-known n h = let k = p.known n h in known_in-push n done a k.0 (subst (AreKnown n) (sym whole) k.1.0) (subst (AreKnown n) (sym none) tt)

---- the same at an index

pub drop-at : {A : Type 0} (xs : List A) (i : ℕ) (d : A) → i < length xs → drop i xs ≡ get_or xs i d ∷ drop (i + 1) xs
drop-at xs i d l = let e : suc i ≡ i + 1 = omega arith in drop-cons xs i d l ∙ ap (λ j. get_or xs i d ∷ drop j xs) e

module _ (most : ℕ) (all : List Carried) (done : List ArgumentValue) (written : List Carried) (left deep i : ℕ) (t : Carried)
    (p : IsSplit most all done written left deep (drop i all)) (l : i < length all) (there : get_or all i t ≡ t) (m : ℕ) (is : (s : Sets) → m ≡ depth_after deep (carrier s t)) where
  here : IsSplit most all done written left deep (t ∷ drop (i + 1) all)
  here = subst (IsSplit most all done written left deep) (drop-at all i t l ∙ ap (λ u. u ∷ drop (i + 1) all) there) p

  pub split-next-at : (a : ArgumentValue) → a.written ≡ written → a.expanded ≡ [] → a.given ≡ true → ((s : Sets) → (is_comma (carrier s t) && ((deep == 0) && nat_lt 0 left)) ≡ true) →
      IsSplit most all (done ++ a ∷ []) [] (left - 1) m (drop (i + 1) all)
  split-next-at a whole none given e = split-next most all done written left deep t (drop (i + 1) all) here a whole none given e m is

  pub split-more-at : ((s : Sets) → (is_comma (carrier s t) && ((deep == 0) && nat_lt 0 left)) ≡ false) → IsSplit most all done (written ++ t ∷ []) left m (drop (i + 1) all)
  split-more-at e = split-more most all done written left deep t (drop (i + 1) all) here e m is

pub split-all : (most : ℕ) (all : List Carried) (done : List ArgumentValue) (written : List Carried) (left deep i : ℕ) → length all ≤ i →
    IsSplit most all done written left deep (drop i all) → IsSplit most all done written left deep []
split-all most all done written left deep i l p = subst (IsSplit most all done written left deep) (drop_all i all l) p

---- the tokens between two places

pub written-is : {most : ℕ} {all : List Carried} {done : List ArgumentValue} {ts us : List Carried} {left deep : ℕ} {rest : List Carried} →
    ts ≡ us → IsSplit most all done ts left deep rest → IsSplit most all done us left deep rest
written-is {most} {all} {done} {ts} {us} {left} {deep} {rest} e p = subst (λ vs. IsSplit most all done vs left deep rest) e p

pub between-none : (xs : List Carried) (i : ℕ) → [] ≡ take (i + 1 - (i + 1)) (drop (i + 1) xs)
between-none xs i = let e : 0 ≡ i + 1 - (i + 1) = omega arith in ap (λ n. take n (drop (i + 1) xs)) e

pub between-more : (xs : List Carried) (b i : ℕ) (t : Carried) → b ≤ i → i < length xs → get_or xs i t ≡ t → take (i - b) (drop b xs) ++ t ∷ [] ≡ take (i + 1 - b) (drop b xs)
between-more xs b i t l m there =
    let e : suc (i - b) ≡ i + 1 - b = omega (arith, l) in
    let f : b + (i - b) ≡ i = omega (arith, l) in
    let k = length-drop b xs in
    let n : i - b < length (drop b xs) = omega (arith, l, m, k) in
    ap (λ u. take (i - b) (drop b xs) ++ u ∷ []) (sym (get_or-drop b xs (i - b) t ∙ ap (λ j. get_or xs j t) f ∙ there))
    ∙ sym (take-suc (drop b xs) (i - b) t n) ∙ ap (λ j. take j (drop b xs)) e

pub between-rest : (xs : List Carried) (b i : ℕ) → length xs ≤ i → take (i - b) (drop b xs) ≡ take (length xs - b) (drop b xs)
between-rest xs b i l =
    let k = length-drop b xs in
    take_all (i - b) (drop b xs) (omega (arith, l, k)) ∙ sym (take_all (length xs - b) (drop b xs) (omega (arith, k)))

---- a call in a list that is not copied

module _ (all : List Carried) (i deep : ℕ) (t : Carried) (l : i < length all) (there : get_or all i t ≡ t) (p : IsPassed all (take i all) (drop i all) deep) where
  front : IsPassed all (take i all) (t ∷ drop (i + 1) all) deep
  front = subst (λ ts. IsPassed all (take i all) ts deep) (drop-at all i t l ∙ ap (λ u. u ∷ drop (i + 1) all) there) p

  pub lent-more : ((s : Sets) → (is_close (carrier s t) && (deep == 0)) ≡ false) → (m : ℕ) → ((s : Sets) → m ≡ depth_after deep (carrier s t)) → m ≤ deep + 1 →
      IsPassed all (take (i + 1) all) (drop (i + 1) all) m
  lent-more not_end m depth more =
      let e : suc i ≡ i + 1 = omega arith in
      subst (λ ts. IsPassed all ts (drop (i + 1) all) m) (sym (ap (λ n. take n all) (sym e) ∙ take-suc all i t l ∙ ap (λ u. take i all ++ u ∷ []) there))
      (passed-more all (take i all) (drop (i + 1) all) t deep front not_end m depth more)

  pub lent-found : (s : Sets) → (is_close (carrier s t) && (deep == 0)) ≡ true →
      call_behind 0 (carriers s all) ≡ Some (record { inside = carriers s (take i all); close = carrier s t; rest = carriers s (drop (i + 1) all) })
  lent-found = passed-found all (take i all) (drop (i + 1) all) t deep front

-- none of its tokens is the `)`
pub lent-open : (all : List Carried) (i deep : ℕ) → length all ≤ i → IsPassed all (take i all) (drop i all) deep → (s : Sets) → call_behind 0 (carriers s all) ≡ None
lent-open all i deep l p s = p.call s ∙ ap (λ ts. option_map (put_inside (carriers s (take i all))) (call_behind deep (carriers s ts))) (drop_all i all l)
