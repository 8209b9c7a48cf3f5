-- Names of headers that are not found: how a directive more is counted, and the names that are most often named.
use Rattle.std.proofs.Common.{◌≡◌, ℕ, zero, suc, ◌+◌, ◌-◌, ◌<◌, ◌≤◌, Bool, true, false, cond, List, [], ◌∷◌, ◌++◌, Option, Some, None, length, map, get_or, drop, take, refl, ap, ap₂, subst, sym, ◌∙◌, arith, bytes_eq, position, option_map, is_some, nat_eq}
use Rattle.std.proofs.Common.{set}
use Rattle.std.proofs.lemmas.Bool.{lt-ltb, le-ltb, false≢true, true≢false}
use Rattle.std.proofs.lemmas.List.{get_or-map, length-map, take-map, drop-map, map-append}
use Rattle.std.proofs.lemmas.List.Elements.{All-append, All-cons, All-drop, All-get_or, All-push, All-same, All-set, All-take, All-weaker}
use Rattle.std.proofs.lemmas.List.Sums.{fold_more}
use Rattle.std.specs.Prelude.{nat_lt, fold, not}
use Rattle.std.specs.List.{insert, list_any, position_from, position_or_len}
use Rattle.std.specs.Cmp.Lexicographic.{pointwise}
use Rattle.std.proofs.lemmas.Iterator.Adapters.{position_from-zero}
use Rattle.indexmap.specs.IndexSet.{insert_key}
use Rattle.inc_lookup.proofs.ListingLemmas.{is_some-position, position_there}
use Rattle.inc_graph.specs.MissingLists.{Missing}
use Rattle.inc_answers.specs.MissingNames.{MissingName, spelled, first_named, counted_once_more, with_missing, counted_at, with_name, ranked}
use Rattle.inc_answers.specs.Views.{AreFewer, AreWithin, IsFewer, IsWithin, first_at, seen_name}
use Rattle.inc_answers.specs.declared.missing_names.MissingName as code

---- one directive more

-- how names are spelled
abbrev pub keys_of : List MissingName → List (List ℕ)
keys_of ns = map (λ (n : MissingName). spelled n.header) ns

-- by the place of its name
abbrev pub placed : List MissingName → Missing → Option ℕ → List MissingName
placed ns m (Some k) = counted_at ns k
placed ns m None = ns ++ first_named m ∷ []

from_suc : {X : Type 0} (p : X → Bool) (i : ℕ) (xs : List X) → position_from p (i + 1) xs ≡ option_map suc (position_from p i xs)
from_suc p i [] = refl
from_suc p i (x ∷ xs) = by (p x) (from_suc p (i + 1) xs)
  where
    one : i + 1 ≡ suc i
    one = omega arith

    by : (b : Bool) → position_from p (i + 1 + 1) xs ≡ option_map suc (position_from p (i + 1) xs)
        → cond b (Some (i + 1)) (position_from p (i + 1 + 1) xs) ≡ option_map suc (cond b (Some i) (position_from p (i + 1) xs))
    by true rest = ap (λ (n : ℕ). Some n) one
    by false rest = rest

with_missing_from : (ns : List MissingName) (m : Missing) → with_missing ns m ≡ placed ns m (position_from (bytes_eq (spelled m.header)) 0 (keys_of ns))
with_missing_from [] m = refl
with_missing_from (n ∷ ns) m = by (bytes_eq (spelled m.header) (spelled n.header)) (with_missing_from ns m)
  where
    more : (o : Option ℕ) → n ∷ placed ns m o ≡ placed (n ∷ ns) m (option_map suc o)
    more (Some k) = refl
    more None = refl

    by : (b : Bool) → with_missing ns m ≡ placed ns m (position_from (bytes_eq (spelled m.header)) 0 (keys_of ns))
        → cond b (counted_once_more n ∷ ns) (n ∷ with_missing ns m) ≡ placed (n ∷ ns) m (cond b (Some 0) (position_from (bytes_eq (spelled m.header)) 1 (keys_of ns)))
    by true rest = refl
    by false rest =
        ap (λ (l : List MissingName). n ∷ l) rest ∙ more (position_from (bytes_eq (spelled m.header)) 0 (keys_of ns))
        ∙ ap (λ (o : Option ℕ). placed (n ∷ ns) m o) (sym (from_suc (bytes_eq (spelled m.header)) 0 (keys_of ns)))

pub with_missing_is : (ns : List MissingName) (m : Missing) → with_missing ns m ≡ placed ns m (position (bytes_eq (spelled m.header)) (keys_of ns))
with_missing_is ns m = with_missing_from ns m ∙ ap (λ (o : Option ℕ). placed ns m o) (sym (position_from-zero (bytes_eq (spelled m.header)) (keys_of ns)))

-- what is looked for among the names is how that of a directive is spelled
pub named_by_key : (ns : List MissingName) (m : Missing) (keys : List (List ℕ)) (key : List ℕ) (found : Option ℕ) → keys ≡ keys_of ns → key ≡ spelled m.header
    → found ≡ position (bytes_eq key) keys → with_missing ns m ≡ placed ns m found
named_by_key ns m keys key found are is at =
    with_missing_is ns m ∙ ap (λ (o : Option ℕ). placed ns m o) (ap₂ (λ (k : List ℕ) (ks : List (List ℕ)). position (bytes_eq k) ks) (sym is) (sym are) ∙ sym at)

pub was_there : (b : Bool) → not b ≡ false → b ≡ true
was_there true e = refl
was_there false e = absurd (true≢false e)

pub was_not : (b : Bool) → not b ≡ true → b ≡ false
was_not true e = absurd (false≢true e)
was_not false e = refl

none_is : (o : Option ℕ) → is_some o ≡ false → o ≡ None
none_is (Some k) e = cc
none_is None e = refl

-- a name that is there is counted once more
pub counted_there : (ns : List MissingName) (m : Missing) (keys : List (List ℕ)) (key : List ℕ) → keys ≡ keys_of ns → key ≡ spelled m.header → list_any (bytes_eq key) keys ≡ true
    → counted_at ns (position_or_len (bytes_eq key) keys) ≡ with_missing ns m
counted_there ns m keys key are is there =
    sym (named_by_key ns m keys key (Some (position_or_len (bytes_eq key) keys)) are is (sym (position_there (bytes_eq key) keys (is_some-position (bytes_eq key) keys ∙ there))))

-- one that is not goes last
pub named_last : (ns : List MissingName) (m : Missing) (keys : List (List ℕ)) (key : List ℕ) → keys ≡ keys_of ns → key ≡ spelled m.header → list_any (bytes_eq key) keys ≡ false
    → ns ++ first_named m ∷ [] ≡ with_missing ns m
named_last ns m keys key are is absent =
    sym (named_by_key ns m keys key None are is (sym (none_is (position (bytes_eq key) keys) (is_some-position (bytes_eq key) keys ∙ absent))))

-- the keys after that
pub keys_same : (ks new : List (List ℕ)) (k : List ℕ) → new ≡ insert_key (pointwise nat_eq) ks k → list_any (bytes_eq k) ks ≡ true → new ≡ ks
keys_same ks new k is there = is ∙ ap (λ (b : Bool). cond b ks (ks ++ k ∷ [])) there

-- a name in place of another one that is counted once less
pub counted_set : (ms : List Missing) (items : List code.MissingName) (k : ℕ) (known new : code.MissingName) → k < length items → known ≡ get_or items k known
    → seen_name ms new ≡ counted_once_more (seen_name ms known) → map (seen_name ms) (set items k new) ≡ counted_at (map (seen_name ms) items) k
counted_set ms [] k known new low at is = absurd (omega (arith, low))
counted_set ms (x ∷ xs) zero known new low at is =
    ap (λ (n : MissingName). n ∷ map (seen_name ms) xs) (is ∙ ap (λ (y : code.MissingName). counted_once_more (seen_name ms y)) at)
counted_set ms (x ∷ xs) (suc k) known new low at is =
    ap (λ (l : List MissingName). seen_name ms x ∷ l) (counted_set ms xs k known new (omega (arith, low)) at is)

pub counted_keys : (ns : List MissingName) (k : ℕ) → keys_of (counted_at ns k) ≡ keys_of ns
counted_keys [] k = refl
counted_keys (n ∷ ns) zero = refl
counted_keys (n ∷ ns) (suc k) = ap (λ (l : List (List ℕ)). spelled n.header ∷ l) (counted_keys ns k)

---- so many directives

-- with one directive more
pub fewer : (count : ℕ) (ns : List code.MissingName) → AreWithin count ns → AreFewer (count + 1) ns
fewer count ns are = All-weaker (IsWithin count) (IsFewer (count + 1)) (λ n is. (omega (arith, is.0), omega (arith, is.1))) ns are

pub fewer_at : (count : ℕ) (ns : List code.MissingName) (k : ℕ) (n : code.MissingName) → k < length ns → n ≡ get_or ns k n → AreFewer count ns → IsFewer count n
fewer_at count ns k n low at are = rw at (All-get_or (IsFewer count) ns k n low are)

pub counted_within : (count : ℕ) (ns : List code.MissingName) (k : ℕ) (n : code.MissingName) → k < length ns → n ≡ get_or ns k n → AreFewer count ns
    → AreWithin count (set ns k (record { place = n.place; count = n.count + 1 }))
counted_within count ns k n low at are =
    let here : IsFewer count n = fewer_at count ns k n low at are in
    All-set (IsWithin count) ns k (record { place = n.place; count = n.count + 1 }) (here.0, omega (arith, here.1))
    (All-weaker (IsFewer count) (IsWithin count) (λ x is. (is.0, omega (arith, is.1))) ns are)

-- each of them, where they are lent
pub within_at : (count : ℕ) (ns lent : List code.MissingName) (i : ℕ) (d : code.MissingName) → lent ≡ ns → i < length lent → AreWithin count ns → IsWithin count (get_or lent i d)
within_at count ns lent i d same low are = All-get_or (IsWithin count) lent i d low (All-same (IsWithin count) lent ns same are)

pub pushed_within : (count : ℕ) (ns new : List code.MissingName) → new ≡ ns ++ first_at count ∷ [] → AreWithin count ns → AreWithin (count + 1) new
pushed_within count ns new is are =
    All-same (IsWithin (count + 1)) new (ns ++ first_at count ∷ []) is
    (All-push (IsWithin (count + 1)) ns (first_at count) (All-weaker (IsWithin count) (IsWithin (count + 1)) (λ x at. (omega (arith, at.0), omega (arith, at.1))) ns are)
    (omega arith, omega arith))

-- one name more among the first ones
pub put_within : (count : ℕ) (old new cut : List code.MissingName) (k : ℕ) (n : code.MissingName) → new ≡ insert old k n → cut ≡ take 10 new
    → AreWithin count old → IsWithin count n → AreWithin count cut
put_within count old new cut k n put is are one =
    let P : code.MissingName → Type 0 = IsWithin count in
    All-same P cut (take 10 (insert old k n)) (is ∙ ap (λ (l : List code.MissingName). take 10 l) put)
    (All-take P 10 (insert old k n) (All-append P (take k old) (n ∷ drop k old) (All-take P k old are) (All-cons P n (drop k old) one (All-drop P k old are))))

---- the first names

-- one name more, from a place on
pub with_name_front : (xs : List MissingName) (k : ℕ) (n : MissingName) → with_name xs n ≡ take k xs ++ with_name (drop k xs) n
    → (d : MissingName) → k < length xs → d ≡ get_or xs k d → nat_lt d.count n.count ≡ false → with_name xs n ≡ take (k + 1) xs ++ with_name (drop (k + 1) xs) n
with_name_front xs k n is d low at late = is ∙ one xs k low at
  where
    one : (ys : List MissingName) (j : ℕ) → j < length ys → d ≡ get_or ys j d → take j ys ++ with_name (drop j ys) n ≡ take (j + 1) ys ++ with_name (drop (j + 1) ys) n
    one [] j l e = absurd (omega (arith, l))
    one (y ∷ ys) zero l e = ap (λ (b : Bool). cond b (n ∷ y ∷ ys) (y ∷ with_name ys n)) (ap (λ (z : MissingName). nat_lt z.count n.count) (sym e) ∙ late)
    one (y ∷ ys) (suc j) l e =
        let more : suc j + 1 ≡ suc (j + 1) = omega arith in
        ap (λ (zs : List MissingName). y ∷ zs) (one ys j (omega (arith, l)) e)
        ∙ ap (λ (k : ℕ). take k (y ∷ ys) ++ with_name (drop k (y ∷ ys)) n) (sym more)

pub with_name_here : (xs : List MissingName) (k : ℕ) (n : MissingName) → (d : MissingName) → k < length xs → d ≡ get_or xs k d → nat_lt d.count n.count ≡ true
    → with_name (drop k xs) n ≡ n ∷ drop k xs
with_name_here [] k n d low at early = absurd (omega (arith, low))
with_name_here (x ∷ xs) zero n d low at early = ap (λ (b : Bool). cond b (n ∷ x ∷ xs) (x ∷ with_name xs n)) (ap (λ (z : MissingName). nat_lt z.count n.count) (sym at) ∙ early)
with_name_here (x ∷ xs) (suc k) n d low at early = with_name_here xs k n d (omega (arith, low)) at early

pub with_name_end : (xs : List MissingName) (k : ℕ) (n : MissingName) → length xs ≤ k → with_name (drop k xs) n ≡ n ∷ drop k xs
with_name_end [] zero n past = refl
with_name_end [] (suc k) n past = refl
with_name_end (x ∷ xs) zero n past = absurd (omega (arith, past))
with_name_end (x ∷ xs) (suc k) n past = with_name_end xs k n (omega (arith, past))

-- the same of the names that the code has
pub front_more : (ms : List Missing) (items : List code.MissingName) (k : ℕ) (n : MissingName) (d : code.MissingName) → k < length items → n.count ≤ (get_or items k d).count
    → with_name (map (seen_name ms) items) n ≡ take k (map (seen_name ms) items) ++ with_name (drop k (map (seen_name ms) items)) n
    → with_name (map (seen_name ms) items) n ≡ take (k + 1) (map (seen_name ms) items) ++ with_name (drop (k + 1) (map (seen_name ms) items)) n
front_more ms items k n d low late is =
    with_name_front (map (seen_name ms) items) k n is (seen_name ms (get_or items k d)) (omega (arith, low, length-map items (seen_name ms)))
    (sym (get_or-map (seen_name ms) items k d _ low)) (le-ltb (get_or items k d).count n.count late)

pub front_here : (ms : List Missing) (items : List code.MissingName) (k : ℕ) (n : MissingName) (d : code.MissingName) → k < length items → (get_or items k d).count < n.count
    → with_name (map (seen_name ms) items) n ≡ take k (map (seen_name ms) items) ++ with_name (drop k (map (seen_name ms) items)) n
    → with_name (map (seen_name ms) items) n ≡ take k (map (seen_name ms) items) ++ n ∷ drop k (map (seen_name ms) items)
front_here ms items k n d low early is =
    is ∙ ap (λ (l : List MissingName). take k (map (seen_name ms) items) ++ l)
    (with_name_here (map (seen_name ms) items) k n (seen_name ms (get_or items k d)) (omega (arith, low, length-map items (seen_name ms)))
    (sym (get_or-map (seen_name ms) items k d _ low)) (lt-ltb (get_or items k d).count n.count early))

-- of a list that is cut the names that come first are those of the whole list
pub first_of_cut : (k : ℕ) (xs : List MissingName) (n : MissingName) → take k (with_name (take k xs) n) ≡ take k (with_name xs n)
first_of_cut zero xs n = refl
first_of_cut (suc k) [] n = refl
first_of_cut (suc k) (x ∷ xs) n = by (nat_lt x.count n.count) (first_of_cut k xs n)
  where
    again : (j : ℕ) (y : MissingName) (ys : List MissingName) → take j (y ∷ take j ys) ≡ take j (y ∷ ys)
    again zero y ys = refl
    again (suc j) y [] = refl
    again (suc j) y (z ∷ zs) = ap (λ (l : List MissingName). y ∷ l) (again j z zs)

    by : (b : Bool) → take k (with_name (take k xs) n) ≡ take k (with_name xs n)
        → take (suc k) (cond b (n ∷ x ∷ take k xs) (x ∷ with_name (take k xs) n)) ≡ take (suc k) (cond b (n ∷ x ∷ xs) (x ∷ with_name xs n))
    by true rest = ap (λ (l : List MissingName). n ∷ l) (again k x xs)
    by false rest = ap (λ (l : List MissingName). x ∷ l) rest

-- a name that is put among the first ones, of which the last is left out
pub put_among : (ms : List Missing) (old lent new cut : List code.MissingName) (k : ℕ) (n : code.MissingName) → lent ≡ old
    → with_name (map (seen_name ms) lent) (seen_name ms n) ≡ take k (map (seen_name ms) lent) ++ seen_name ms n ∷ drop k (map (seen_name ms) lent)
    → new ≡ insert old k n → cut ≡ take 10 new → map (seen_name ms) cut ≡ take 10 (with_name (map (seen_name ms) old) (seen_name ms n))
put_among ms old lent new cut k n same at put is =
    let f : code.MissingName → MissingName = seen_name ms in
    let here : with_name (map f old) (f n) ≡ take k (map f old) ++ f n ∷ drop k (map f old) =
    subst (λ (l : List code.MissingName). with_name (map f l) (f n) ≡ take k (map f l) ++ f n ∷ drop k (map f l)) same at
    in
    ap (λ (l : List code.MissingName). map f l) is ∙ sym (take-map f 10 new)
    ∙ ap (λ (l : List MissingName). take 10 l)
    (ap (λ (l : List code.MissingName). map f l) put ∙ map-append f (take k old) (n ∷ drop k old)
    ∙ ap₂ (λ (xs ys : List MissingName). xs ++ f n ∷ ys) (sym (take-map f k old)) (sym (drop-map f k old)) ∙ sym here)

-- one name more of those that are gone over
pub first_more : (ms : List Missing) (items lent first new : List code.MissingName) (i : ℕ) (d : code.MissingName) → lent ≡ items → i < length lent
    → map (seen_name ms) first ≡ take 10 (fold with_name [] (map (seen_name ms) (take i items)))
    → map (seen_name ms) new ≡ take 10 (with_name (map (seen_name ms) first) (seen_name ms (get_or lent i d)))
    → map (seen_name ms) new ≡ take 10 (fold with_name [] (map (seen_name ms) (take (i + 1) items)))
first_more ms items lent first new i d same low are is =
    here ∙ ap (λ (l : List MissingName). take 10 (with_name l n)) are ∙ first_of_cut 10 (fold with_name [] (map f (take i items))) n
    ∙ ap (λ (l : List MissingName). take 10 l) (sym more)
  where
    f : code.MissingName → MissingName
    f = seen_name ms

    n : MissingName
    n = f (get_or items i d)

    there : i < length items
    there = subst (λ (l : List code.MissingName). i < length l) same low

    here : map f new ≡ take 10 (with_name (map f first) n)
    here = subst (λ (l : List code.MissingName). map f new ≡ take 10 (with_name (map f first) (f (get_or l i d)))) same is

    more : fold with_name [] (map f (take (i + 1) items)) ≡ with_name (fold with_name [] (map f (take i items))) n
    more =
        ap (λ (l : List MissingName). fold with_name [] l) (sym (take-map f (i + 1) items))
        ∙ fold_more with_name [] (map f items) i (f d) (omega (arith, there, length-map items f))
        ∙ ap₂ (λ (l : List MissingName) (x : MissingName). with_name (fold with_name [] l) x) (take-map f i items) (get_or-map f items i d _ there)

---- how many are listed

length-with_name : (xs : List MissingName) (n : MissingName) → length (with_name xs n) ≡ suc (length xs)
length-with_name [] n = refl
length-with_name (x ∷ xs) n = by (nat_lt x.count n.count) (length-with_name xs n)
  where
    by : (b : Bool) → length (with_name xs n) ≡ suc (length xs) → length (cond b (n ∷ x ∷ xs) (x ∷ with_name xs n)) ≡ suc (suc (length xs))
    by true rest = refl
    by false rest = ap suc rest

length-fold : (xs names : List MissingName) → length (fold with_name xs names) ≡ length xs + length names
length-fold xs [] = omega arith
length-fold xs (n ∷ ns) = omega (arith, length-fold (with_name xs n) ns, length-with_name xs n)

pub length-ranked : (names : List MissingName) → length (ranked names) ≡ length names
length-ranked names = omega (arith, length-fold [] names)

pub listed-le : (n : ℕ) (xs : List MissingName) → length (take n xs) ≤ length xs
listed-le zero xs = omega arith
listed-le (suc n) [] = omega arith
listed-le (suc n) (x ∷ xs) = omega (arith, listed-le n xs)

pub not_listed : (n : ℕ) (xs : List MissingName) → length xs - length (take n xs) ≡ length xs - n
not_listed zero xs = refl
not_listed (suc n) [] = omega arith
not_listed (suc n) (x ∷ xs) = omega (arith, not_listed n xs)

pub few_listed : (ms : List Missing) (items first : List code.MissingName) → map (seen_name ms) first ≡ take 10 (ranked (map (seen_name ms) items)) → length first ≤ length items
few_listed ms items first is =
    let f : code.MissingName → MissingName = seen_name ms in
    let same : length (map f first) ≡ length (take 10 (ranked (map f items))) = ap (λ (l : List MissingName). length l) is in
    omega (arith, same, listed-le 10 (ranked (map f items)), length-map first f, length-ranked (map f items), length-map items f)

pub left_out : (ms : List Missing) (items first : List code.MissingName) (names : List MissingName) → map (seen_name ms) first ≡ take 10 (ranked (map (seen_name ms) items))
    → map (seen_name ms) items ≡ names → length items - length first ≡ length names - 10
left_out ms items first names is named =
    let f : code.MissingName → MissingName = seen_name ms in
    let same : length (map f first) ≡ length (take 10 (ranked (map f items))) = ap (λ (l : List MissingName). length l) is in
    let count : length (map f items) ≡ length names = ap (λ (l : List MissingName). length l) named in
    omega (arith, same, count, not_listed 10 (ranked (map f items)), length-map first f, length-ranked (map f items), length-map items f)
