-- The queue of a search: the places of its files, and its paths.
use Rattle.std.proofs.Common.{◌≡◌, ℕ, zero, suc, ◌+◌, ◌<◌, ◌≤◌, Bool, true, false, not, ◌||◌, List, [], ◌∷◌, ◌++◌, Option, Some, None, is_some, length, get_or, map, take, set, cond, inl, inr, refl, sym, ap, ap₂, ◌∙◌, subst, arith}
use Rattle.std.specs.Prelude.{slice_get, slice_index, slice_index_or, ◌==◌, ◌⊎◌, option_map, option_and_then, IfSome}
use Rattle.std.specs.List.{range_with_len}
use Rattle.std.proofs.lemmas.List.{take_more, length_push, length-set, length-map, get_or-set_other, get_or-set_same}
use Rattle.std.proofs.lemmas.List.Sums.{sum_by-set, count_by-le-length}
use Rattle.std.proofs.lemmas.List.FromFn.{fill_by_all}
use Rattle.std.proofs.lemmas.Option.{none-some, same_Some, slice_get_within}
use Rattle.std.proofs.lemmas.Bool.{cases_eq, cases_lt, eq-eqb, ne_eqb, eqb-true, false≢true}
use Rattle.inc_graph.specs.declared.search.ParentStep.{ParentStep}
use Rattle.inc_graph.specs.declared.search.Visit.{Visit}
use Rattle.inc_graph.specs.Members.{is_member}
use Rattle.inc_graph.specs.Search.{first_place, place_among, parent_at, along, path_to, mark_of, IsFrom, IsKept, earlier_of}
use Rattle.inc_graph.proofs.Lists.{push_last}

---- the first place that passes

none_parts : (b : Bool) (o : Option ℕ) → cond b (Some 0) (option_map suc o) ≡ None → (b ≡ false) × (o ≡ None)
none_parts true o e = absurd (none-some 0 (sym e))
none_parts false None e = (refl, refl)
none_parts false (Some k) e = absurd (none-some (suc k) (sym e))

some_parts : (b : Bool) (o : Option ℕ) (k : ℕ) → cond b (Some 0) (option_map suc o) ≡ Some k → ((b ≡ true) × (0 ≡ k)) ⊎ ((b ≡ false) × (j : ℕ) × (o ≡ Some j) × (suc j ≡ k))
some_parts true o k e = inl (refl, same_Some 0 k e)
some_parts false None k e = absurd (none-some k e)
some_parts false (Some j) k e = inr (refl, j, refl, same_Some (suc j) k e)

pub first_push-none : {S : Type 0} (p : ℕ → Bool) (vs : List (Visit S)) (v : Visit S) → first_place p vs ≡ None → p v.file ≡ true → first_place p (vs ++ v ∷ []) ≡ Some (length vs)
first_push-none p [] v none e = rw e refl
first_push-none p (x ∷ xs) v none e =
    let parts = none_parts (p x.file) (first_place p xs) none in
    rw parts.0 (ap (option_map suc) (first_push-none p xs v parts.1 e))

pub first_push-some : {S : Type 0} (p : ℕ → Bool) (vs : List (Visit S)) (v : Visit S) (k : ℕ) → first_place p vs ≡ Some k → first_place p (vs ++ v ∷ []) ≡ Some k
first_push-some p [] v k e = absurd (none-some k e)
first_push-some p (x ∷ xs) v k e = elim (some_parts (p x.file) (first_place p xs) k e) [
  | inl is ↦ rw is.0 (ap Some is.1)
  | inr is ↦ rw is.0 (ap (option_map suc) (first_push-some p xs v is.1 is.2) ∙ ap Some is.3)
]

pub first_push-other : {S : Type 0} (p : ℕ → Bool) (vs : List (Visit S)) (v : Visit S) → p v.file ≡ false → first_place p (vs ++ v ∷ []) ≡ first_place p vs
first_push-other p [] v e = rw e refl
first_push-other p (x ∷ xs) v e = ap (λ o. cond (p x.file) (Some 0) (option_map suc o)) (first_push-other p xs v e)

pub first_there : {S : Type 0} (p : ℕ → Bool) (vs : List (Visit S)) (k : ℕ) → first_place p vs ≡ Some k → (v : Visit S) × (slice_get vs k ≡ Some v) × (p v.file ≡ true)
first_there p [] k e = absurd (none-some k e)
first_there {S} p (x ∷ xs) k e =
    let P : ℕ → Type 0 = λ n. (v : Visit S) × (slice_get (x ∷ xs) n ≡ Some v) × (p v.file ≡ true) in
    elim (some_parts (p x.file) (first_place p xs) k e) [
      | inl is ↦ subst P is.1 (x, refl, is.0)
      | inr is ↦ let rest = first_there p xs is.1 is.2 in subst P is.3 (rest.0, rest.1, rest.2)
    ]

pub first_none : {S : Type 0} (p : ℕ → Bool) (vs : List (Visit S)) (k : ℕ) (v : Visit S) → first_place p vs ≡ None → slice_get vs k ≡ Some v → p v.file ≡ false
first_none p [] k v none at = absurd (none-some v at)
first_none p (x ∷ xs) zero v none at =
    let parts = none_parts (p x.file) (first_place p xs) none in
    ap (λ (y : Visit _). p y.file) (sym (same_Some x v at)) ∙ parts.0
first_none p (x ∷ xs) (suc k) v none at = first_none p xs k v (none_parts (p x.file) (first_place p xs) none).1 at

-- no visit before it passes
pub first_least : {S : Type 0} (p : ℕ → Bool) (vs : List (Visit S)) (k j : ℕ) (v : Visit S) → first_place p vs ≡ Some k → slice_get vs j ≡ Some v → p v.file ≡ true → k ≤ j
first_least p [] k j v first at passes = absurd (none-some v at)
first_least p (x ∷ xs) k zero v first at passes =
    elim (some_parts (p x.file) (first_place p xs) k first) [
      | inl is ↦ let here = is.1 in omega arith
      | inr is ↦ absurd (false≢true (sym is.0 ∙ ap (λ (y : Visit _). p y.file) (same_Some x v at) ∙ passes))
    ]
first_least p (x ∷ xs) k (suc j) v first at passes =
    elim (some_parts (p x.file) (first_place p xs) k first) [
      | inl is ↦ let here = is.1 in omega arith
      | inr is ↦ let next = is.3 in let low = first_least p xs is.1 j v is.2 at passes in omega arith
    ]

first_never : {S : Type 0} (p : ℕ → Bool) (vs : List (Visit S)) → ((x : ℕ) → p x ≡ false) → first_place p vs ≡ None
first_never p [] never = refl
first_never p (v ∷ vs) never = rw (never v.file) (ap (option_map suc) (first_never p vs never))

pub first_of-none : {S : Type 0} (vs : List (Visit S)) → first_place (λ x. is_member x []) vs ≡ None
first_of-none vs = first_never (λ x. is_member x []) vs (λ x. refl)

earlier-suc : (a b : Option ℕ) → option_map suc (earlier_of a b) ≡ earlier_of (option_map suc a) (option_map suc b)
earlier-suc None b = refl
earlier-suc (Some a) None = refl
earlier-suc (Some a) (Some b) = ap Some (omega arith)

earlier-zero : (b : Option ℕ) → Some 0 ≡ earlier_of (Some 0) b
earlier-zero None = refl
earlier-zero (Some b) = ap Some (omega arith)

earlier-other : (a : Option ℕ) → Some 0 ≡ earlier_of (option_map suc a) (Some 0)
earlier-other None = refl
earlier-other (Some a) = ap Some (omega arith)

either_first : (a b : Bool) (x y : Option ℕ) → cond (a || b) (Some 0) (option_map suc (earlier_of x y)) ≡ earlier_of (cond a (Some 0) (option_map suc x)) (cond b (Some 0) (option_map suc y))
either_first true b x y = earlier-zero (cond b (Some 0) (option_map suc y))
either_first false true x y = earlier-other x
either_first false false x y = earlier-suc x y

first_either : {S : Type 0} (p q r : ℕ → Bool) (vs : List (Visit S)) → ((x : ℕ) → r x ≡ (p x || q x)) → first_place r vs ≡ earlier_of (first_place p vs) (first_place q vs)
first_either p q r [] either = refl
first_either p q r (v ∷ vs) either =
    ap₂ (λ b o. cond b (Some 0) (option_map suc o)) (either v.file) (first_either p q r vs either)
    ∙ either_first (p v.file) (q v.file) (first_place p vs) (first_place q vs)

member_push : (x e : ℕ) (es : List ℕ) → is_member x (es ++ e ∷ []) ≡ (is_member x es || (e == x))
member_push x e [] = or_false (e == x)
  where
    or_false : (b : Bool) → (b || false) ≡ b
    or_false true = refl
    or_false false = refl
member_push x e (y ∷ ys) = ap (λ b. (y == x) || b) (member_push x e ys) ∙ or_assoc (y == x) (is_member x ys) (e == x)
  where
    or_assoc : (a b c : Bool) → (a || (b || c)) ≡ ((a || b) || c)
    or_assoc true b c = refl
    or_assoc false b c = refl

pub first_of-push : {S : Type 0} (vs : List (Visit S)) (es : List ℕ) (e : ℕ) → first_place (λ x. is_member x (es ++ e ∷ [])) vs ≡ earlier_of (first_place (λ x. is_member x es) vs) (place_among vs e)
first_of-push vs es e = first_either (λ x. is_member x es) (λ x. e == x) (λ x. is_member x (es ++ e ∷ [])) vs (λ x. member_push x e es)

-- one end more
pub first_of-more : {S : Type 0} (vs : List (Visit S)) (ends : List ℕ) (i end : ℕ) (first place new : Option ℕ) → i < length ends → end ≡ get_or ends i end → first ≡ first_place (λ x. is_member x (take i ends)) vs
    → place ≡ place_among vs end → new ≡ earlier_of first place → new ≡ first_place (λ x. is_member x (take (i + 1) ends)) vs
first_of-more vs ends i end first place new within is so_far at made =
    let more : take (i + 1) ends ≡ take i ends ++ end ∷ [] = take_more ends i end within ∙ ap (λ e. take i ends ++ e ∷ []) (sym is) in
    made ∙ ap₂ earlier_of so_far at ∙ sym (ap (λ es. first_place (λ x. is_member x es) vs) more ∙ first_of-push vs (take i ends) end)

pub first_of-one : {S : Type 0} (vs : List (Visit S)) (e : ℕ) → first_place (λ x. is_member x (e ∷ [])) vs ≡ place_among vs e
first_of-one vs e = first_of-push vs [] e ∙ ap (λ o. earlier_of o (place_among vs e)) (first_of-none vs)

---- the place of a file

pub place_there : {S : Type 0} (vs : List (Visit S)) (f k : ℕ) → place_among vs f ≡ Some k → (v : Visit S) × (slice_get vs k ≡ Some v) × (v.file ≡ f)
place_there vs f k e = let v = first_there (λ x. f == x) vs k e in (v.0, v.1, sym (eqb-true f v.0.file v.2))

pub place_within : {S : Type 0} (vs : List (Visit S)) (f k : ℕ) → place_among vs f ≡ Some k → k < length vs
place_within vs f k e = let v = place_there vs f k e in slice_get_within vs k v.0 v.1

pub place_push-kept : {S : Type 0} (vs : List (Visit S)) (v : Visit S) (f k : ℕ) → place_among vs f ≡ Some k → place_among (vs ++ v ∷ []) f ≡ Some k
place_push-kept vs v f k e = first_push-some (λ x. f == x) vs v k e

pub place_push-new : {S : Type 0} (vs : List (Visit S)) (v : Visit S) → place_among vs v.file ≡ None → place_among (vs ++ v ∷ []) v.file ≡ Some (length vs)
place_push-new vs v none = first_push-none (λ x. v.file == x) vs v none (eq-eqb v.file v.file refl)

pub place_push-other : {S : Type 0} (vs : List (Visit S)) (v : Visit S) (f : ℕ) → (f ≡ v.file → ⊥) → place_among (vs ++ v ∷ []) f ≡ place_among vs f
place_push-other vs v f other = first_push-other (λ x. f == x) vs v (ne_eqb f v.file other)

---- parent steps and paths

pub parent_is : {S : Type 0} (vs : List (Visit S)) (k : ℕ) (v : Visit S) → slice_get vs k ≡ Some v → parent_at vs k ≡ v.parent
parent_is {S} vs k v at = ap (λ (o : Option (Visit S)). option_and_then (λ (x : Visit S). x.parent) o) at

abbrev pub AreFalling : {S : Type 0} → List (Visit S) → Type 0
AreFalling {S} vs = (k : ℕ) (p : ParentStep S) → parent_at vs k ≡ Some p → p.from < k

at_push : {S : Type 0} (vs : List (Visit S)) (x : Visit S) (k : ℕ) → k < length vs → parent_at (vs ++ x ∷ []) k ≡ parent_at vs k
at_push {S} vs x k low = ap (λ (o : Option (Visit S)). option_and_then (λ (v : Visit S). v.parent) o) (get_push vs x k low)
  where
    get_push : (ys : List (Visit S)) (y : Visit S) (i : ℕ) → i < length ys → slice_get (ys ++ y ∷ []) i ≡ slice_get ys i
    get_push [] y i less = absurd (omega arith)
    get_push (z ∷ zs) y zero less = refl
    get_push (z ∷ zs) y (suc i) less = get_push zs y i (omega arith)

at_end : {S : Type 0} (vs : List (Visit S)) (x : Visit S) → parent_at (vs ++ x ∷ []) (length vs) ≡ x.parent
at_end vs x = parent_is (vs ++ x ∷ []) (length vs) x (push_last vs x)

-- a visit from an earlier place goes to the end
pub falling_push : {S : Type 0} (vs : List (Visit S)) (x : Visit S) → AreFalling vs → IsFrom (length vs) x → AreFalling (vs ++ x ∷ [])
falling_push {S} vs x falls from k p at = elim (cases_lt k (length vs)) [
  | inl low ↦ falls k p (sym (at_push vs x k low) ∙ at)
  | inr past ↦ at_last x.parent past refl from
]
  where
    at_last : (o : Option (ParentStep S)) → length vs ≤ k → x.parent ≡ o → IfSome o (λ (q : ParentStep S). q.from < length vs) → p.from < k
    at_last o past is low = elim (cases_eq k (length vs)) [
      | inl end ↦ by_parent o end low (sym is ∙ sym (at_end vs x) ∙ ap (parent_at (vs ++ x ∷ [])) (sym end) ∙ at)
      | inr other ↦ absurd (beyond (vs ++ x ∷ []) k p (omega (arith, length_push vs x, past, other)) at)
    ]
      where
        by_parent : (r : Option (ParentStep S)) → k ≡ length vs → IfSome r (λ (q : ParentStep S). q.from < length vs) → r ≡ Some p → p.from < k
        by_parent None end less e = absurd (none-some p e)
        by_parent (Some q) end less e =
            let low2 : q.from < length vs = less in
            let same : q.from ≡ p.from = ap (λ (t : ParentStep S). t.from) (same_Some q p e) in
            omega arith

        beyond : (ys : List (Visit S)) (i : ℕ) (q : ParentStep S) → length ys ≤ i → parent_at ys i ≡ Some q → ⊥
        beyond [] i q past2 e = none-some q e
        beyond (y ∷ ys) zero q past2 e = absurd (omega arith)
        beyond (y ∷ ys) (suc i) q past2 e = beyond ys i q (omega arith) e

module _ {S A : Type 0} (begin : ℕ → A) (go : A → ℕ → S → A) where
  -- steps enough are enough
  along_zero : (vs : List (Visit S)) (m k : ℕ) (o : Option (ParentStep S)) → AreFalling vs → k ≤ 0 → parent_at vs k ≡ o → along begin go vs (suc m) k ≡ begin k
  along_zero vs m k None falls low at = rw at refl
  along_zero vs m k (Some p) falls low at = absurd (let less = falls k p at in omega arith)

  along_by : (vs : List (Visit S)) (n m k : ℕ) (o : Option (ParentStep S)) → parent_at vs k ≡ o
      → ((p : ParentStep S) → o ≡ Some p → along begin go vs n p.from ≡ along begin go vs m p.from) → along begin go vs (suc n) k ≡ along begin go vs (suc m) k
  along_by vs n m k None at before = rw at refl
  along_by vs n m k (Some p) at before = rw at (ap (λ (a : A). go a k p.step) (before p refl))

  along_enough : (vs : List (Visit S)) (n m k : ℕ) → AreFalling vs → k ≤ n → k ≤ m → along begin go vs n k ≡ along begin go vs m k
  along_enough vs zero zero k falls low lower = refl
  along_enough vs zero (suc m) k falls low lower = sym (along_zero vs m k (parent_at vs k) falls low refl)
  along_enough vs (suc n) zero k falls low lower = along_zero vs n k (parent_at vs k) falls lower refl
  along_enough vs (suc n) (suc m) k falls low lower =
      along_by vs n m k (parent_at vs k) refl (λ p is. let less = falls k p is in along_enough vs n m p.from falls (omega arith) (omega arith))

  pub along_some : (vs : List (Visit S)) (k : ℕ) (p : ParentStep S) → AreFalling vs → parent_at vs k ≡ Some p → along begin go vs k k ≡ go (along begin go vs p.from p.from) k p.step
  along_some vs k p falls at =
      let less = falls k p at in
      along_enough vs k (suc k) k falls (omega arith) (omega arith)
      ∙ rw at (ap (λ (a : A). go a k p.step) (along_enough vs k p.from p.from falls (omega arith) (omega arith)))

  pub along_none : (vs : List (Visit S)) (k : ℕ) → AreFalling vs → parent_at vs k ≡ None → along begin go vs k k ≡ begin k
  along_none vs k falls at = along_enough vs k (suc k) k falls (omega arith) (omega arith) ∙ rw at refl

  -- and one visit more changes nothing
  push_by : (vs : List (Visit S)) (x : Visit S) (n k : ℕ) (o : Option (ParentStep S)) → k < length vs → parent_at vs k ≡ o
      → ((p : ParentStep S) → o ≡ Some p → along begin go (vs ++ x ∷ []) n p.from ≡ along begin go vs n p.from) → along begin go (vs ++ x ∷ []) (suc n) k ≡ along begin go vs (suc n) k
  push_by vs x n k None low at before = rw (at_push vs x k low, at) refl
  push_by vs x n k (Some p) low at before = rw (at_push vs x k low, at) (ap (λ (a : A). go a k p.step) (before p refl))

  pub along_push : (vs : List (Visit S)) (x : Visit S) (n k : ℕ) → AreFalling vs → k < length vs → along begin go (vs ++ x ∷ []) n k ≡ along begin go vs n k
  along_push vs x zero k falls low = refl
  along_push vs x (suc n) k falls low =
      push_by vs x n k (parent_at vs k) low refl (λ p is. let less = falls k p is in along_push vs x n p.from falls (omega arith))

pub path_some : {S : Type 0} (vs : List (Visit S)) (k : ℕ) (p : ParentStep S) → AreFalling vs → parent_at vs k ≡ Some p → path_to vs k ≡ path_to vs p.from ++ p.step ∷ []
path_some {S} vs k p falls at = along_some (λ j. []) (λ (path : List S) j s. path ++ s ∷ []) vs k p falls at

pub path_none : {S : Type 0} (vs : List (Visit S)) (k : ℕ) → AreFalling vs → parent_at vs k ≡ None → path_to vs k ≡ []
path_none {S} vs k falls at = along_none (λ j. []) (λ (path : List S) j s. path ++ s ∷ []) vs k falls at

---- how places are kept

abbrev is_mark : ℕ → ℕ
is_mark m = cond {A = ℕ} (not (m == 0)) 1 0

pub kept_new : {S : Type 0} (vs : List (Visit S)) (marks : List ℕ) (v : Visit S) (place n : ℕ) → IsKept vs marks → v.file < length marks → IsFrom (length vs) v
    → place ≡ v.file → slice_index marks v.file ≡ 0 → n ≡ length (vs ++ v ∷ []) → IsKept (vs ++ v ∷ []) (set marks place n)
kept_new {S} vs marks v place n kept within from is free long =
    let none : place_among vs v.file ≡ None = unmarked (place_among vs v.file) (sym (kept.placed v.file) ∙ free) in
    let longer = length_push vs v in
    let one : n ≡ suc (length vs) = omega arith in
    let sums = sum_by-set is_mark marks v.file (suc (length vs)) 0 within in
    let was : is_mark (slice_index marks v.file) ≡ 0 = rw free refl in
    let now : is_mark (suc (length vs)) ≡ 1 = rw (ne_eqb (suc (length vs)) 0 (λ e. absurd (omega arith))) refl in
    let count = kept.count in
    rw (is, one) (record {
      few = let l = length-set marks v.file (suc (length vs)) in let few = kept.few in omega arith;
      count = omega arith;
      placed = λ f. elim (cases_eq f v.file) [
        | inl same ↦ rw same (get_or-set_same marks v.file (suc (length vs)) 0 within ∙ sym (ap mark_of (place_push-new vs v none)))
        | inr other ↦ get_or-set_other marks v.file f (suc (length vs)) 0 other ∙ kept.placed f ∙ ap mark_of (sym (place_push-other vs v f other))
      ];
      falling = falling_push vs v kept.falling from;
    })
  where
    unmarked : (o : Option ℕ) → mark_of o ≡ 0 → o ≡ None
    unmarked None e = refl
    unmarked (Some k) e = absurd (omega arith)

-- a file that has no place leaves room for one
pub kept_room : {S : Type 0} (vs : List (Visit S)) (marks : List ℕ) (f : ℕ) → IsKept vs marks → f < length marks → slice_index marks f ≡ 0 → length vs < length marks
kept_room vs marks f kept within free =
    let sums = sum_by-set is_mark marks f 1 0 within in
    let was : is_mark (slice_index marks f) ≡ 0 = rw free refl in
    let most = count_by-le-length (λ m. not (m == 0)) (set marks f 1) in
    let long = length-set marks f 1 in
    let count = kept.count in
    omega arith

pub kept_few : {S : Type 0} (vs : List (Visit S)) (marks : List ℕ) → IsKept vs marks → length vs ≤ length marks
kept_few vs marks kept = let most = count_by-le-length (λ m. not (m == 0)) marks in let count = kept.count in omega arith

-- the flag of a file is whether it is reached
pub kept_reached : {S : Type 0} (vs : List (Visit S)) (marks : List ℕ) → IsKept vs marks → map (λ m. not (m == 0)) marks ≡ map (λ f. is_some (place_among vs f)) (range_with_len 0 (length marks))
kept_reached vs marks kept =
    fill_by_all (λ f. is_some (place_among vs f)) (map (λ m. not (m == 0)) marks) (length marks) false (length-map marks (λ m. not (m == 0)))
    (λ k low. flag_at marks k low ∙ ap (λ m. not (m == 0)) (kept.placed k) ∙ flag (place_among vs k))
  where
    flag_at : (ms : List ℕ) (k : ℕ) → k < length ms → slice_index_or (map (λ m. not (m == 0)) ms) k false ≡ not (slice_index ms k == 0)
    flag_at [] k low = absurd (omega arith)
    flag_at (m ∷ ms) zero low = refl
    flag_at (m ∷ ms) (suc k) low = flag_at ms k (omega arith)

    flag : (o : Option ℕ) → not (mark_of o == 0) ≡ is_some o
    flag None = refl
    flag (Some k) = rw (ne_eqb (suc k) 0 (λ e. absurd (omega arith))) refl
