-- What an #include_next finds, of all that its name finds in the directories of the include path.
use Rattle.std.proofs.Common.{◌≡◌, ℕ, zero, suc, ◌+◌, ◌<◌, ◌≤◌, Bool, true, false, cond, List, [], ◌∷◌, ◌++◌, ◌-◌, Option, Some, None, length, get_or, drop, map, refl, ap, sym, ◌∙◌, subst, arith, zero-add, add-one, drop-drop, length-drop}
use Rattle.std.specs.Prelude.{leb, filter_map, slice_get, option_map, IfSome}
use Rattle.std.specs.List.{cons_option}
use Rattle.std.specs.List.Sorted.{IsPartitionedBy, IsPartitionPoint}
use Rattle.std.specs.Option.{option_map_or}
use Rattle.std.proofs.lemmas.Bool.{leb-true, le-leb, lt-leb}
use Rattle.std.proofs.lemmas.List.{append_assoc}
use Rattle.std.proofs.lemmas.Option.{none-some, same_Some, slice_get-get_or, slice_get_past}
use Rattle.inc_lookup.specs.declared.projects.Form.{Form}
use Rattle.inc_lookup.specs.declared.projects.Found.{Found}
use Rattle.inc_lookup.specs.Paths.{is_absolute}
use Rattle.inc_lookup.specs.Projects.{Layout, path_at, path_from, spot_of, joined_path, found_as, found_at, found_place, first_some}
use Rattle.inc_graph.specs.Nexts.{Next, hits_from, next_at, is_past, AreRising, first_hit, next_found}

---- in directories, of which the first is at a place

abbrev hits_in : List (List ℕ) → List ℕ → ℕ → List (List ℕ) → List Found
hits_in paths name a ds = filter_map (found_at paths) (map (spot_of name) (path_from a ds))

abbrev first_in : List (List ℕ) → List ℕ → ℕ → List (List ℕ) → Option Found
first_in paths name a ds = first_some (map (found_at paths) (map (spot_of name) (path_from a ds)))

-- a hit in the directory at a place
abbrev hit_at : ℕ → ℕ → Found
hit_at a f = record { file = f; next = Some (a + 1) }

-- all are from the place on
later : (paths : List (List ℕ)) (name : List ℕ) (k a : ℕ) (ds : List (List ℕ)) → k ≤ a → first_hit k (hits_in paths name a ds) ≡ first_in paths name a ds
later paths name k a [] low = refl
later paths name k a (d ∷ ds) low = by_found (found_as paths (joined_path d name)) (later paths name k (a + 1) ds (omega arith))
  where
    by_found : (o : Option ℕ) → first_hit k (hits_in paths name (a + 1) ds) ≡ first_in paths name (a + 1) ds
        → first_hit k (cons_option (option_map (hit_at a) o) (hits_in paths name (a + 1) ds)) ≡ first_some (option_map (hit_at a) o ∷ map (found_at paths) (map (spot_of name) (path_from (a + 1) ds)))
    by_found None rest = rest
    by_found (Some f) rest = ap (λ (b : Bool). cond b (first_hit k (hits_in paths name (a + 1) ds)) (Some (hit_at a f))) (lt-leb (a + 1) k (omega arith))

-- some are before the place
skip : (paths : List (List ℕ)) (name : List ℕ) (n k a : ℕ) (ds : List (List ℕ)) → k ≡ a + n → first_hit k (hits_in paths name a ds) ≡ first_in paths name k (drop n ds)
skip paths name zero k a ds is =
    let same : a ≡ k = omega (arith, is) in
    later paths name k a ds (omega arith) ∙ ap (λ (j : ℕ). first_in paths name j ds) same
skip paths name (suc n) k a [] is = refl
skip paths name (suc n) k a (d ∷ ds) is = by_found (found_as paths (joined_path d name)) (skip paths name n k (a + 1) ds (omega (arith, is)))
  where
    by_found : (o : Option ℕ) → first_hit k (hits_in paths name (a + 1) ds) ≡ first_in paths name k (drop n ds)
        → first_hit k (cons_option (option_map (hit_at a) o) (hits_in paths name (a + 1) ds)) ≡ first_in paths name k (drop n ds)
    by_found None rest = rest
    by_found (Some f) rest = ap (λ (b : Bool). cond b (first_hit k (hits_in paths name (a + 1) ds)) (Some (hit_at a f))) (le-leb (a + 1) k (omega (arith, is))) ∙ rest

-- the one file that an absolute name names
abbrev one_at : ℕ → Found
one_at f = record { file = f; next = None }

alone : (k : ℕ) (o : Option ℕ) → first_hit k (cons_option (option_map one_at o) []) ≡ first_some (option_map one_at o ∷ [])
alone k None = refl
alone k (Some f) = refl

pub hits_find : (layout : Layout) (file index : ℕ) (form : Form) (name : List ℕ) (next : Option ℕ) → next_found (next_at layout file index form name) next ≡ found_place layout (path_at layout file) form next name
hits_find layout file index form name None = refl
hits_find layout file index form name (Some k) = by_name (is_absolute name)
  where
    by_name : (b : Bool)
        → first_hit k (filter_map (found_at layout.paths) (cond b (record { path = name; next = None } ∷ []) (map (spot_of name) (path_from 0 (drop 0 layout.search.dirs)))))
        ≡ first_some (map (found_at layout.paths) (cond b (record { path = name; next = None } ∷ []) (map (spot_of name) (path_from k (drop k layout.search.dirs)))))
    by_name true = alone k (found_as layout.paths name)
    by_name false = skip layout.paths name k k 0 layout.search.dirs (sym (zero-add k))

---- their order

-- each is in a directory after the one before it, the first at this place or later
abbrev Rises : ℕ → List Found → Type 0
Rises least [] = Unit {0}
Rises least (h ∷ hs) = (n : ℕ) × (h.next ≡ Some n) × (least ≤ n) × Rises n hs

rises_lower : (low least : ℕ) (hs : List Found) → low ≤ least → Rises least hs → Rises low hs
rises_lower low least [] le r = tt
rises_lower low least (h ∷ hs) le r = (r.0, r.1, omega (arith, r.2), r.3)

rises_in : (paths : List (List ℕ)) (name : List ℕ) (a : ℕ) (ds : List (List ℕ)) → Rises (a + 1) (hits_in paths name a ds)
rises_in paths name a [] = tt
rises_in paths name a (d ∷ ds) = by_found (found_as paths (joined_path d name)) (rises_lower (a + 1) (a + 1 + 1) (hits_in paths name (a + 1) ds) (omega arith) (rises_in paths name (a + 1) ds))
  where
    by_found : (o : Option ℕ) → Rises (a + 1) (hits_in paths name (a + 1) ds) → Rises (a + 1) (cons_option (option_map (hit_at a) o) (hits_in paths name (a + 1) ds))
    by_found None rest = rest
    by_found (Some f) rest = (a + 1, refl, omega arith, rest)

past_is : (k n : ℕ) (h : Found) → h.next ≡ Some n → is_past k h ≡ leb n k
past_is k n h is = ap (λ (o : Option ℕ). option_map_or (λ (m : ℕ). leb m k) o false) is

least_past : (k least : ℕ) (hs : List Found) (j : ℕ) (d : Found) → Rises least hs → j < length hs → is_past k (get_or hs j d) ≡ true → least ≤ k
least_past k least [] j d r low past = absurd (omega arith)
least_past k least (h ∷ hs) zero d r low past = let at = leb-true r.0 k (sym (past_is k r.0 h r.1) ∙ past) in omega (arith, at, r.2)
least_past k least (h ∷ hs) (suc j) d r low past = let at = least_past k r.0 hs j d r.3 (omega arith) past in omega (arith, at, r.2)

parted : (k least : ℕ) (hs : List Found) → Rises least hs → IsPartitionedBy (is_past k) hs
parted k least [] r i j d le low past = absurd (omega arith)
parted k least (h ∷ hs) r zero zero d le low past = past
parted k least (h ∷ hs) r zero (suc j) d le low past = past_is k r.0 h r.1 ∙ le-leb r.0 k (least_past k r.0 hs j d r.3 (omega arith) past)
parted k least (h ∷ hs) r (suc i) zero d le low past = absurd (omega arith)
parted k least (h ∷ hs) r (suc i) (suc j) d le low past = parted k r.0 hs r.3 i j d (omega arith) (omega arith) past

one_parted : (k : ℕ) (o : Option ℕ) → IsPartitionedBy (is_past k) (cons_option (option_map one_at o) [])
one_parted k None i j d le low past = absurd (omega arith)
one_parted k (Some f) zero zero d le low past = past
one_parted k (Some f) i (suc j) d le low past = absurd (omega arith)
one_parted k (Some f) (suc i) zero d le low past = absurd (omega arith)

pub hits_rise : (layout : Layout) (name : List ℕ) → AreRising (hits_from layout name 0)
hits_rise layout name k = by_name (is_absolute name)
  where
    by_name : (b : Bool) → IsPartitionedBy (is_past k) (filter_map (found_at layout.paths) (cond b (record { path = name; next = None } ∷ []) (map (spot_of name) (path_from 0 (drop 0 layout.search.dirs)))))
    by_name true = one_parted k (found_as layout.paths name)
    by_name false = parted k 1 (hits_in layout.paths name 0 layout.search.dirs) (rises_in layout.paths name 0 layout.search.dirs)

-- the first that is not past is at the point that parts them
pub hit_there : (k i : ℕ) (hs : List Found) → i ≤ length hs → IsPartitionPoint (λ h. is_past k h ≡ true) (λ h. is_past k h ≡ false) hs i → slice_get hs i ≡ first_hit k hs
hit_there k zero [] low point = refl
hit_there k zero (h ∷ hs) low point = sym (ap (λ (b : Bool). cond b (first_hit k hs) (Some h)) (point.1 0 h (omega arith) (omega arith)))
hit_there k (suc i) [] low point = absurd (omega arith)
hit_there k (suc i) (h ∷ hs) low point =
    hit_there k i hs (omega arith) (λ j d from to. point.0 (suc j) d (omega arith) (omega arith), λ j d from to. point.1 (suc j) d (omega arith) (omega arith))
    ∙ sym (ap (λ (b : Bool). cond b (first_hit k hs) (Some h)) (point.0 0 h (omega arith) (omega arith)))

---- one after the other

drop_later : (n : ℕ) (x : List ℕ) (xs : List (List ℕ)) → drop (n + 1) (x ∷ xs) ≡ drop n xs
drop_later n x xs = ap (λ (m : ℕ). drop m (x ∷ xs)) (add-one n)

plus_one : (a b : ℕ) → a + (b + 1) ≡ a + b + 1
plus_one a b = omega arith

-- those that are left, once the search goes on with this directory or nowhere
abbrev pub hits_left : Layout → List ℕ → Option ℕ → List Found
hits_left layout name None = []
hits_left layout name (Some k) = hits_from layout name k

-- the first of them, and those after it
record IsFirst (paths : List (List ℕ)) (name : List ℕ) (a : ℕ) (ds : List (List ℕ)) (h : Found) : Type 0 where
  passed : ℕ
  within : passed < length ds
  goes_on : h.next ≡ Some (a + passed + 1)
  rest : hits_in paths name a ds ≡ h ∷ hits_in paths name (a + passed + 1) (drop (passed + 1) ds)

is_first : (paths : List (List ℕ)) (name : List ℕ) (a : ℕ) (ds : List (List ℕ)) (h : Found) → first_in paths name a ds ≡ Some h → IsFirst paths name a ds h
is_first paths name a [] h is = absurd (none-some h is)
is_first paths name a (d ∷ ds) h is = by_found (found_as paths (joined_path d name)) refl is (λ e. is_first paths name (a + 1) ds h e)
  where
    by_found : (o : Option ℕ) → found_as paths (joined_path d name) ≡ o → first_some (option_map (hit_at a) o ∷ map (found_at paths) (map (spot_of name) (path_from (a + 1) ds))) ≡ Some h
        → (first_in paths name (a + 1) ds ≡ Some h → IsFirst paths name (a + 1) ds h) → IsFirst paths name a (d ∷ ds) h
    by_found None e first more =
        let f = more first in
        let same : a + 1 + f.passed + 1 ≡ a + (f.passed + 1) + 1 = omega arith in
        record {
          passed = f.passed + 1;
          within = omega (arith, f.within);
          goes_on = f.goes_on ∙ ap (λ (n : ℕ). Some n) same;
          rest = ap (λ (o : Option ℕ). cons_option (option_map (hit_at a) o) (hits_in paths name (a + 1) ds)) e ∙ f.rest
              ∙ ap (λ (n : ℕ). h ∷ hits_in paths name n (drop (f.passed + 1) ds)) same ∙ ap (λ (l : List (List ℕ)). h ∷ hits_in paths name (a + (f.passed + 1) + 1) l) (sym (drop_later (f.passed + 1) d ds));
        }
    by_found (Some f) e first more =
        let same : hit_at a f ≡ h = same_Some (hit_at a f) h first in
        let at : a + 1 ≡ a + 0 + 1 = omega arith in
        record {
          passed = 0;
          within = omega arith;
          goes_on = ap (λ (x : Found). x.next) (sym same) ∙ ap (λ (n : ℕ). Some n) at;
          rest = ap (λ (o : Option ℕ). cons_option (option_map (hit_at a) o) (hits_in paths name (a + 1) ds)) e ∙ ap (λ (x : Found). x ∷ hits_in paths name (a + 1) ds) same
              ∙ ap (λ (n : ℕ). h ∷ hits_in paths name n ds) at;
        }

none_in : (paths : List (List ℕ)) (name : List ℕ) (a : ℕ) (ds : List (List ℕ)) → first_in paths name a ds ≡ None → hits_in paths name a ds ≡ []
none_in paths name a [] is = refl
none_in paths name a (d ∷ ds) is = by_found (found_as paths (joined_path d name)) is (λ e. none_in paths name (a + 1) ds e)
  where
    by_found : (o : Option ℕ) → first_some (option_map (hit_at a) o ∷ map (found_at paths) (map (spot_of name) (path_from (a + 1) ds))) ≡ None
        → (first_in paths name (a + 1) ds ≡ None → hits_in paths name (a + 1) ds ≡ []) → cons_option (option_map (hit_at a) o) (hits_in paths name (a + 1) ds) ≡ []
    by_found None e more = more e
    by_found (Some f) e more = absurd (none-some (hit_at a f) (sym e))

-- where the search goes on after a hit, and what is left then
pub record IsNext (layout : Layout) (name : List ℕ) (k : ℕ) (h : Found) : Type 0 where
  pub left : hits_from layout name k ≡ h ∷ hits_left layout name h.next
  pub later : IfSome h.next (λ (j : ℕ). (k < j) × (j ≤ length layout.search.dirs))

one_left : (layout : Layout) (name : List ℕ) (h : Found) (o : Option ℕ) → first_some (option_map one_at o ∷ []) ≡ Some h
    → (cons_option (option_map one_at o) [] ≡ h ∷ []) × (h.next ≡ None)
one_left layout name h None is = absurd (none-some h is)
one_left layout name h (Some f) is =
    let same = same_Some (one_at f) h is in
    (ap (λ (x : Found). x ∷ []) same, ap (λ (x : Found). x.next) (sym same))

if_some : (P : ℕ → Type 0) (o : Option ℕ) (n : ℕ) → o ≡ Some n → P n → IfSome o P
if_some P o n is p = subst (λ (x : Option ℕ). IfSome x P) (sym is) p

pub hit_next : (layout : Layout) (from : List ℕ) (form : Form) (name : List ℕ) (k : ℕ) (h : Found) → k ≤ length layout.search.dirs → found_place layout from form (Some k) name ≡ Some h → IsNext layout name k h
hit_next layout from form name k h low is = by_name (is_absolute name) refl is
  where
    by_name : (b : Bool) → is_absolute name ≡ b → first_some (map (found_at layout.paths) (cond b (record { path = name; next = None } ∷ []) (map (spot_of name) (path_from k (drop k layout.search.dirs))))) ≡ Some h
        → IsNext layout name k h
    by_name true e first =
        let one = one_left layout name h (found_as layout.paths name) first in
        record {
          left = ap (λ (b : Bool). filter_map (found_at layout.paths) (cond b (record { path = name; next = None } ∷ []) (map (spot_of name) (path_from k (drop k layout.search.dirs))))) e ∙ one.0
              ∙ ap (λ (o : Option ℕ). h ∷ hits_left layout name o) (sym one.1);
          later = subst (λ (o : Option ℕ). IfSome o (λ (j : ℕ). (k < j) × (j ≤ length layout.search.dirs))) (sym one.1) tt;
        }
    by_name false e first =
        let f = is_first layout.paths name k (drop k layout.search.dirs) h first in
        let j : ℕ = k + f.passed + 1 in
        let long = length-drop k layout.search.dirs in
        let rest : drop (f.passed + 1) (drop k layout.search.dirs) ≡ drop j layout.search.dirs = drop-drop (f.passed + 1) k layout.search.dirs ∙ ap (λ (n : ℕ). drop n layout.search.dirs) (plus_one k f.passed) in
        record {
          left = ap (λ (b : Bool). filter_map (found_at layout.paths) (cond b (record { path = name; next = None } ∷ []) (map (spot_of name) (path_from k (drop k layout.search.dirs))))) e ∙ f.rest
              ∙ ap (λ (l : List (List ℕ)). h ∷ hits_in layout.paths name j l) rest
              ∙ ap (λ (b : Bool). h ∷ filter_map (found_at layout.paths) (cond b (record { path = name; next = None } ∷ []) (map (spot_of name) (path_from j (drop j layout.search.dirs))))) (sym e)
              ∙ ap (λ (o : Option ℕ). h ∷ hits_left layout name o) (sym f.goes_on);
          later = if_some (λ (n : ℕ). (k < n) × (n ≤ length layout.search.dirs)) h.next j f.goes_on (omega arith, omega (arith, f.within, long, low));
        }

pub hit_none : (layout : Layout) (from : List ℕ) (form : Form) (name : List ℕ) (k : ℕ) → found_place layout from form (Some k) name ≡ None → hits_from layout name k ≡ []
hit_none layout from form name k is = by_name (is_absolute name) refl is
  where
    by_one : (o : Option ℕ) → first_some (option_map one_at o ∷ []) ≡ None → cons_option (option_map one_at o) [] ≡ []
    by_one None e = refl
    by_one (Some f) e = absurd (none-some (one_at f) (sym e))

    by_name : (b : Bool) → is_absolute name ≡ b → first_some (map (found_at layout.paths) (cond b (record { path = name; next = None } ∷ []) (map (spot_of name) (path_from k (drop k layout.search.dirs))))) ≡ None
        → hits_from layout name k ≡ []
    by_name true e first =
        ap (λ (b : Bool). filter_map (found_at layout.paths) (cond b (record { path = name; next = None } ∷ []) (map (spot_of name) (path_from k (drop k layout.search.dirs))))) e ∙ by_one (found_as layout.paths name) first
    by_name false e first =
        ap (λ (b : Bool). filter_map (found_at layout.paths) (cond b (record { path = name; next = None } ∷ []) (map (spot_of name) (path_from k (drop k layout.search.dirs))))) e ∙ none_in layout.paths name k (drop k layout.search.dirs) first

---- as the code has them

low_left : (layout : Layout) (left : Option ℕ) (k : ℕ) → left ≡ Some k → IfSome left (λ (j : ℕ). j ≤ length layout.search.dirs) → k ≤ length layout.search.dirs
low_left layout left k is h = subst (λ (o : Option ℕ). IfSome o (λ (j : ℕ). j ≤ length layout.search.dirs)) is h

-- how far the search has to go
abbrev pub hits_measure : ℕ → Option ℕ → ℕ
hits_measure dirs None = 0
hits_measure dirs (Some k) = dirs + 1 - k

smaller_by : (dirs k : ℕ) (next : Option ℕ) → k ≤ dirs → IfSome next (λ (j : ℕ). (k < j) × (j ≤ dirs)) → hits_measure dirs next < dirs + 1 - k
smaller_by dirs k None low h = omega arith
smaller_by dirs k (Some j) low h = omega (arith, h.0, h.1)

module _ (layout : Layout) (from : List ℕ) (form : Form) (name : List ℕ) (left : Option ℕ) (k : ℕ) (is : left ≡ Some k) (within : IfSome left (λ (j : ℕ). j ≤ length layout.search.dirs)) where
  pub smaller : (h : Found) → found_place layout from form (Some k) name ≡ Some h → hits_measure (length layout.search.dirs) h.next < hits_measure (length layout.search.dirs) left
  smaller h found =
      let low = low_left layout left k is within in
      subst (λ (o : Option ℕ). hits_measure (length layout.search.dirs) h.next < hits_measure (length layout.search.dirs) o) (sym is)
      (smaller_by (length layout.search.dirs) k h.next low (hit_next layout from form name k h low found).later)

  later_within : (o : Option ℕ) → IfSome o (λ (j : ℕ). (k < j) × (j ≤ length layout.search.dirs)) → IfSome o (λ (j : ℕ). j ≤ length layout.search.dirs)
  later_within None h = tt
  later_within (Some j) h = h.1

  pub next_within : (h : Found) → found_place layout from form (Some k) name ≡ Some h → IfSome h.next (λ (j : ℕ). j ≤ length layout.search.dirs)
  next_within h found = later_within h.next (hit_next layout from form name k h (low_left layout left k is within) found).later

  pub hit_pushed : (hits new all : List Found) (h : Found) → found_place layout from form (Some k) name ≡ Some h → new ≡ hits ++ h ∷ [] → hits ++ hits_left layout name left ≡ all
      → new ++ hits_left layout name h.next ≡ all
  hit_pushed hits new all h found pushed so_far =
      ap (λ (l : List Found). l ++ hits_left layout name h.next) pushed
      ∙ append_assoc hits (h ∷ []) (hits_left layout name h.next)
      ∙ ap (λ (l : List Found). hits ++ l) (sym (hit_next layout from form name k h (low_left layout left k is within) found).left)
      ∙ ap (λ (o : Option ℕ). hits ++ hits_left layout name o) (sym is)
      ∙ so_far

  pub no_hit : (hits all : List Found) → found_place layout from form (Some k) name ≡ None → hits ++ hits_left layout name left ≡ all → hits ++ [] ≡ all
  no_hit hits all none so_far =
      ap (λ (l : List Found). hits ++ l) (sym (hit_none layout from form name k none)) ∙ ap (λ (o : Option ℕ). hits ++ hits_left layout name o) (sym is) ∙ so_far

module _ (self : Next) (next : Option ℕ) (k i : ℕ) (hits one two : List Found) (is : next ≡ Some k) (own : hits ≡ self.hits) (first : one ≡ hits) (second : two ≡ hits) (bound : i ≤ length one)
    (point : IsPartitionPoint (λ h. is_past k h ≡ true) (λ h. is_past k h ≡ false) one i) where
  at_point : slice_get two i ≡ next_found self next
  at_point =
      ap (λ (l : List Found). slice_get l i) (second ∙ sym first) ∙ hit_there k i one bound point ∙ ap (first_hit k) (first ∙ own) ∙ ap (next_found self) (sym is)

  pub hit_found : (h : Found) → i < length two → h ≡ get_or two i h → Some h ≡ next_found self next
  hit_found h low at = sym (slice_get-get_or two i h low ∙ ap (λ (x : Found). Some x) (sym at)) ∙ at_point

  pub no_hit_found : length two ≤ i → None ≡ next_found self next
  no_hit_found past = sym (slice_get_past two i past) ∙ at_point
