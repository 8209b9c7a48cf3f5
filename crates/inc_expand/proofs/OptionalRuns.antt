-- Lists of places and tokens that are made one by one.
use Rattle.std.proofs.Common.{◌≡◌, ℕ, ◌+◌, ◌<◌, ◌≤◌, ◌||◌, Bool, true, false, cond, List, [], ◌∷◌, ◌++◌, drop, take, get_or, length, slice_get, Option, Some, sym, ap, ◌∙◌, arith, append_assoc}
use Rattle.std.specs.List.{list_any}
use Rattle.std.specs.Prelude.{if◌then◌else◌}
use Rattle.std.proofs.lemmas.List.{append-nil, drop_all, length-map, map-append, take_all, take_more}
use Rattle.std.proofs.lemmas.Option.{slice_get_within, get_or_from_slice_get}
use Rattle.inc_macro.specs.Macros.{depth_at, is_match}
use Rattle.inc_macro.specs.declared.roles.Role.{Role}
use Rattle.inc_macro.proofs.BodyCommas.{drop-later}
use Rattle.inc_expand.specs.declared.body_elements.Element.{Element as ElementEnum}
use Rattle.inc_expand.specs.declared.body_elements.Place.{Place as PlaceEnum}
use Rattle.inc_expand.specs.declared.carried.Carried.{Carried}
use Rattle.inc_expand.specs.declared.pastes.Segment.{Segment}
use Rattle.inc_expand.specs.Elements.{Element, Word, Glue, Silent, StringOf, AsWritten, Expanded, Comma, Optional, Kept, Empty, Made}
use Rattle.inc_expand.specs.ElementValues.{element_value, element_values, place_value, place_values}
use Rattle.inc_expand.specs.Expansion.{Argument, goes_with, has_tokens, inside, kept, own_spelling, standing, stands}
use Rattle.inc_expand.specs.Joins.{segment_tokens, tokens_in}
use Rattle.inc_expand.specs.Optionals.{is_optional_role, optional_of}
use Rattle.inc_expand.proofs.CallSteps.{drop-at}
use Rattle.inc_expand.proofs.ElementSteps.{place-at}
use Rattle.inc_expand.proofs.JoinSteps.{tokens_in-append}

pub next-at : {X : Type 0} (xs : List X) (i : ℕ) (x : X) → slice_get xs i ≡ Some x → drop i xs ≡ x ∷ drop (i + 1) xs
next-at xs i x g = drop-at xs i x (slice_get_within xs i x g) ∙ ap (λ y. y ∷ drop (i + 1) xs) (get_or_from_slice_get xs i x x g)

-- whether one of them is here or behind
pub any-here : (rs : List Role) (i : ℕ) (r : Role) (b : Bool) → slice_get rs i ≡ Some r → b ≡ is_optional_role r
    → list_any is_optional_role rs ≡ list_any is_optional_role (drop i rs) → list_any is_optional_role rs ≡ (b || list_any is_optional_role (drop (i + 1) rs))
any-here rs i r b here is all =
    all ∙ ap (list_any is_optional_role) (next-at rs i r here) ∙ ap (λ x. x || list_any is_optional_role (drop (i + 1) rs)) (sym is)

---- one more of a list

pub pushed : {X : Type 0} (old ts mid new : List X) (i : ℕ) (x : X) → i < length ts → get_or ts i x ≡ x → mid ≡ old ++ take i ts → new ≡ mid ++ x ∷ []
    → new ≡ old ++ take (i + 1) ts
pushed old ts mid new i x less here before is =
    is ∙ ap (λ xs. xs ++ x ∷ []) before ∙ append_assoc old (take i ts) (x ∷ [])
    ∙ ap (λ xs. old ++ xs) (ap (λ y. take i ts ++ y ∷ []) (sym here) ∙ sym (take_more ts i x less))

pub pushed-all : {X : Type 0} (old ts mid : List X) (i : ℕ) → length ts ≤ i → mid ≡ old ++ take i ts → mid ≡ old ++ ts
pushed-all old ts mid i over is = is ∙ ap (λ xs. old ++ xs) (take_all i ts over)

pub segment-pushed : (xs : List Segment) (mid new : List Carried) (i : ℕ) (x : Segment) → i < length xs → mid ≡ tokens_in (take i xs) → new ≡ mid ++ segment_tokens (get_or xs i x)
    → new ≡ tokens_in (take (i + 1) xs)
segment-pushed xs mid new i x less before is =
    is ∙ ap (λ ts. ts ++ segment_tokens (get_or xs i x)) before
    ∙ ap (λ ts. tokens_in (take i xs) ++ ts) (sym (append-nil (segment_tokens (get_or xs i x))))
    ∙ sym (tokens_in-append (take i xs) (get_or xs i x ∷ [])) ∙ ap tokens_in (sym (take_more xs i x less))

pub segments-all : (xs : List Segment) (mid : List Carried) (i : ℕ) → length xs ≤ i → mid ≡ tokens_in (take i xs) → mid ≡ tokens_in xs
segments-all xs mid i over is = is ∙ ap tokens_in (take_all i xs over)

pub element-pushed : (old new : List ElementEnum) (e : ElementEnum) → new ≡ old ++ e ∷ [] → element_values new ≡ element_values old ++ element_value e ∷ []
element-pushed old new e is = ap element_values is ∙ map-append element_value old (e ∷ [])

pub place-pushed : (old new : List PlaceEnum) (p : PlaceEnum) → new ≡ old ++ p ∷ [] → place_values new ≡ place_values old ++ place_value p ∷ []
place-pushed old new p is = ap place_values is ∙ map-append place_value old (p ∷ [])

---- what is in the parentheses

module _ (es : List Element) (i : ℕ) (e : Element) (deep : ℕ) (text : List ℕ) (m : Bool) (here : slice_get es i ≡ Some e) (text_is : text ≡ own_spelling e)
    (m_is : m ≡ is_match deep text) where
  inside-at : inside deep (drop i es) ≡ cond m [] (kept e ∷ inside (depth_at deep text) (drop (i + 1) es))
  inside-at =
      ap (inside deep) (place-at es i e here)
      ∙ ap (λ t. cond (is_match deep t) [] (kept e ∷ inside (depth_at deep t) (drop (i + 1) es))) (sym text_is)
      ∙ ap (λ b. cond b [] (kept e ∷ inside (depth_at deep text) (drop (i + 1) es))) (sym m_is)

  pub inside-closed : (front all : List Element) → m ≡ true → front ++ inside deep (drop i es) ≡ all → front ≡ all
  inside-closed front all closed is =
      sym (append-nil front) ∙ ap (λ xs. front ++ xs) (sym (inside-at ∙ ap (λ b. cond b [] (kept e ∷ inside (depth_at deep text) (drop (i + 1) es))) closed)) ∙ is

  pub inside-more : (front all new : List Element) (d : ℕ) (k : Element) → m ≡ false → d ≡ depth_at deep text → k ≡ kept e → new ≡ front ++ k ∷ []
      → front ++ inside deep (drop i es) ≡ all → new ++ inside d (drop (i + 1) es) ≡ all
  inside-more front all new d k other d_is k_is new_is is =
      ap (λ xs. xs ++ inside d (drop (i + 1) es)) new_is
      ∙ append_assoc front (k ∷ []) (inside d (drop (i + 1) es))
      ∙ ap (λ x. front ++ x ∷ inside d (drop (i + 1) es)) k_is
      ∙ ap (λ n. front ++ kept e ∷ inside n (drop (i + 1) es)) d_is
      ∙ ap (λ xs. front ++ xs) (sym (inside-at ∙ ap (λ b. cond b [] (kept e ∷ inside (depth_at deep text) (drop (i + 1) es))) other)) ∙ is

pub inside-over : (es : List Element) (i deep : ℕ) (front all : List Element) → length es ≤ i → front ++ inside deep (drop i es) ≡ all → front ≡ all
inside-over es i deep front all over is = sym (append-nil front) ∙ ap (λ xs. front ++ inside deep xs) (sym (drop_all i es over)) ∙ is

---- what stands

optional-is : (e : Element) (hash : Option Bool) (n : ℕ) → optional_of e ≡ Some (hash, n) → e ≡ Optional hash n
optional-is (Word b) hash n h = cc
optional-is Glue hash n h = cc
optional-is Silent hash n h = cc
optional-is (StringOf space m) hash n h = cc
optional-is (AsWritten space m) hash n h = cc
optional-is (Expanded space m) hash n h = cc
optional-is (Comma b m) hash n h = cc
optional-is (Optional g m) hash n h = let both : (g, m) ≡ (hash, n) = cc in ap (λ (p : Option Bool × ℕ). Optional p.0 p.1) both
optional-is (Kept space m) hash n h = cc
optional-is Empty hash n h = cc
optional-is (Made space text) hash n h = cc

module _ (es : List Element) (i : ℕ) (e : Element) (hash : Option Bool) (n : ℕ) (is : optional_of e ≡ Some (hash, n)) (places : List ElementEnum)
    (between : element_values places ≡ inside 0 (drop (i + 2) es)) where
  later : drop 1 (drop (i + 1) es) ≡ drop (i + 2) es
  later = drop-later 1 (i + 1) (i + 2) es (omega arith)

  pub optional-next : i + 2 + length places + 1 ≡ i + 1 + goes_with e (drop (i + 1) es)
  optional-next =
      let same : length (inside 0 (drop 1 (drop (i + 1) es))) ≡ length places = ap (λ xs. length (inside 0 xs)) later ∙ ap length (sym between) ∙ length-map places element_value in
      (let sums : i + 2 + length places + 1 ≡ i + 1 + (2 + length (inside 0 (drop 1 (drop (i + 1) es)))) = omega (arith, same) in sums)
      ∙ ap (λ x. i + 1 + goes_with x (drop (i + 1) es)) (sym (optional-is e hash n is))

  pub optional-stands : (args : List Argument) (held : List Element) → held ≡ (if has_tokens args n then element_values places else [])
      → stands args e (drop (i + 1) es) ≡ standing args hash held
  optional-stands args held held_is =
      ap (λ x. stands args x (drop (i + 1) es)) (optional-is e hash n is)
      ∙ ap (λ xs. standing args hash (if has_tokens args n then inside 0 xs else [])) later
      ∙ ap (λ xs. standing args hash (if has_tokens args n then xs else [])) (sym between)
      ∙ ap (standing args hash) (sym held_is)
