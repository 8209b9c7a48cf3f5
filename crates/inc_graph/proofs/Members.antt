-- Members of lists of numbers: of a longer list, of a list of one, and by flags.
use Rattle.std.proofs.Common.{◌≡◌, ℕ, zero, suc, ◌+◌, ◌<◌, Bool, true, false, List, [], ◌∷◌, ◌++◌, ◌||◌, All, Some, length, get_or, set, take, replicate, inl, inr, refl, sym, ap, ◌∙◌, subst, add-one, arith, get_or-set_same, get_or-set_other}
use Rattle.std.specs.Prelude.{◌==◌, slice_get}
use Rattle.std.specs.List.{list_any}
use Rattle.std.proofs.Math.Seq.{take-suc}
use Rattle.std.proofs.lemmas.Bool.{cases_eq, cases_lt, eq-eqb, eqb-true, ne_eqb, or_cases, or_left, or_right, false≢true}
use Rattle.std.proofs.lemmas.List.{length-replicate, get_or-replicate, get_or_past}
use Rattle.std.proofs.lemmas.Option.{none-some, same_Some}
use Rattle.std.proofs.lemmas.List.Folds.{list_any-append}
use Rattle.std.proofs.lemmas.List.Elements.{All-head, All-tail}
use Rattle.inc_graph.specs.Members.{is_member}
use Rattle.inc_graph.specs.FileSets.{AreFlags}

or_none : (b : Bool) → (b || false) ≡ b
or_none true = refl
or_none false = refl

-- of a list of one
pub member_of_one : (a f : ℕ) → is_member f (a ∷ []) ≡ (a == f)
member_of_one a f = or_none (a == f)

pub only_member : (a f : ℕ) → is_member f (a ∷ []) ≡ true → a ≡ f
only_member a f is = eqb-true a f (sym (member_of_one a f) ∙ is)

pub is_only : (a f : ℕ) → a ≡ f → is_member f (a ∷ []) ≡ true
is_only a f same = member_of_one a f ∙ eq-eqb a f same

-- what holds of all holds of each
pub member_has : (P : ℕ → Type 0) (ns : List ℕ) (f : ℕ) → All P ns → is_member f ns ≡ true → P f
member_has P [] f each is = absurd (false≢true is)
member_has P (n ∷ ns) f each is =
    elim (or_cases (n == f) (is_member f ns) is) [
      | inl here ↦ subst P (eqb-true n f here) (All-head P n ns each)
      | inr later ↦ member_has P ns f (All-tail P n ns each) later
    ]

-- a member by its place
pub member_place : (ns : List ℕ) (f : ℕ) → is_member f ns ≡ true → (k : ℕ) × (slice_get ns k ≡ Some f)
member_place [] f is = absurd (false≢true is)
member_place (n ∷ ns) f is =
    elim (or_cases (n == f) (is_member f ns) is) [
      | inl here ↦ (0, ap (λ (m : ℕ). Some m) (eqb-true n f here))
      | inr later ↦ let k = member_place ns f later in (suc k.0, k.1)
    ]

pub member_at : (ns : List ℕ) (k f : ℕ) → slice_get ns k ≡ Some f → is_member f ns ≡ true
member_at [] k f at = absurd (none-some f at)
member_at (n ∷ ns) zero f at = or_left (n == f) (is_member f ns) (eq-eqb n f (same_Some n f at))
member_at (n ∷ ns) (suc k) f at = or_right (n == f) (is_member f ns) (member_at ns k f at)

-- a member that passes a test, where some number of the list does, and so the other way round
pub any_member : (p : ℕ → Bool) (ns : List ℕ) → list_any p ns ≡ true → (n : ℕ) × (is_member n ns ≡ true) × (p n ≡ true)
any_member p [] is = absurd (false≢true is)
any_member p (n ∷ ns) is =
    elim (or_cases (p n) (list_any p ns) is) [
      | inl here ↦ (n, or_left (n == n) (is_member n ns) (eq-eqb n n refl), here)
      | inr later ↦ let m = any_member p ns later in (m.0, or_right (n == m.0) (is_member m.0 ns) m.1, m.2)
    ]

pub any_by : (p : ℕ → Bool) (ns : List ℕ) (n : ℕ) → is_member n ns ≡ true → p n ≡ true → list_any p ns ≡ true
any_by p [] n there passes = absurd (false≢true there)
any_by p (m ∷ ms) n there passes =
    elim (or_cases (m == n) (is_member n ms) there) [
      | inl here ↦ or_left (p m) (list_any p ms) (ap p (eqb-true m n here) ∙ passes)
      | inr later ↦ or_right (p m) (list_any p ms) (any_by p ms n later passes)
    ]

---- flags

pub flags_none : (count : ℕ) (flags : List Bool) → flags ≡ replicate count false → AreFlags [] flags
flags_none count flags is f =
    ap (λ (l : List Bool). get_or l f false) is
    ∙ elim (cases_lt f count) [
      | inl low ↦ get_or-replicate count f false false low
      | inr high ↦ get_or_past (replicate count false) f false (omega (arith, high, length-replicate {A = Bool} count false))
    ]

pub flags_more : (files : List ℕ) (i f : ℕ) (flags : List Bool) → i < length files → f ≡ get_or files i f → f < length flags → AreFlags (take i files) flags
    → AreFlags (take (i + 1) files) (set flags f true)
flags_more files i f flags low at within are x =
    let more : take (i + 1) files ≡ take i files ++ f ∷ [] = ap (λ (n : ℕ). take n files) (add-one i) ∙ take-suc files i f low ∙ ap (λ (n : ℕ). take i files ++ n ∷ []) (sym at) in
    let members : is_member x (take (i + 1) files) ≡ (is_member x (take i files) || (f == x)) =
    ap (is_member x) more ∙ list_any-append (λ m. m == x) (take i files) (f ∷ []) ∙ ap (λ b. is_member x (take i files) || b) (member_of_one f x) in
    elim (cases_eq f x) [
      | inl same ↦
          ap (λ (n : ℕ). get_or (set flags f true) n false) (sym same) ∙ get_or-set_same flags f true false within
          ∙ sym (members ∙ or_right (is_member x (take i files)) (f == x) (eq-eqb f x same))
      | inr other ↦
          get_or-set_other flags f x true false (λ e. other (sym e)) ∙ are x
          ∙ sym (members ∙ ap (λ b. is_member x (take i files) || b) (ne_eqb f x other) ∙ or_none (is_member x (take i files)))
    ]
