-- Parts that are added to amounts by their keys.
use Rattle.std.proofs.Common.{◌≡◌, ℕ, suc, ◌+◌, ◌<◌, ◌≤◌, true, List, length, set, inl, inr, refl, sym, ap, ◌∙◌, subst, arith, get_or-set_same, get_or-set_other, length-set}
use Rattle.std.specs.Prelude.{slice_index, Some}
use Rattle.std.proofs.lemmas.Bool.{cases_eq, cases_lt, cases_Bool, false≢true}
use Rattle.std.proofs.lemmas.List.{get_or_past}
use Rattle.std.proofs.lemmas.Option.{slice_get-get_or, get_or_from_slice_get}
use Rattle.inc_graph.specs.Members.{is_member}
use Rattle.inc_graph.proofs.Members.{member_place, member_at}
use Rattle.inc_cost.specs.Shares.{AreBelow, AreKeys, AreAdded, AreParts}

-- what has a key is within the list
pub key_within : (keys : List ℕ) (x k : ℕ) → slice_index keys x ≡ suc k → x < length keys
key_within keys x k at = elim (cases_lt x (length keys)) [
  | inl low ↦ low
  | inr high ↦ let none : slice_index keys x ≡ 0 = get_or_past keys x 0 high in absurd (omega arith)
]

pub key_member : (keys : List ℕ) (x k : ℕ) → slice_index keys x ≡ suc k → is_member (suc k) keys ≡ true
key_member keys x k at = member_at keys x (suc k) (slice_get-get_or keys x 0 (key_within keys x k at) ∙ ap (λ (n : ℕ). Some n) at)

pub member_key : (keys : List ℕ) (k : ℕ) → is_member (suc k) keys ≡ true → (x : ℕ) × (slice_index keys x ≡ suc k)
member_key keys k met = let x = member_place keys (suc k) met in (x.0, get_or_from_slice_get keys x.0 (suc k) 0 x.1)

-- the parts of the keys so far are added
pub record AreAddedSoFar (count : ℕ) (keys parts old new : List ℕ) : Type 0 where
  pub long : length new ≡ length old
  pub there : (x k : ℕ) → x < count → slice_index keys x ≡ suc k → slice_index new k ≡ slice_index old k + slice_index parts x
  pub others : (k : ℕ) → ((x : ℕ) → x < count → slice_index keys x ≡ suc k → ⊥) → slice_index new k ≡ slice_index old k
  pub most : (most k : ℕ) → AreBelow most old → AreBelow 281_470_681_677_825 parts → slice_index new k ≤ most + 281_470_681_677_825

pub added_none : (keys parts old : List ℕ) → AreAddedSoFar 0 keys parts old old
added_none keys parts old = record {
  long = refl;
  there = λ x k low at. absurd (omega arith);
  others = λ k none. refl;
  most = λ most k below parts. let b = below k in omega arith;
}

-- a key of 0
pub added_skip : (keys parts old new : List ℕ) (place : ℕ) → slice_index keys place ≡ 0 → AreAddedSoFar place keys parts old new → AreAddedSoFar (place + 1) keys parts old new
added_skip keys parts old new place none are = record {
  long = are.long;
  there = λ x k low at. elim (cases_eq x place) [
    | inl same ↦ let zero_is : slice_index keys x ≡ 0 = ap (slice_index keys) same ∙ none in absurd (omega arith)
    | inr other ↦ are.there x k (omega arith) at
  ];
  others = λ k never. are.others k (λ x low at. never x (omega arith) at);
  most = are.most;
}

-- before it is added
pub added_before : (keys parts old new : List ℕ) (place k : ℕ) → slice_index keys place ≡ suc k → AreKeys (length old) keys → AreAddedSoFar place keys parts old new → (slice_index new k ≡ slice_index old k) × (k < length new)
added_before keys parts old new place k at are so_far = (
  so_far.others k (λ x low also. let same = are.once x place k also at in omega arith),
  (let within = are.within place k at in let long = so_far.long in omega arith),
)

pub added_more : (keys parts old new : List ℕ) (place k sum : ℕ) → slice_index keys place ≡ suc k → AreKeys (length old) keys → sum ≡ slice_index new k + slice_index parts place → AreAddedSoFar place keys parts old new
    → AreAddedSoFar (place + 1) keys parts old (set new k sum)
added_more keys parts old new place k sum at are is so_far =
    let before = added_before keys parts old new place k at are so_far in
    let here : slice_index (set new k sum) k ≡ sum = get_or-set_same new k sum 0 before.1 in
    let apart : (j : ℕ) → (j ≡ k → ⊥) → slice_index (set new k sum) j ≡ slice_index new j = λ j other. get_or-set_other new k j sum 0 other in
    record {
      long = length-set new k sum ∙ so_far.long;
      there = λ x j low at_x. elim (cases_eq j k) [
        | inl same ↦
            let is_place : x ≡ place = are.once x place k (at_x ∙ ap (λ (n : ℕ). suc n) same) at in
            let now : slice_index (set new k sum) j ≡ sum = ap (slice_index (set new k sum)) same ∙ here in
            let was : slice_index old j ≡ slice_index old k = ap (slice_index old) same in
            let part : slice_index parts x ≡ slice_index parts place = ap (slice_index parts) is_place in
            let as_was = before.0 in
            omega arith
        | inr other ↦ apart j other ∙ so_far.there x j (elim (cases_eq x place) [
          | inl same ↦ let e : slice_index keys x ≡ slice_index keys place = ap (slice_index keys) same in absurd (other (omega arith))
          | inr behind ↦ omega arith
        ]) at_x
      ];
      others = λ j never. elim (cases_eq j k) [
        | inl same ↦ absurd (never place (omega arith) (at ∙ ap (λ (n : ℕ). suc n) (sym same)))
        | inr other ↦ apart j other ∙ so_far.others j (λ x low also. never x (omega arith) also)
      ];
      most = λ most j below few. elim (cases_eq j k) [
        | inl same ↦
            let now : slice_index (set new k sum) j ≡ sum = ap (slice_index (set new k sum)) same ∙ here in
            let as_was = before.0 in
            let b = below k in
            let f = few place in
            omega arith
        | inr other ↦ let same = apart j other in let m = so_far.most most j below few in omega arith
      ];
    }

pub added_all : (count : ℕ) (keys parts old new : List ℕ) → length keys ≤ count → AreAddedSoFar count keys parts old new → AreAdded keys parts old new
added_all count keys parts old new all are = record {
  long = are.long;
  there = λ x k at. are.there x k (let low = key_within keys x k at in omega arith) at;
  others = λ k none. are.others k (λ x low at. false≢true (sym none ∙ key_member keys x k at));
}

---- what is known of the amounts afterwards

pub added_has : (count : ℕ) (Old New Has : ℕ → ℕ → Type 0) (keys parts old new : List ℕ) → ((k n m : ℕ) → Old k n → Has k m → New k (n + m)) → AreParts count Has keys parts → AreAdded keys parts old new
    → ((k : ℕ) → k < count → Old k (slice_index old k)) → (k : ℕ) → k < count → New k (slice_index new k)
added_has count Old New Has keys parts old new more are added each k low = elim (cases_Bool (is_member (suc k) keys)) [
  | inl met ↦
      let x = member_key keys k met in
      subst (New k) (sym (added.there x.0 k x.1)) (more k (slice_index old k) (slice_index parts x.0) (each k low) (are.there x.0 k x.1))
  | inr none ↦
      let same : slice_index old k + 0 ≡ slice_index new k = let s = added.others k none in omega arith in
      subst (New k) same (more k (slice_index old k) 0 (each k low) (are.others k low none))
]
