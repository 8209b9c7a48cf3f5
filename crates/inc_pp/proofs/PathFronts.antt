-- The front of a path, up to its last /.
use Rattle.std.proofs.Common.{◌≡◌, ℕ, zero, suc, ◌+◌, ◌<◌, Bool, true, false, ◌==◌, ◌||◌, List, [], ◌∷◌, Some, None, length, take, ap, ap₂, refl, sym, ◌∙◌, arith}
use Rattle.std.specs.List.{list_any}
use Rattle.std.proofs.lemmas.Bool.{cond-false, cond-true, false_from_ne_true}
use Rattle.memchr.specs.Find.{IsLastByte, Nowhere, Passes, is_byte}
use Rattle.inc_text.specs.Ascii.{slash}
use Rattle.inc_pp.specs.FileNames.{up_to_slash}

abbrev has_slash : List ℕ → Bool
has_slash xs = list_any (λ c. c == slash) xs

has_none : (xs : List ℕ) → Nowhere (Passes (is_byte 47) xs) 0 (length xs) → has_slash xs ≡ false
has_none [] none = refl
has_none (b ∷ bs) none =
    ap₂ (λ (x y : Bool). x || y) (false_from_ne_true _ (none 0 (omega arith) (omega arith)))
    (has_none bs (λ k low high. none (suc k) (omega arith) (omega (arith, high))))

or_true : (x : Bool) → (x || true) ≡ true
or_true true = refl
or_true false = refl

has_at : (xs : List ℕ) (k : ℕ) → k < length xs → Passes (is_byte 47) xs k → has_slash xs ≡ true
has_at [] k low at = absurd (omega arith)
has_at (b ∷ bs) zero low at = ap (λ (x : Bool). x || has_slash bs) at
has_at (b ∷ bs) (suc k) low at =
    ap (λ (x : Bool). (b == slash) || x) (has_at bs k (omega (arith, low)) at) ∙ or_true (b == slash)

front_none : (xs : List ℕ) → has_slash xs ≡ false → up_to_slash xs ≡ []
front_none [] none = refl
front_none (b ∷ bs) none = cond-false _ _ _ none

front_some : (xs : List ℕ) (k : ℕ) → k < length xs → Nowhere (Passes (is_byte 47) xs) (k + 1) (length xs) → Passes (is_byte 47) xs k
    → take (suc k) xs ≡ up_to_slash xs
front_some [] k low after at = absurd (omega arith)
front_some (b ∷ bs) zero low after at =
    sym (cond-true _ _ _ (has_at (b ∷ bs) zero low at)
    ∙ ap (λ (l : List ℕ). b ∷ l) (front_none bs (has_none bs (λ k from high. after (suc k) (omega arith) (omega (arith, high))))))
front_some (b ∷ bs) (suc k) low after at =
    ap (λ (l : List ℕ). b ∷ l) (front_some bs k (omega (arith, low)) (λ i from high. after (suc i) (omega (arith, from)) (omega (arith, high))) at)
    ∙ sym (cond-true _ _ _ (has_at (b ∷ bs) (suc k) low at))

pub front-before : (path : List ℕ) (k : ℕ) → IsLastByte (is_byte 47) path (Some k) → take (k + 1) path ≡ up_to_slash path
front-before path k last =
    let next : k + 1 ≡ suc k = omega arith in
    ap (λ (n : ℕ). take n path) next ∙ front_some path k last.0.high last.0.after last.1

pub front-missing : (path : List ℕ) → IsLastByte (is_byte 47) path None → [] ≡ up_to_slash path
front-missing path none = sym (front_none path (has_none path none))
