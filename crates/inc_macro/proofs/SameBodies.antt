-- Bodies that are compared token by token.
use Rattle.std.proofs.Common.{◌≡◌, ℕ, zero, suc, ◌&&◌, Bool, true, false, List, [], ◌∷◌, Option, Some, length, drop, refl, ap, arith, slice_get, option_map, bytes_eq}
use Rattle.std.proofs.lemmas.List.{drop_all}
use mathlib.Core.Bool.{beq}
use Rattle.std.specs.Cmp.Lexicographic.{pointwise}
use Rattle.inc_macro.specs.Macros.{BodyToken, same_body, same_bool, same_names}

pub same_body-len : (a b : List BodyToken) → (length a ≡ length b → ⊥) → same_body a b ≡ false
same_body-len [] [] other = absurd (other refl)
same_body-len [] (y ∷ b) other = refl
same_body-len (x ∷ a) [] other = refl
same_body-len (x ∷ a) (y ∷ b) other = rw (same_body-len a b (λ is. other (ap suc is))) (and_none (bytes_eq x.spelling y.spelling && same_bool x.space y.space))
  where
    and_none : (t : Bool) → (t && false) ≡ false
    and_none true = refl
    and_none false = refl

spelled : Option BodyToken → Option (List ℕ)
spelled o = option_map (λ (b : BodyToken). b.spelling) o

-- the tokens at one place, and what is left of both bodies
pub same_body-step : (a b : List BodyToken) (i : ℕ) (s t : List ℕ) (u v : Bool)
    → option_map (λ (x : BodyToken). x.spelling) (slice_get a i) ≡ Some s → option_map (λ (x : BodyToken). x.spelling) (slice_get b i) ≡ Some t
    → option_map (λ (x : BodyToken). x.space) (slice_get a i) ≡ Some u → option_map (λ (x : BodyToken). x.space) (slice_get b i) ≡ Some v
    → same_body (drop i a) (drop i b) ≡ (bytes_eq s t && same_bool u v && same_body (drop (suc i) a) (drop (suc i) b))
same_body-step [] b i s t u v hs ht hu hv = cc
same_body-step (x ∷ a) [] i s t u v hs ht hu hv = cc
same_body-step (x ∷ a) (y ∷ b) zero s t u v hs ht hu hv =
    let es : x.spelling ≡ s = cc in
    let et : y.spelling ≡ t = cc in
    let eu : x.space ≡ u = cc in
    let ev : y.space ≡ v = cc in
    rw (es, et, eu, ev) refl
same_body-step (x ∷ a) (y ∷ b) (suc i) s t u v hs ht hu hv = same_body-step a b i s t u v hs ht hu hv

pub same_body-none : (a b : List BodyToken) (i : ℕ) → length a ≡ i → length b ≡ i → same_body (drop i a) (drop i b) ≡ true
same_body-none a b i ha hb = rw (drop_all i a (omega arith), drop_all i b (omega arith)) refl

pub same_body-differ : (a b : List BodyToken) (i : ℕ) (s t : List ℕ)
    → option_map (λ (x : BodyToken). x.spelling) (slice_get a i) ≡ Some s → option_map (λ (x : BodyToken). x.spelling) (slice_get b i) ≡ Some t
    → bytes_eq s t ≡ false → same_body (drop i a) (drop i b) ≡ false
same_body-differ [] b i s t hs ht other = cc
same_body-differ (x ∷ a) [] i s t hs ht other = cc
same_body-differ (x ∷ a) (y ∷ b) zero s t hs ht other =
    let es : s ≡ x.spelling = cc in
    let et : t ≡ y.spelling = cc in
    let differ : bytes_eq x.spelling y.spelling ≡ false = rw (es, et) at other in
    rw differ refl
same_body-differ (x ∷ a) (y ∷ b) (suc i) s t hs ht other = same_body-differ a b i s t hs ht other

pub beq-is : (u v : Bool) → beq u v ≡ same_bool u v
beq-is true true = refl
beq-is true false = refl
beq-is false true = refl
beq-is false false = refl

pub same_names-is : (a b : List (List ℕ)) → same_names a b ≡ pointwise bytes_eq a b
same_names-is [] [] = refl
same_names-is [] (n ∷ ns) = refl
same_names-is (m ∷ ms) [] = refl
same_names-is (m ∷ ms) (n ∷ ns) = ap (λ t. bytes_eq m n && t) (same_names-is ms ns)
