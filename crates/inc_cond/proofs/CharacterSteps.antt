-- Steps of the reading of character constants of GNU C.
use Rattle.std.specs.Prelude.{if◌then◌else◌}
use Rattle.std.proofs.Common.{◌≡◌, ◌∙◌, ◌+◌, ℕ, zero, suc, Bool, true, false, List, [], ◌∷◌, Option, Some, None, drop, nat_lt, ap, ap₂, refl, sym}
use Rattle.std.proofs.lemmas.Option.{same_Some}
use Rattle.std.proofs.lemmas.Bool.{cond-true}
use Rattle.inc_cond.specs.declared.characters.Code.{Code}
use Rattle.inc_cond.specs.declared.values.Value.{Value}
use Rattle.inc_cond.specs.GnuCharacters.{code_at, int_from, with_code}

-- bytes that went with a code are passed
pub passed : (count value skip : ℕ) (bs : List ℕ) → int_from count value skip bs ≡ int_from count value 0 (drop skip bs)
passed count value zero bs = refl
passed count value (suc skip) [] = refl
passed count value (suc skip) (b ∷ bs) = passed count value skip bs

-- what a text comes to by the code that it begins with
abbrev next_of : (count value : ℕ) → List ℕ → Option Code → Option Value
next_of count value bs None = None
next_of count value bs (Some c) = if nat_lt c.code 256 then int_from (count + 1) (with_code value c.code) c.more bs else None

-- a code of 8 bits
small_code : (count value b : ℕ) (bs : List ℕ) (c : Code) → code_at b bs ≡ Some c → nat_lt c.code 256 ≡ true
    → int_from count value 0 (b ∷ bs) ≡ int_from (count + 1) (with_code value c.code) 0 (drop c.more bs)
small_code count value b bs c e small =
    ap (λ (o : Option Code). next_of count value bs o) e ∙ cond-true _ _ _ small ∙ passed (count + 1) (with_code value c.code) c.more bs

-- the same where it is known what the codes come to with it
pub next_code : (count value b next : ℕ) (bs after : List ℕ) (c : Code) → code_at b bs ≡ Some c
    → (if nat_lt c.code 256 then Some (with_code value c.code) else None) ≡ Some next → after ≡ drop c.more bs
    → int_from count value 0 (b ∷ bs) ≡ int_from (count + 1) next 0 after
next_code count value b next bs after c e come is = go (nat_lt c.code 256) refl come where
  go : (small : Bool) → nat_lt c.code 256 ≡ small → (if small then Some (with_code value c.code) else None) ≡ Some next
      → int_from count value 0 (b ∷ bs) ≡ int_from (count + 1) next 0 after
  go true k h =
      small_code count value b bs c e k ∙ ap₂ (λ (v : ℕ) (l : List ℕ). int_from (count + 1) v 0 l) (same_Some _ _ h) (sym is)
  go false k h = cc
