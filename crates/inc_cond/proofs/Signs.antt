-- The spellings of operators: each has its own, none is that of `?`, `:` or a parenthesis; and where an expression stops.
use Rattle.std.proofs.Common.{◌≡◌, ℕ, Bool, true, false, ◌<◌, ◌≤◌, List, [], ◌∷◌, Option, Some, None, refl, subst, arith}
use Rattle.std.specs.Prelude.{◌==◌, ◌&&◌, codes, bytes_eq, find, if◌then◌else◌}
use Rattle.std.proofs.lemmas.Bool.{and_right, ne_eqb}
use Rattle.std.proofs.lemmas.Slice.Eq.{bytes_eq-Decides}
use Rattle.inc_cond.specs.declared.operators.Unary.{Unary}
use Rattle.inc_cond.specs.declared.operators.Unary.TheVariants.{Plus, Minus, Not, Complement}
use Rattle.inc_cond.specs.declared.operators.Binary.{Binary}
use Rattle.inc_cond.specs.declared.operators.Binary.TheVariants.{Or}
use Rattle.inc_cond.specs.Symbols.{Symbol, Constant, Sign, Stray}
use Rattle.inc_cond.specs.Expressions.{binaries, binary_of, binary_sign, binary_strength, unary_of, unary_sign}

---- spellings

pub unary_of-sign : (u : Unary) → unary_of (unary_sign u) ≡ Some u
unary_of-sign Plus = refl
unary_of-sign _ = refl

pub unary-no_parenthesis : (u : Unary) → bytes_eq (unary_sign u) (codes "(") ≡ false
unary-no_parenthesis Plus = refl
unary-no_parenthesis _ = refl

pub binary_of-sign : (o : Binary) → binary_of (binary_sign o) ≡ Some o
binary_of-sign Or = refl
binary_of-sign _ = refl

pub binary-no_question : (o : Binary) → bytes_eq (binary_sign o) (codes "?") ≡ false
binary-no_question Or = refl
binary-no_question _ = refl

pub binary-some : (o : Binary) → 1 ≤ binary_strength o
binary-some Or = omega arith
binary-some _ = omega arith

pub binary-most : (o : Binary) → binary_strength o ≤ 10
binary-most Or = omega arith
binary-most _ = omega arith

-- what is found passes the test
found-passes : {A : Type 0} (test : A → Bool) (xs : List A) (x : A) → find test xs ≡ Some x → test x ≡ true
found-passes {A} test [] x e = cc
found-passes {A} test (y ∷ ys) x e = by (test y) refl (found-passes test ys x) e
  where
    by : (b : Bool) → test y ≡ b → (find test ys ≡ Some x → test x ≡ true) → (if b then Some y else find test ys) ≡ Some x → test x ≡ true
    by true t again f = let same : y ≡ x = cc in subst (λ z. test z ≡ true) same t
    by false t again f = again f

pub unary_of-is : (s : List ℕ) (u : Unary) → unary_of s ≡ Some u → s ≡ unary_sign u
unary_of-is s u e = (bytes_eq-Decides s (unary_sign u)).0 (found-passes (λ v. bytes_eq s (unary_sign v)) (Plus ∷ Minus ∷ Not ∷ Complement ∷ []) u e)

pub binary_of-is : (s : List ℕ) (o : Binary) → binary_of s ≡ Some o → s ≡ binary_sign o
binary_of-is s o e = (bytes_eq-Decides s (binary_sign o)).0 (found-passes (λ v. bytes_eq s (binary_sign v)) binaries o e)

---- where an expression stops

-- an operator is weaker
abbrev pub IsWeaker : ℕ → Option Binary → Type 0
IsWeaker least None = Unit {0}
IsWeaker least (Some o) = binary_strength o < least

-- what is here does not continue an expression that binds at least so tightly
abbrev pub Stops : ℕ → List Symbol → Type 0
Stops least [] = Unit {0}
Stops least (Constant v ∷ ss) = Unit {0}
Stops least (Sign s ∷ ss) = ((bytes_eq s (codes "?") && (least == 0)) ≡ false) × IsWeaker least (binary_of s)
Stops least (Stray ∷ ss) = Unit {0}

weaker-more : (m n : ℕ) (o : Option Binary) → m ≤ n → IsWeaker m o → IsWeaker n o
weaker-more m n None l w = tt
weaker-more m n (Some o) l w = omega arith

weaker-all : (m : ℕ) (o : Option Binary) → 11 ≤ m → IsWeaker m o
weaker-all m None l = tt
weaker-all m (Some o) l = omega (arith, binary-most o)

-- no choice begins where something binds at least by 1
pub no_question : (s : List ℕ) (m : ℕ) → 1 ≤ m → (bytes_eq s (codes "?") && (m == 0)) ≡ false
no_question s m l = and_right (bytes_eq s (codes "?")) (m == 0) (ne_eqb m 0 (λ e. omega arith))

pub stops-more : (m n : ℕ) (ss : List Symbol) → m ≤ n → 1 ≤ n → Stops m ss → Stops n ss
stops-more m n [] l k st = tt
stops-more m n (Constant v ∷ ss) l k st = tt
stops-more m n (Sign s ∷ ss) l k st = (no_question s n k, weaker-more m n (binary_of s) l st.1)
stops-more m n (Stray ∷ ss) l k st = tt

pub stops-all : (m : ℕ) (ss : List Symbol) → 11 ≤ m → Stops m ss
stops-all m [] l = tt
stops-all m (Constant v ∷ ss) l = tt
stops-all m (Sign s ∷ ss) l = (no_question s m (omega arith), weaker-all m (binary_of s) l)
stops-all m (Stray ∷ ss) l = tt
