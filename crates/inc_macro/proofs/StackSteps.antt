-- What is put aside of names, after one more is put aside or the last is taken back.
use Rattle.std.proofs.Common.{◌≡◌, ℕ, Bool, true, false, refl, sym, ap, ◌∙◌, subst, ◌++◌, cond, List, [], ◌∷◌, Option, Some, None, bytes_eq}
use Rattle.std.specs.Prelude.{IfSome}
use Rattle.std.specs.List.{AllByRecursion}
use Rattle.std.specs.Map.{lookup}
use Rattle.std.specs.Option.{option_map_or, option_to_list}
use Rattle.std.proofs.lemmas.Slice.Eq.{bytes_eq-Decides}
use Rattle.inc_macro.specs.Macros.{Definition}
use Rattle.inc_macro.specs.Tables.{AreNamed, IsNamed, Stacks, stack_of}

---- all of a list

pub all-push : {X : Type 0} (P : X → Type 0) (xs : List X) (x : X) → AllByRecursion P xs → P x → AllByRecursion P (xs ++ x ∷ [])
all-push P [] x all here = (here, tt)
all-push P (y ∷ ys) x all here = (all.0, all-push P ys x all.1 here)

pub all-pop : {X : Type 0} (P : X → Type 0) (xs : List X) (o : Option X) → AllByRecursion P (xs ++ option_to_list o) → AllByRecursion P xs × IfSome o P
all-pop P [] None all = (tt, tt)
all-pop P [] (Some x) all = (tt, all.0)
all-pop P (y ∷ ys) o all = let rest = all-pop P ys o all.1 in ((all.0, rest.0), rest.1)

---- one stack in the place of another

-- what a look-up that has one answer more, or one less, makes of the stacks
pub stack-put : (old new : Stacks) (name other : List ℕ) (o : Option (List (Option Definition)))
    → lookup (bytes_eq other) new ≡ cond (bytes_eq name other) o (lookup (bytes_eq other) old)
    → stack_of new other ≡ cond (bytes_eq name other) (option_map_or (λ os. os) o []) (stack_of old other)
stack-put old new name other o finds =
    ap (λ found. option_map_or {U = List (Option Definition)} (λ os. os) found []) finds ∙ by (bytes_eq name other)
  where
    by : (b : Bool) → option_map_or (λ os. os) (cond b o (lookup (bytes_eq other) old)) [] ≡ cond b (option_map_or (λ os. os) o []) (stack_of old other)
    by true = refl
    by false = refl

-- the definitions stay those of their names
pub named-put : (old new : Stacks) (name : List ℕ) (stack : List (Option Definition)) → AllByRecursion (IsNamed name) stack
    → ((other : List ℕ) → stack_of new other ≡ cond (bytes_eq name other) stack (stack_of old other)) → AreNamed old → AreNamed new
named-put old new name stack all is named other =
    subst (AllByRecursion (IsNamed other)) (sym (is other)) (by (bytes_eq name other) refl)
  where
    by : (b : Bool) → bytes_eq name other ≡ b → AllByRecursion (IsNamed other) (cond b stack (stack_of old other))
    by true same = subst (λ n. AllByRecursion (IsNamed n) stack) ((bytes_eq-Decides name other).0 same) all
    by false apart = named other
