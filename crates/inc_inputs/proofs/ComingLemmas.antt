-- A step after another one, by what each comes to.
use Rattle.std.proofs.Common.{◌≡◌, ◌≢◌, Result, Ok, Err, refl}
use Rattle.inc_inputs.specs.Reports.{Report, out_of_memory}
use Rattle.inc_inputs.specs.Steps.{Comes, Step, comes_to, then}
use Rattle.inc_inputs.proofs.StepLemmas.{comes_err, comes_on}

-- a failure, where a value could be
abbrev failed : (A : Type 0) → Report → Result A Report
failed A r = Err r

module _ {S A B : Type 0} where
  pub next_err : (first : Step S A) (next : A → Step S B) (old new : S) (r : Report) → Comes first old (Err r) new → Comes (then first next) old (Err r) new
  next_err first next old new r one = comes_err first next old new (Err r) (Err r) r refl refl one

  pub next_on : (first : Step S A) (next : A → Step S B) (old mid new : S) (a : A) (answer : Result B Report) → Comes first old (Ok a) mid
      → Comes (next a) mid answer new → Comes (then first next) old answer new
  next_on first next old mid new a answer one two = comes_on first next old mid new (Ok a) a answer refl one two

  -- nothing is read for the first step
  pub known_err : (x : Result A Report) (next : A → Step S B) (old : S) (r : Report) → (failed A r ≢ Err out_of_memory → failed A r ≡ x)
      → Comes (then (comes_to x) next) old (Err r) old
  known_err x next old r is = next_err (comes_to x) next old old r (λ not. (is not, refl))

  pub known_on : (x : Result A Report) (next : A → Step S B) (old new : S) (a : A) (answer : Result B Report) → (Ok a ≢ Err out_of_memory → Ok a ≡ x)
      → Comes (next a) old answer new → Comes (then (comes_to x) next) old answer new
  known_on x next old new a answer is two = next_on (comes_to x) next old old new a answer (λ not. (is not, refl)) two

  -- nor for the second one
  pub last_on : (first : Step S A) (value : A → Result B Report) (old mid : S) (a : A) (answer : Result B Report) → Comes first old (Ok a) mid
      → (answer ≢ Err out_of_memory → answer ≡ value a) → Comes (then first (λ x. comes_to (value x))) old answer mid
  last_on first value old mid a answer one is = next_on first (λ x. comes_to (value x)) old mid mid a answer one (λ not. (is not, refl))
