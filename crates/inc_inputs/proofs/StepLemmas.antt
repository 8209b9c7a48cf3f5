-- How steps go one after the other.
use Rattle.std.proofs.Common.{◌≡◌, ◌≢◌, ◌∙◌, ap, Result, Ok, Err, IfErr, OkIff, refl, subst, sym}
use Rattle.std.proofs.lemmas.Result.{IfErr-at_err, OkIff-at_err}
use Rattle.std.specs.Result.{IsErrAnd}
use Rattle.inc_inputs.specs.Reports.{Report, out_of_memory, report_of}
use Rattle.inc_inputs.specs.Views.{seen}
use Rattle.inc_inputs.specs.declared.failures.Failure.{Failure}
use Rattle.inc_inputs.specs.Steps.{Comes, Step, next_of, then}

-- the step after a value
pub then_ok : {S A B : Type 0} (first : Step S A) (next : A → Step S B) (old mid new : S) (a : A) (answer : Result B Report) → first old (Ok a) mid
    → next a mid answer new → then first next old answer new
then_ok first next old mid new a answer one two = (Ok a, mid, one, two)

-- a failure ends the run
pub then_err : {S A B : Type 0} (first : Step S A) (next : A → Step S B) (old new : S) (r : Report) → first old (Err r) new
    → then first next old (Err r) new
then_err first next old new r one = (Err r, new, one, (refl, refl))

-- a value is no failure
pub is_value : {S A : Type 0} (x : Result A S) (a : A) (r : S) → x ≡ Ok a → x ≢ Err r
is_value x a r e f = OkIff-at_err x (a ≡ a) a r (subst (λ y. OkIff y (a ≡ a) a) (sym e) (refl, refl)) f refl

-- the step after one that came to a value
pub comes_then : {S A B : Type 0} (first : Step S A) (next : A → Step S B) (old mid new : S) (x : Result A Report) (a : A) (answer : Result B Report)
    → x ≡ Ok a → Comes first old x mid → next a mid answer new → then first next old answer new
comes_then first next old mid new x a answer e one two =
    (x, mid, one (is_value x a out_of_memory e), subst (λ r. next_of next r mid answer new) (sym e) two)

-- two answers with the same report: where one is not want of memory, the other is not
pub apart : {A B : Type 0} (x : Result A Report) (y : Result B Report) (r : Report) → x ≡ Err r → y ≡ Err r → y ≢ Err out_of_memory
    → x ≢ Err out_of_memory
apart x y r ex ey not f =
    not (ey ∙ ap (λ q. Err q) (IfErr-at_err (λ q. r ≡ q) f (subst (λ s. IfErr s (λ q. r ≡ q)) (sym ex) refl)))

-- a failure ends the run, unless memory ran out
pub comes_err : {S A B : Type 0} (first : Step S A) (next : A → Step S B) (old new : S) (x : Result A Report) (y : Result B Report) (r : Report)
    → x ≡ Err r → y ≡ Err r → Comes first old x new → Comes (then first next) old y new
comes_err first next old new x y r ex ey one not =
    subst (λ z. then first next old z new) (sym ey)
    (then_err first next old new r (subst (λ z. first old z new) ex (one (apart x y r ex ey not))))

-- a failure that is passed on is shown by its report
pub passed : {A B : Type 0} (view : A → B) (x : Result A Failure) (f : Failure) → IsErrAnd x (λ e. e ≡ f) → seen view x ≡ Err (report_of f)
passed view (Ok a) f h = absurd h
passed view (Err e) f h = ap (λ q. Err (report_of q)) h

-- the same, unless memory ran out
pub comes_on : {S A B : Type 0} (first : Step S A) (next : A → Step S B) (old mid new : S) (x : Result A Report) (a : A) (answer : Result B Report)
    → x ≡ Ok a → Comes first old x mid → Comes (next a) mid answer new → Comes (then first next) old answer new
comes_on first next old mid new x a answer e one two not = comes_then first next old mid new x a answer e one (two not)
