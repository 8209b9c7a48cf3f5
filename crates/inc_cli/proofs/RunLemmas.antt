-- How a run goes on after a reading.
use Rattle.std.proofs.Common.{◌≡◌, ◌≢◌, ◌∙◌, ℕ, List, ap, Option, Some, None, Result, Ok, Err, Bool, true, false, sym, refl, subst}
use Rattle.std.specs.Io.KnownBytes.{Keeps}
use Rattle.inc_inputs.proofs.StepLemmas.{apart, is_value, then_err, then_ok}
use Rattle.inc_args.specs.Meaning.{Meaning}
use Rattle.inc_cli.specs.Outputs.{Answer, Following, Follows, IsRun, Output}
use Rattle.inc_cli.specs.Processes.{IsTold, IsToldRun}
use Rattle.inc_cli.specs.declared.runs.Ended.TheVariants.{Status}
use Rattle.inc_inputs.specs.Reports.{Report, out_of_memory}
use Rattle.inc_inputs.specs.declared.failures.Hindrance.{Hindrance}
use Rattle.inc_inputs.specs.Texts.{unless, unless_reported}
use Rattle.inc_inputs.specs.Steps.{Comes, Step, comes_to, judged, next_of, then}

module _ {S A B : Type 0} (first : Step S A) (next : A → Step S B) (P : Following S B) (old mid : S) (out : Output) (answer : Result Answer Report) where
  -- after a value
  pub run_then : (x : Result A Report) (a : A) → x ≡ Ok a → Comes first old x mid → IsRun (next a) P mid out answer → IsRun (then first next) P old out answer
  run_then x a e one r =
      let read : first old (Ok a) mid = subst (λ y. first old y mid) e (one (is_value x a out_of_memory e)) in
      record {
        asked = r.asked;
        mid = r.mid;
        reads = then_ok first next old mid r.mid a r.asked read r.reads;
        follows = r.follows;
      }

  -- after a failure, unless memory ran out
  pub run_err : (x : Result A Report) (r : Report) → x ≡ Err r → answer ≡ Err r → Comes first old x mid → Keeps out.before out.after
      → answer ≢ Err out_of_memory → IsRun (then first next) P old out answer
  run_err x r e f one keeps not = record {
    asked = Err r;
    mid = mid;
    reads = then_err first next old mid r (subst (λ y. first old y mid) e (one (apart x answer r e f not)));
    follows = (f, keeps);
  }

  -- after a reading, whatever it came to
  pub run_read : (x : Result A Report) → Comes first old x mid → answer ≢ Err out_of_memory → IsRun (next_of next x) P mid out answer
      → IsRun (then first next) P old out answer
  run_read (Ok a) one not r = run_then (Ok a) a refl one r
  run_read (Err e) one not r =
      let f : Follows P (Err e) r.mid out answer = subst (λ a. Follows P a r.mid out answer) r.reads.0 r.follows in
      run_err (Err e) e refl f.0 one f.1 not

-- a step that is taken
pub run_unless : {S A : Type 0} (b : Bool) (report : Report) (step : Step S A) (P : Following S A) (old : S) (out : Output) (answer : Result Answer Report)
    → b ≡ false → IsRun step P old out answer → IsRun (unless b report step) P old out answer
run_unless b report step P old out answer e r = subst (λ c. IsRun (unless c report step) P old out answer) (sym e) r

-- one that is not
pub run_not : {S A : Type 0} (b : Bool) (report : Report) (step : Step S A) (P : Following S A) (old : S) (out : Output) (answer : Result Answer Report)
    → b ≡ true → answer ≡ Err report → Keeps out.before out.after → IsRun (unless b report step) P old out answer
run_not {S} {A} b report step P old out answer e f keeps =
    subst (λ c. IsRun (unless c report step) P old out answer) (sym e)
    (record { asked = Err report; mid = old; reads = (refl, refl); follows = (f, keeps) })

module _ {S A B : Type 0} (x : Result A Report) (next : A → Step S B) (P : Following S B) (old : S) (out : Output) (answer : Result Answer Report) where
  -- after what is known without a reading
  pub run_came : (a : A) → x ≡ Ok a → IsRun (next a) P old out answer → IsRun (then (comes_to x) next) P old out answer
  run_came a e r = record {
    asked = r.asked;
    mid = r.mid;
    reads = then_ok (comes_to x) next old old r.mid a r.asked (sym e, refl) r.reads;
    follows = r.follows;
  }

  pub run_came_err : (r : Report) → x ≡ Err r → answer ≡ Err r → Keeps out.before out.after → IsRun (then (comes_to x) next) P old out answer
  run_came_err r e f keeps = record {
    asked = Err r;
    mid = old;
    reads = then_err (comes_to x) next old old r (sym e, refl);
    follows = (f, keeps);
  }

module _ {S A B : Type 0} (J : Result A Report → Type 0) (next : A → Step S B) (P : Following S B) (old : S) (out : Output) (answer : Result Answer Report) where
  -- after what is judged without a reading
  pub run_judged : (a : A) → J (Ok a) → IsRun (next a) P old out answer → IsRun (then (judged J) next) P old out answer
  run_judged a j r = record {
    asked = r.asked;
    mid = r.mid;
    reads = then_ok (judged J) next old old r.mid a r.asked (j, refl) r.reads;
    follows = r.follows;
  }

  pub run_judged_err : (r : Report) → J (Err r) → answer ≡ Err r → Keeps out.before out.after → IsRun (then (judged J) next) P old out answer
  run_judged_err r j f keeps = record {
    asked = Err r;
    mid = old;
    reads = then_err (judged J) next old old r (j, refl);
    follows = (f, keeps);
  }

-- where nothing is left to read
pub run_here : {S A : Type 0} (a : A) (P : Following S A) (old : S) (out : Output) (answer : Result Answer Report) → P a old out answer
    → IsRun (comes_to (Ok a)) P old out answer
run_here a P old out answer p = record { asked = Ok a; mid = old; reads = (refl, refl); follows = p }

-- a run whose end is told keeps what is said of its answer, unless memory ran out
pub told_run : (P : Meaning → Result Answer Report → Type 0) (a b : Meaning) (messages : Output) (h : Hindrance) (answer : Result Answer Report) (status : ℕ) → a ≡ b
    → IsTold a.is_quiet h answer status messages → (answer ≢ Err out_of_memory → P a answer) → IsToldRun b.is_quiet (P b) messages (Status status)
told_run P a b messages h (Ok x) status same told kept =
    λ other. (Ok x, h, subst (λ (m : Meaning). IsTold m.is_quiet h (Ok x) status messages) same told, subst (λ m. P m (Ok x)) same (kept (λ is. cc)))
told_run P a b messages h (Err r) status same told kept =
    λ other. (Err r, h, told, subst (λ m. P m (Err r)) same (kept (λ is. other (told.0 ∙ ap status_in is))))
  where
    status_in : Result Answer Report → ℕ
    status_in (Ok e) = 0
    status_in (Err x) = x.status

-- a step that is taken, since nothing is to be reported
pub run_unreported : {S A : Type 0} (o : Option Report) (step : Step S A) (P : Following S A) (old : S) (out : Output) (answer : Result Answer Report)
    → o ≡ None → IsRun step P old out answer → IsRun (unless_reported o step) P old out answer
run_unreported o step P old out answer e r = subst (λ c. IsRun (unless_reported c step) P old out answer) (sym e) r

-- one that is not
pub run_reported : {S A : Type 0} (o : Option Report) (report : Report) (step : Step S A) (P : Following S A) (old : S) (out : Output) (answer : Result Answer Report)
    → o ≡ Some report → answer ≡ Err report → Keeps out.before out.after → IsRun (unless_reported o step) P old out answer
run_reported {S} {A} o report step P old out answer e f keeps =
    subst (λ c. IsRun (unless_reported c step) P old out answer) (sym e)
    (record { asked = Err report; mid = old; reads = (refl, refl); follows = (f, keeps) })

-- where nothing came of a reading, that is the end
pub run_failed : {S A : Type 0} (report : Report) (P : Following S A) (old : S) (out : Output) (answer : Result Answer Report)
    → answer ≡ Err report → Keeps out.before out.after → IsRun (comes_to (Err report)) P old out answer
run_failed report P old out answer f keeps = record { asked = Err report; mid = old; reads = (refl, refl); follows = (f, keeps) }

module _ {S A : Type 0} (J : Result A Report → Type 0) (P : Following S A) (old : S) (out : Output) (answer : Result Answer Report) where
  -- what is judged is followed at once
  pub run_told : (a : A) → J (Ok a) → P a old out answer → IsRun (judged J) P old out answer
  run_told a j p = record { asked = Ok a; mid = old; reads = (j, refl); follows = p }

  pub run_told_err : (r : Report) → J (Err r) → answer ≡ Err r → Keeps out.before out.after → IsRun (judged J) P old out answer
  run_told_err r j f keeps = record { asked = Err r; mid = old; reads = (j, refl); follows = (f, keeps) }
