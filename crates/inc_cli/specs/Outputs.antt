-- What a run prints once its lists are read, and how it ends.
use Rattle.std.specs.Prelude.{◌≡◌, ℕ, Bool, List, [], Option, Result, Ok, Err, slice_index_or}
use Rattle.std.specs.Io.KnownBytes.{Keeps}
use Rattle.inc_answers.specs.declared.outcome.End.{End}
use Rattle.inc_answers.specs.declared.outcome.RunFault.{RunFault}
use Rattle.inc_answers.specs.declared.outcome.RunFault.TheVariants as run
use Rattle.inc_inputs.specs.Reports.{Report, cannot_read, cannot_write, file_too_long, out_of_memory, shown}
use Rattle.inc_inputs.specs.Steps.{Step}

-- the output: what it held before and after, as far as that is known, and whether it has failed
pub record Output : Type 0 where
  pub before : Option (List ℕ)
  pub after : Option (List ℕ)
  pub failed : Bool

-- what is reported of a call that prints, in a project whose files have these paths, with a certificate of this name
abbrev pub run_report : RunFault → (written : List (List ℕ)) → (certificate : List ℕ) → Report
run_report (run.CannotRead file) written certificate = cannot_read (shown (slice_index_or written file []))
run_report (run.FileTooLong file) written certificate = file_too_long (shown (slice_index_or written file []))
run_report run.CannotReadCertificate written certificate = cannot_read certificate
run_report run.Write written certificate = cannot_write
run_report run.NoMemory written certificate = out_of_memory

-- how a run ended that was answered, and what is noted of its words
pub record Answer : Type 0 where
  pub end : End
  pub notes : List ℕ

-- how a call that prints ended, with what was noted before it, or the report of its failure
abbrev pub ended : (notes : List ℕ) → (paths : List (List ℕ)) → (certificate : List ℕ) → Result End RunFault → Result Answer Report
ended notes paths certificate (Ok end) = Ok (record { end = end; notes = notes })
ended notes paths certificate (Err fault) = Err (run_report fault paths certificate)

-- what follows the reading of lists that came to a value: from a state of the inputs on, what is printed and how the run ends
abbrev pub Following : Type 0 → Type 0 → Type 1
Following S A = A → S → Output → Result Answer Report → Type 0

-- the same after any reading: after a failure nothing is printed
abbrev pub Follows : {S A : Type 0} → Following S A → Result A Report → S → Output → Result Answer Report → Type 0
Follows P (Ok a) old out answer = P a old out answer
Follows P (Err r) old out answer = (answer ≡ Err r) × Keeps out.before out.after

-- lists are read, and what they come to is followed
pub record IsRun {S A : Type 0} (step : Step S A) (P : Following S A) (old : S) (out : Output) (answer : Result Answer Report) : Type 0 where
  -- what the lists come to
  pub asked : Result A Report
  -- the state of the inputs after them
  pub mid : S
  pub reads : step old asked mid
  pub follows : Follows P asked mid out answer
