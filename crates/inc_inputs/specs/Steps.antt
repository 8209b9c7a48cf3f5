-- Steps of a run. A step leads from one state of the inputs to another, and comes to a value, or to the report of a failure, which ends the
-- run. So what is read, in which order, and which failure is the first is said by one definition.
use Rattle.std.specs.Prelude.{◌≡◌, ◌≢◌, ℕ, Bool, true, false, List, [], ◌∷◌, Option, Some, None, Result, Ok, Err}
use Rattle.inc_text.specs.declared.devices.ReadFault.{ReadFault}
use Rattle.inc_inputs.specs.Inputs.{Gives, Input, Puts, named}
use Rattle.inc_inputs.specs.Reports.{Report, cannot_write_file, out_of_memory, read_report}

abbrev pub Step : Type 0 → Type 0 → Type 1
Step S A = S → Result A Report → S → Type 0

-- nothing is read, and this is what the step comes to
abbrev pub comes_to : {S A : Type 0} → Result A Report → Step S A
comes_to x old answer new = (answer ≡ x) × (new ≡ old)

-- nothing is read, and the step comes to something of which P holds
abbrev pub judged : {S A : Type 0} → (Result A Report → Type 0) → Step S A
judged P old answer new = P answer × (new ≡ old)

-- the step that a value asks for; a failure ends the run
abbrev pub next_of : {S A B : Type 0} → (A → Step S B) → Result A Report → Step S B
next_of next (Ok a) = next a
next_of next (Err report) = comes_to (Err report)

-- one step, then the one that its value asks for
abbrev pub then : {S A B : Type 0} → Step S A → (A → Step S B) → Step S B
then {S} {A} {B} first next old answer new = (x : Result A Report) × (mid : S) × first old x mid × next_of next x mid answer new

-- a step for each of these, from what the one before it came to
abbrev pub each : {S A B : Type 0} → (step : B → A → Step S A) → List B → A → Step S A
each step [] a = comes_to (Ok a)
each step (b ∷ bs) a = then (step b a) (each step bs)

-- a reading as a step
abbrev pub reported : (name : List ℕ) → Result (List ℕ) ReadFault → Result (List ℕ) Report
reported name (Ok bytes) = Ok bytes
reported name (Err fault) = Err (read_report fault name)

-- an input is read that has this name in reports
abbrev pub reads_as : {S : Type 0} → Gives S → (name : List ℕ) → Input → Step S (List ℕ)
reads_as gives name input old answer new = (x : Result (List ℕ) ReadFault) × gives old input x new × (answer ≡ reported name x)

-- what a word names is read
abbrev pub reads : {S : Type 0} → Gives S → (name : List ℕ) → Step S (List ℕ)
reads gives name = reads_as gives name (named name)

-- the same where there is such a word, and else nothing
abbrev pub reads_if : {S : Type 0} → Gives S → Option (List ℕ) → Step S (List ℕ)
reads_if gives None = comes_to (Ok [])
reads_if gives (Some name) = reads gives name

-- what a writing comes to, of the whole text or not
abbrev pub wrote : (name : List ℕ) → (whole : Bool) → Result (Unit {0}) Report
wrote name true = Ok tt
wrote name false = Err (cannot_write_file name)

-- this text is written to the file that a word names
abbrev pub writes_file : {S : Type 0} → Puts S → (name text : List ℕ) → Step S (Unit {0})
writes_file puts name text old answer new =
    (whole : Bool) × puts old name text whole new × (answer ≡ wrote name whole)

-- the same where there is such a word, and else nothing
abbrev pub writes_if : {S : Type 0} → Puts S → (name : Option (List ℕ)) → (text : List ℕ) → Step S (Unit {0})
writes_if puts None text = comes_to (Ok tt)
writes_if puts (Some name) text = writes_file puts name text

-- what a step comes to, unless memory ran out
abbrev pub Comes : {S A : Type 0} → Step S A → S → Result A Report → S → Type 0
Comes step old answer new = answer ≢ Err out_of_memory → step old answer new
